use Rattle.std.proofs.Common.{◌≡◌, true, false, refl, sym, ap, ◌∙◌}
use Rattle.mj_tree.specs.Rows.{all_of}
use Rattle.mj_tree.proofs.Kills.{some_node}
use Rattle.mj_tree.proofs.children.kept.Goals as goal

pub returns-then-is_empty-clause-places : goal.returns-then-is_empty-clause-places
returns-then-is_empty-clause-places c = sym (c.if-is_empty.ensures.0 refl) ∙ ap all_of c.deref.ensures

pub returns-clause-sound : goal.returns-clause-sound
returns-clause-sound c = (c.requires, some_node (all_of c.args.children.value) (λ e. let f : false ≡ true = c.if-is_empty.ensures.1 (ap all_of c.deref.ensures ∙ e) in absurd cc))
