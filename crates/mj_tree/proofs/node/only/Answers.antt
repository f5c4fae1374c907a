use Rattle.std.proofs.Common.{subst, sym, ap, ◌∙◌}
use Rattle.mj_tree.specs.declared.children.Children.{Children}
use Rattle.mj_tree.specs.Rows.{IsSound, live, all_of}
use Rattle.mj_tree.proofs.Written.{can_start, alone}
use Rattle.mj_tree.proofs.node.only.Goals as goal

pub add-requires : goal.add-requires
add-requires c = can_start c.new-children.result c.args.sub.now c.args.child c.new-children.ensures.row c.new-children.ensures.others c.requires

pub returns-clause-sound : goal.returns-clause-sound
returns-clause-sound c = subst (λ (x : Children). IsSound x) (sym c.in_ok-new.ensures.ok) c.add.ensures.sound

pub returns-clause-alone : goal.returns-clause-alone
returns-clause-alone c =
    ap (λ x. live (all_of x)) c.in_ok-new.ensures.ok
    ∙ alone c.new-children.result c.add.new.self c.args.sub.now c.args.child c.new-children.ensures.row c.new-children.ensures.others c.in_ok-add.ensures.ok
