use Rattle.std.proofs.Common.{Some, None, sym, ap, ◌∙◌}
use Rattle.std.specs.Prelude.{option_copied}
use Rattle.std.specs.Map.{lookup}
use Rattle.std.specs.BTreeMap.{is_at}
use Rattle.std.proofs.lemmas.Result.{IfOk-weaker}
use Rattle.mj_subs.specs.Collation.{subscript_cmp}
use Rattle.mj_store.specs.Nodes.{subtree}
use Rattle.mj_tree.specs.Rows.{places}
use Rattle.mj_tree.proofs.Nest.{subtree_whole, no_elements}
use Rattle.mj_tree.proofs.Whole.{subtree_in, child_of, ordered_in}
use Rattle.mj_tree.proofs.node.Node.+at_texts.Goals as goal

pub get_at-requires : goal.get_at-requires
get_at-requires t c = ordered_in c.self.inside.children c.in-Some.children c.deref.result.now c.self.invariant c.in-Some.is c.deref.ensures

pub returns-in-empty : goal.returns-in-empty
returns-in-empty t c = sym (ap (λ p. subtree subscript_cmp p c.args.self.now) (no_elements c.args.path.now c.in-empty.len_below) ∙ subtree_whole subscript_cmp c.args.self.now)

pub returns-in-None : goal.returns-in-None
returns-in-None t c =
    sym (subtree_in c.args.path.now c.text-item.result c.in-len1-up.len_at_least c.text-item.is c.args.self.now c.self.inside.text c.self.inside.children c.self.view_is c.self.invariant None
    (ap (λ cs. lookup (is_at (subscript_cmp c.text-item.result)) (places cs)) (sym c.in-None.is)))

pub returns-in-None-2 : goal.returns-in-None-2
returns-in-None-2 t c =
    sym (subtree_in c.args.path.now c.text-item.result c.in-len1-up.len_at_least c.text-item.is c.args.self.now c.self.inside.text c.self.inside.children c.self.view_is c.self.invariant None
    (child_of c.text-item.result c.self.inside.children c.in-Some.children c.deref.result.now None (sym (ap option_copied c.in-None-2.is) ∙ c.in_ok-get_at-in-Some.ensures) c.deref.ensures
    c.in-Some.is))

pub returns-in-Some-2 : goal.returns-in-Some-2
returns-in-Some-2 t c =
    let whole =
    subtree_in c.args.path.now c.text-item.result c.in-len1-up.len_at_least c.text-item.is c.args.self.now c.self.inside.text c.self.inside.children c.self.view_is c.self.invariant
    (Some c.in-Some-2.child.now)
    (child_of c.text-item.result c.self.inside.children c.in-Some.children c.deref.result.now (Some c.in-Some-2.child.now) (sym (ap option_copied c.in-Some-2.is) ∙ c.in_ok-get_at-in-Some.ensures)
    c.deref.ensures c.in-Some.is) in
    IfOk-weaker c.at_texts.result _ _ (λ node e. e ∙ sym whole) c.at_texts.ensures
