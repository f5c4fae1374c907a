use Rattle.std.proofs.Common.{Some, None, sym, ap, ◌∙◌}
use Rattle.mj_subs.specs.Collation.{subscript_cmp}
use Rattle.mj_store.specs.Nodes.{subtree}
use Rattle.std.specs.Map.{lookup}
use Rattle.std.specs.BTreeMap.{is_at}
use Rattle.mj_tree.specs.Rows.{places}
use Rattle.mj_tree.proofs.Nest.{subtree_whole, no_elements}
use Rattle.mj_tree.proofs.Whole.{subtree_in, child_of, ordered_in}
use Rattle.mj_tree.proofs.node.Node.+at.Goals as goal

pub get-requires : goal.get-requires
get-requires t c = ordered_in c.self.inside.children c.in-Some.children c.deref.result.now c.self.invariant c.in-Some.is c.deref.ensures

pub returns-in-empty : goal.returns-in-empty
returns-in-empty t c = sym (ap (λ p. subtree subscript_cmp p c.args.self.now) (no_elements c.args.path.now c.in-empty.len_below) ∙ subtree_whole subscript_cmp c.args.self.now)

pub returns-in-None : goal.returns-in-None
returns-in-None t c =
    sym (subtree_in c.args.path.now c.sub-item.result c.in-len1-up.len_at_least c.sub-item.is c.args.self.now c.self.inside.text c.self.inside.children c.self.view_is c.self.invariant None
    (ap (λ cs. lookup (is_at (subscript_cmp c.sub-item.result)) (places cs)) (sym c.in-None.is)))

pub returns-in-None-get : goal.returns-in-None-get
returns-in-None-get t c =
    sym (subtree_in c.args.path.now c.sub-item.result c.in-len1-up.len_at_least c.sub-item.is c.args.self.now c.self.inside.text c.self.inside.children c.self.view_is c.self.invariant None
    (child_of c.sub-item.result c.self.inside.children c.in-Some.children c.deref.result.now None c.in-None-get.ensures c.deref.ensures c.in-Some.is))

pub returns-in-Some-get : goal.returns-in-Some-get
returns-in-Some-get t c =
    c.at.ensures
    ∙ sym (subtree_in c.args.path.now c.sub-item.result c.in-len1-up.len_at_least c.sub-item.is c.args.self.now c.self.inside.text c.self.inside.children c.self.view_is c.self.invariant
    (Some c.in-Some-get.child.now)
    (child_of c.sub-item.result c.self.inside.children c.in-Some.children c.deref.result.now (Some c.in-Some-get.child.now) c.in-Some-get.ensures c.deref.ensures c.in-Some.is))
