use Rattle.std.proofs.Common.{sym, ap, ◌∙◌}
use Rattle.std.specs.Map.{keys_of}
use Rattle.mj_subs.specs.Collation.{subscript_cmp}
use Rattle.mj_subs.specs.Laws.Total.{subscript_cmp_total}
use Rattle.mj_store.specs.declared.store.Direction.{Direction}
use Rattle.mj_store.specs.declared.store.Direction.TheVariants as way
use Rattle.mj_store.specs.Nodes.{is_empty, subtree, first_subscripts, next_past}
use Rattle.mj_store.specs.Questions.{Subtree}
use Rattle.mj_tree.specs.Rows.{all_of, places, live}
use Rattle.mj_tree.proofs.Orders.{order_places}
use Rattle.mj_tree.proofs.node.Node.order.Goals as goal

-- without children there is no subscript of the first level
pub returns-in-None-children : goal.returns-in-None-children
returns-in-None-children c =
    ap (λ cs. next_past subscript_cmp c.args.direction (is_empty c.args.last.now) c.args.last.now (keys_of (live (places cs)))) (sym c.in-None-children.is)
    ∙ sym (order_places subscript_cmp_total c.args.direction (is_empty c.args.last.now) c.args.last.now c.node.inside.text (places c.node.inside.children))
    ∙ ap (λ (n : Subtree). next_past subscript_cmp c.args.direction (is_empty c.args.last.now) c.args.last.now (first_subscripts n)) (c.node.view_is ∙ c.in-Some.ensures)

-- else they are those of the children
pub returns-in-Forward : goal.returns-in-Forward
returns-in-Forward c =
    c.key_after.ensures
    ∙ ap (λ d. next_past subscript_cmp way.Forward (is_empty c.args.last.now) c.args.last.now (keys_of (live (all_of d)))) c.deref.ensures
    ∙ ap (λ cs. next_past subscript_cmp way.Forward (is_empty c.args.last.now) c.args.last.now (keys_of (live (places cs)))) (sym c.in-Some-children.is)
    ∙ sym (order_places subscript_cmp_total way.Forward (is_empty c.args.last.now) c.args.last.now c.node.inside.text (places c.node.inside.children))
    ∙ ap (λ (n : Subtree). next_past subscript_cmp way.Forward (is_empty c.args.last.now) c.args.last.now (first_subscripts n)) (c.node.view_is ∙ c.in-Some.ensures)
    ∙ ap (λ (w : Direction). next_past subscript_cmp w (is_empty c.args.last.now) c.args.last.now (first_subscripts (subtree subscript_cmp c.args.front.now c.args.self.now))) (sym c.in-Forward.is)

pub returns-in-Backward : goal.returns-in-Backward
returns-in-Backward c =
    c.key_before.ensures
    ∙ ap (λ d. next_past subscript_cmp way.Backward (is_empty c.args.last.now) c.args.last.now (keys_of (live (all_of d)))) c.deref-in-Backward.ensures
    ∙ ap (λ cs. next_past subscript_cmp way.Backward (is_empty c.args.last.now) c.args.last.now (keys_of (live (places cs)))) (sym c.in-Some-children.is)
    ∙ sym (order_places subscript_cmp_total way.Backward (is_empty c.args.last.now) c.args.last.now c.node.inside.text (places c.node.inside.children))
    ∙ ap (λ (n : Subtree). next_past subscript_cmp way.Backward (is_empty c.args.last.now) c.args.last.now (first_subscripts n)) (c.node.view_is ∙ c.in-Some.ensures)
    ∙ ap (λ (w : Direction). next_past subscript_cmp w (is_empty c.args.last.now) c.args.last.now (first_subscripts (subtree subscript_cmp c.args.front.now c.args.self.now))) (sym c.in-Backward.is)
