use Rattle.std.proofs.Common.{ℕ, List, Option, sym, ap, ◌∙◌}
use Rattle.mj_subs.specs.Collation.{subscript_cmp}
use Rattle.mj_store.specs.Nodes.{is_empty, first_subscripts, next_past}
use Rattle.mj_store.specs.Questions.{Content, with_subscripts, subtree_at}
use Rattle.mj_store.proofs.Places.{order_of_split}
use Rattle.mj_store.proofs.flat.FlatStore.order.Goals as goal

-- the list of subscripts is its front and its last
pub returns : goal.returns
returns c =
    let front = c.in_ok-last.front.now in
    let last = c.in_ok-last.last.now in
    let next : Content → Option (List ℕ) = λ content. next_past subscript_cmp c.args.direction (is_empty last) last (first_subscripts (subtree_at content (with_subscripts c.args.name.now front))) in
    c.order.ensures
    ∙ ap next (c.deref.ensures.value ∙ c.self.view_is)
    ∙ sym (order_of_split c.args.self.now c.args.name.now c.args.direction front last (sym c.subscripts.ensures ∙ sym c.as_slice.ensures.value ∙ c.in_ok-last.ensures.cases.0))
