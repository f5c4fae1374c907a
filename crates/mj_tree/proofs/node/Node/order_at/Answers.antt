use Rattle.std.proofs.Common.{◌≡◌, sym, ap, ◌∙◌}
use Rattle.std.specs.Prelude.{option_copied}
use Rattle.mj_subs.specs.Collation.{subscript_cmp}
use Rattle.mj_store.specs.Nodes.{is_empty, first_subscripts, next_past}
use Rattle.mj_tree.specs.Nest.{nodes_of}
use Rattle.mj_tree.proofs.Nest.{subtree_whole}
use Rattle.mj_tree.proofs.node.Node.order_at.Goals as goal

-- the node at the front is asked about the last
pub returns-in_ok-try_clone-in-Some : goal.returns-in_ok-try_clone-in-Some
returns-in_ok-try_clone-in-Some c =
    let last : c.from_text-last.result ≡ c.args.last.now = c.from_text-last.ensures ∙ c.in_ok-try_clone-in-Some.ensures in
    let there = sym (ap (λ o. nodes_of (option_copied o)) c.in-Some.is) ∙ c.in_ok-at_texts.ensures in
    let whole = subtree_whole subscript_cmp c.in-Some.node.now ∙ there in
    c.order.ensures ∙ (λ i. next_past subscript_cmp c.args.direction (is_empty (last i)) (last i) (first_subscripts (whole i)))
