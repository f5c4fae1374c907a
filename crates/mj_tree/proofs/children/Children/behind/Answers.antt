use Rattle.std.proofs.Common.{ℕ, List, refl, sym, subst, arith}
use Rattle.std.proofs.lemmas.Int.{ints}
use Rattle.mj_tree.specs.declared.node.Node.{Node}
use Rattle.mj_store.specs.Questions.{Subtree}
use Rattle.mj_tree.specs.Rows.{IsEnd}
use Rattle.mj_tree.proofs.Offsets.{offset, offset_is, past_end, past_first, not_over, end_told}
use Rattle.mj_tree.proofs.children.Children.behind.Goals as goal

pub overflow_cast-result : goal.overflow_cast-result
overflow_cast-result c =
    let first = past_first c.in-Some.first c.args.number c.args.self.now.row.items c.in-Some.ensures.some c.in-Some.ensures.numbers c.requires.past in
    let limit = c.value.ensures.limit in
    let limit2 = c.value-in-Some.ensures.limit in
    let is = c.value.ensures.value in
    let is2 = c.value-in-Some.ensures.value in omega (arith, ints)

pub overflow_sub-result-in-Some : goal.overflow_sub-result-in-Some
overflow_sub-result-in-Some c =
    let is =
    offset_is c.args.number c.in-Some.first c.value.result c.value-in-Some.result c.value.ensures.limit c.value-in-Some.ensures.limit
    (past_first c.in-Some.first c.args.number c.args.self.now.row.items c.in-Some.ensures.some c.in-Some.ensures.numbers c.requires.past) c.value.ensures.value c.value-in-Some.ensures.value in
    let le =
    not_over c.args.number c.in-Some.first (offset c.value.result c.value-in-Some.result) _ is
    (past_end c.in-Some.first c.args.number c.args.self.now.row.items c.in-Some.ensures.some c.in-Some.ensures.numbers c.requires.past) in
    omega (arith, le, c.len.ensures, c.args.self.now.row.ok.0)

pub returns-in-None : goal.returns-in-None
returns-in-None c = subst (λ (ks : List (List ℕ × Subtree)). IsEnd ks 0 c.args.number) (sym c.in-None.ensures.numbers) refl

pub returns-in-Some : goal.returns-in-Some
returns-in-Some c =
    end_told c.in-Some.first c.args.number c.args.self.now.row.items (offset c.value.result c.value-in-Some.result) c.len.result c.in-Some.ensures.some c.in-Some.ensures.numbers
    (offset_is c.args.number c.in-Some.first c.value.result c.value-in-Some.result c.value.ensures.limit c.value-in-Some.ensures.limit
    (past_first c.in-Some.first c.args.number c.args.self.now.row.items c.in-Some.ensures.some c.in-Some.ensures.numbers c.requires.past) c.value.ensures.value c.value-in-Some.ensures.value)
    c.requires.past (omega (arith, c.len.ensures, c.args.self.now.row.ok.0))
