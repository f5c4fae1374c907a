use Rattle.std.proofs.Common.{◌≡◌, ℕ, List, [], ◌∷◌, ◌++◌, Option, ap, sym, ◌∙◌, option_copied}
use Rattle.mj_explain.specs.Looks.{next_leaves_out, order_leaves_out}
use Rattle.mj_explain.proofs.Looking.{left_out_split}
use Rattle.mj_explain.proofs.looks.order_leaves_out.Goals as goal

-- the subscripts are their front and their last
pub returns-in-Some : goal.returns-in-Some
returns-in-Some c =
    let n = c.args.name.now in
    let m = c.args.asked.now in
    let front = c.in-Some.front.now in
    let last = c.in-Some.last.now in
    let next = option_copied c.args.next in
    let split : m.subscripts ≡ front ++ last ∷ [] = sym c.subscripts.ensures ∙ sym c.as_slice.ensures.value ∙ c.in-Some.ensures.cases.0 in
    c.next_leaves_out.ensures
    ∙ ap (λ (o : Option (List (List ℕ))). next_leaves_out c.args.way last o next) c.rest_of.ensures
    ∙ sym (left_out_split n m front last c.args.way next)
    ∙ sym (ap (λ (p : List (List ℕ)). order_leaves_out n m p c.args.way next) split)
