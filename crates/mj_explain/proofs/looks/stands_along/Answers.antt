use Rattle.std.proofs.Common.{◌≡◌, ℕ, List, [], ◌∷◌, ◌++◌, ap, sym, ◌∙◌}
use Rattle.mj_explain.specs.Looks.{has_more, stands_along}
use Rattle.mj_explain.proofs.Looking.{along_split}
use Rattle.mj_explain.proofs.looks.stands_along.Goals as goal

-- the subscripts are their front and their last
pub returns-in-Some : goal.returns-in-Some
returns-in-Some c =
    let n = c.args.name.now in
    let m = c.args.asked.now in
    let front = c.in-Some.front.now in
    let last = c.in-Some.field-0-0.now in
    let split : m.subscripts ≡ front ++ last ∷ [] = sym c.subscripts.ensures ∙ sym c.as_slice.ensures.value ∙ c.in-Some.ensures.cases.0 in
    c.has_more.ensures ∙ ap has_more c.rest_of.ensures ∙ sym (along_split n m front last) ∙ sym (ap (stands_along n m) split)
