use Rattle.std.proofs.Common.{◌==◌, ◌∙◌, ℕ, List, length, ap}
use Rattle.std.proofs.lemmas.Result.{IfOk-weaker}
use Rattle.mj_inspect.proofs.Showing.{none_marked, some_marked}
use Rattle.mj_inspect.proofs.telling.or_mark.Goals as goal

pub returns-then-is_none : goal.returns-then-is_none
returns-then-is_none c =
    let lines = c.args.lines.items in
    let empty = c.is_none.ensures ∙ ap (λ (l : List ℕ). length l == 0) c.deref.ensures.value in
    IfOk-weaker c.said.result _ _ (λ bytes is. none_marked lines bytes.items c.is_none.result empty c.if-is_none.true is) c.said.ensures

pub returns : goal.returns
returns c =
    let empty = c.is_none.ensures ∙ ap (λ (l : List ℕ). length l == 0) c.deref.ensures.value in
    some_marked c.args.lines.items c.is_none.result empty c.if-is_none.false
