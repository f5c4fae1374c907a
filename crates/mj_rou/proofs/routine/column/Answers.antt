use Rattle.std.proofs.Common.{◌≡◌, ◌∙◌, ◌+◌, ◌-◌, ℕ, ap, get_or, length, arith}
use Rattle.mj_rou.proofs.Columns.{column_end, column_at, at_small, end_place, no_lexeme}
use Rattle.mj_rou.proofs.routine.column.Goals as goal

pub returns-then-left-eq0 : goal.returns-then-left-eq0
returns-then-left-eq0 c = λ place e.
    column_end c.args.lexemes.now c.args.line.now place c.requires.placed (end_place c.args.left place (length c.args.lexemes.now) c.then-left-eq0.either e)

pub overflow_add-result-2 : goal.overflow_add-result-2
overflow_add-result-2 c =
    omega (arith, at_small c.args.lexemes.now c.args.line.now (length c.args.lexemes.now - c.args.left) no_lexeme c.requires.placed (omega arith), c.requires.short)

pub returns : goal.returns
returns c = λ place e.
    let same : length c.args.lexemes.now - c.args.left ≡ place = omega arith in
    ap (λ (i : ℕ). (get_or c.args.lexemes.now i no_lexeme).at + 1) same ∙ column_at c.args.lexemes.now c.args.line.now place no_lexeme c.requires.placed (omega arith)
