use Rattle.std.proofs.Common.{◌≡◌, ◌+◌, ◌<◌, ◌^◌, [], ◌++◌, drop, length, map, ap, sym, ◌∙◌, append-nil, arith}
use Rattle.std.proofs.lemmas.List.{drop_all, length-map}
use Rattle.mj_ast.specs.Trees.{line_of, routine_of}
use Rattle.mj_asm.specs.Code.{lines_code, starts}
use Rattle.mj_asm.specs.Correct as correct
use Rattle.mj_asm.proofs.Heads.{heads_of, starts_are, levels_are, formals_are}
use Rattle.mj_asm.proofs.Lines.{is_unit}
use Rattle.mj_asm.proofs.Units.{is_checked}
use Rattle.mj_asm.proofs.emit.assemble.Goals as goal

pub returns-clause-code : goal.returns-clause-code
returns-clause-code c =
    let u = c.loop-line.unit in
    let routine = routine_of c.args.routine.now in
    let here = correct.line_of routine (c.loop-line.number + 1) in
    let first = correct.line_of routine 1 in
    let inv = c.loop-line.invariant in
    let all = c.deref-line-items.ensures.value in
    let kept = c.args.routine.now.lines.items in
    let done : drop c.loop-line.line-index c.deref-line-items.result.now ≡ [] = drop_all _ _ c.loop-line-test.false in
    let has_code : u.instrs.items ≡ lines_code 0 first (map line_of kept) =
    sym (append-nil u.instrs.items) ∙ ap (λ ls. u.instrs.items ++ lines_code (length u.instrs.items) here (map line_of ls)) (sym done)
    ∙ inv.instrs ∙ ap (λ ls. lines_code 0 first (map line_of ls)) all in
    let has_heads : u.heads.items ≡ heads_of 0 first (map line_of kept) =
    sym (append-nil u.heads.items) ∙ ap (λ ls. u.heads.items ++ heads_of (length u.instrs.items) here (map line_of ls)) (sym done)
    ∙ inv.heads ∙ ap (λ ls. heads_of 0 first (map line_of ls)) all in
    let has_labels : u.labels ≡ correct.with_labels [] 1 (map line_of kept) =
    ap (λ ls. correct.with_labels u.labels (c.loop-line.number + 1) (map line_of ls)) (sym done)
    ∙ inv.labels ∙ ap (λ ls. correct.with_labels [] 1 (map line_of ls)) all in
    let has_starts : map (λ h. h.start) u.heads.items ≡ starts 0 first (map line_of kept) = ap (map (λ h. h.start)) has_heads ∙ starts_are 0 first (map line_of kept) in
    let has_levels : map (λ h. h.level) u.heads.items ≡ map (λ l. l.level) (map line_of kept) = ap (map (λ h. h.level)) has_heads ∙ levels_are 0 first (map line_of kept) in
    let has_formals : map (λ h. h.formals) u.heads.items ≡ map (λ l. l.formals) (map line_of kept) = ap (map (λ h. h.formals)) has_heads ∙ formals_are 0 first (map line_of kept) in
    let few : length (map line_of kept) < 2 ^ 32 = omega (arith, c.requires, length-map kept line_of) in
    is_unit routine u inv.name has_code has_starts has_levels few has_formals has_labels

pub returns-clause-checked : goal.returns-clause-checked
returns-clause-checked c =
    let u = c.loop-line.unit in
    let routine = routine_of c.args.routine.now in
    let here = correct.line_of routine (c.loop-line.number + 1) in
    let first = correct.line_of routine 1 in
    let inv = c.loop-line.invariant in
    let all = c.deref-line-items.ensures.value in
    let kept = c.args.routine.now.lines.items in
    let done : drop c.loop-line.line-index c.deref-line-items.result.now ≡ [] = drop_all _ _ c.loop-line-test.false in
    let has_code : u.instrs.items ≡ lines_code 0 first (map line_of kept) =
    sym (append-nil u.instrs.items) ∙ ap (λ ls. u.instrs.items ++ lines_code (length u.instrs.items) here (map line_of ls)) (sym done)
    ∙ inv.instrs ∙ ap (λ ls. lines_code 0 first (map line_of ls)) all in
    let has_heads : u.heads.items ≡ heads_of 0 first (map line_of kept) =
    sym (append-nil u.heads.items) ∙ ap (λ ls. u.heads.items ++ heads_of (length u.instrs.items) here (map line_of ls)) (sym done)
    ∙ inv.heads ∙ ap (λ ls. heads_of 0 first (map line_of ls)) all in
    let has_starts : map (λ h. h.start) u.heads.items ≡ starts 0 first (map line_of kept) = ap (map (λ h. h.start)) has_heads ∙ starts_are 0 first (map line_of kept) in
    let has_levels : map (λ h. h.level) u.heads.items ≡ map (λ l. l.level) (map line_of kept) = ap (map (λ h. h.level)) has_heads ∙ levels_are 0 first (map line_of kept) in
    is_checked routine u inv.name has_code has_starts has_levels
