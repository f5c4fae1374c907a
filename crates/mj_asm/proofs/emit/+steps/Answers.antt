use Rattle.std.proofs.Common.{◌≡◌, ℕ, ◌+◌, [], ◌∷◌, Option, ◌++◌, length, map, ap, sym, ◌∙◌, arith}
use Rattle.std.proofs.lemmas.Grind.{common_steps}
use Rattle.std.proofs.lemmas.List.{nil_from_length}
use Rattle.std.proofs.lemmas.Result.{on_ok_weaker}
use Rattle.std.specs.Prelude.{slice_set}
use Rattle.mj_ast.specs.Trees.{expr_of, variable_of, range_of, step_of}
use Rattle.mj_pcode.specs.declared.instr.Instr.TheVariants.{JumpIfTest, JumpUnlessTest, SetTest, ForOpen, ForClose}
use Rattle.mj_asm.specs.Code.{expr_code, steps_code, if_code, ifs_code}
use Rattle.mj_asm.specs.Sites.{here_of}
use Rattle.mj_asm.proofs.Emitted.{led, tested, closed}
use Rattle.mj_asm.proofs.Loops.{looped}
use Rattle.mj_asm.proofs.emit.+steps.Goals as goal

pub emit_body-returns : goal.emit_body-returns
emit_body-returns t c =
    closed c.args.code.now.items (λ p o. steps_code (here_of c.args.site) p o (map step_of c.args.behind.now))
    c.put.new.code.items c.emit_steps.new.code.items c.put-2.new.code.items c.change.new.code.items c.len-close.result
    (c.len-close.ensures ∙ c.args.code.now.ok.0) c.in_ok-put.ensures c.in_ok-emit_steps.ensures c.in_ok-put-2.ensures
    (c.change.ensures ∙ ap (λ k. slice_set c.put-2.new.code.items c.len-close.result (ForClose k)) (c.len-target.ensures ∙ c.put-2.new.code.ok.0))

pub emit_else-returns : goal.emit_else-returns
emit_else-returns t c =
    led c.args.code.now.items (λ k. JumpIfTest k) (λ p. steps_code (here_of c.args.site) p c.args.close (map step_of c.args.behind.now))
    c.put.new.code.items c.emit_steps.new.code.items c.change.new.code.items (JumpIfTest 0) c.len-test.result
    (c.len-test.ensures ∙ c.args.code.now.ok.0) c.in_ok-put.ensures c.in_ok-emit_steps.ensures
    (c.change.ensures ∙ ap (λ k. slice_set c.emit_steps.new.code.items c.len-test.result (JumpIfTest k)) (c.len-target.ensures ∙ c.emit_steps.new.code.ok.0))

pub emit_for-returns : goal.emit_for-returns
emit_for-returns t c =
    let x = variable_of c.args.variable.now in
    let rest = λ (p : ℕ) (o : Option ℕ). steps_code (here_of c.args.site) p o (map step_of c.args.behind.now) in
    let local = c.in_ok-local.local in
    on_ok_weaker c.emit_body.result (λ h.
    looped c.args.code.now.items x (map range_of c.args.ranges.now) rest local
    c.emit_subscripts.new.code.items c.put.new.code.items c.emit_ranges.new.code.items c.change.new.code.items _ c.len-open.result
    c.in_ok-local.ensures c.in_ok-emit_subscripts.ensures (c.len-open.ensures ∙ c.emit_subscripts.new.code.ok.0) c.in_ok-put.ensures c.in_ok-emit_ranges.ensures
    (c.change.ensures
    ∙ ap (λ k. slice_set c.emit_ranges.new.code.items c.len-open.result (ForOpen local.word local.count (k + 1))) (c.len-body.ensures ∙ c.emit_ranges.new.code.ok.0))
    h) c.emit_body.ensures

pub emit_if-returns-then-is_empty : goal.emit_if-returns-then-is_empty
emit_if-returns-then-is_empty t c =
    let base = c.args.code.now.items in
    let rest = λ (p : ℕ). steps_code (here_of c.args.site) p c.args.close (map step_of c.args.behind.now) in
    let none : c.args.conditions.now ≡ [] = grind (arith, common_steps, nil_from_length c.args.conditions.now, c.is_empty.ensures, c.if-is_empty.true) in
    led base (λ k. JumpUnlessTest k) rest c.put.new.code.items c.emit_steps.new.code.items c.change.new.code.items (JumpUnlessTest 0) c.len-test.result
    (c.len-test.ensures ∙ c.args.code.now.ok.0) c.in_ok-put.ensures c.in_ok-emit_steps.ensures
    (c.change.ensures ∙ ap (λ k. slice_set c.emit_steps.new.code.items c.len-test.result (JumpUnlessTest k)) (c.len-target.ensures ∙ c.emit_steps.new.code.ok.0))
    ∙ ap (λ es. base ++ if_code (length base) (map expr_of es) rest) (sym none)

pub emit_ifs-returns-in_ok-emit_ifs-in-Some : goal.emit_ifs-returns-in_ok-emit_ifs-in-Some
emit_ifs-returns-in_ok-emit_ifs-in-Some t c =
    let base = c.args.code.now.items in
    let rest = λ (p : ℕ). steps_code (here_of c.args.site) p c.args.close (map step_of c.args.behind.now) in
    let first = c.in-Some.first.now in
    let others = c.in-Some.others.now in
    let all : c.args.conditions.now ≡ first ∷ others = grind (arith, common_steps, c.in-Some.ensures) in
    tested base (expr_code (length base) (expr_of first)) (λ k. SetTest k)
    (λ p. ifs_code p (map expr_of others) rest) c.emit_expr.new.code.items c.put.new.code.items c.emit_ifs.new.code.items c.change.new.code.items (SetTest 0) c.len-test.result
    c.in_ok-emit_expr-in-Some.ensures (c.len-test.ensures ∙ c.emit_expr.new.code.ok.0) c.in_ok-put-in-Some.ensures c.in_ok-emit_ifs-in-Some.ensures
    (c.change.ensures ∙ ap (λ k. slice_set c.emit_ifs.new.code.items c.len-test.result (SetTest k)) (c.len-target.ensures ∙ c.emit_ifs.new.code.ok.0))
    ∙ ap (λ es. base ++ ifs_code (length base) (map expr_of es) rest) (sym all)
