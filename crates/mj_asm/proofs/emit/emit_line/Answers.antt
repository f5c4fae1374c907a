use Rattle.std.proofs.Common.{ℕ, None, ◌++◌, length, map, ap, ◌∙◌}
use Rattle.std.specs.Prelude.{slice_set}
use Rattle.mj_ast.specs.Trees.{step_of}
use Rattle.mj_pcode.specs.declared.instr.Instr.TheVariants.{Line}
use Rattle.mj_asm.specs.Code.{steps_code}
use Rattle.mj_asm.specs.Sites.{here_of}
use Rattle.mj_asm.proofs.Emitted.{led}
use Rattle.mj_asm.proofs.emit.emit_line.Goals as goal

pub returns-clause-instrs : goal.returns-clause-instrs
returns-clause-instrs c =
    let here = here_of c.args.site in
    let entered = λ (k : ℕ). Line (record { line = c.args.site.line; level = c.args.line.now.level; next = k }) in
    led c.args.unit.now.instrs.items entered
    (λ p. steps_code here p None (map step_of c.args.line.now.steps.items)) c.put.new.code.items c.emit_steps.new.code.items c.change.new.code.items (entered 0) c.len-start.result
    (c.len-start.ensures ∙ c.args.unit.now.instrs.ok.0) c.in_ok-put.ensures
    (c.in_ok-emit_steps.ensures ∙ ap (λ steps. c.put.new.code.items ++ steps_code here (length c.put.new.code.items) None (map step_of steps)) c.deref-2.ensures.value)
    (c.change.ensures ∙ ap (λ k. slice_set c.emit_steps.new.code.items c.len-start.result (entered k)) (c.len.ensures ∙ c.emit_steps.new.code.ok.0))
