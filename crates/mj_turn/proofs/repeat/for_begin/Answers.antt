use Rattle.std.proofs.Common.{sym, subst, IfOk}
use Rattle.mj_pcode.specs.declared.instr.Span.{Span}
use Rattle.mj_pcode.specs.declared.instr.Instr.TheVariants as instrs
use Rattle.mj_machine.specs.Kept.{ObeysAlone}
use Rattle.mj_turn.proofs.repeat.for_begin.Goals as goal

pub returns-in-One-clause-ok : goal.returns-in-One-clause-ok
returns-in-One-clause-ok c =
    subst (λ (k : Span). IfOk c.begin_one.result (λ step. ObeysAlone (instrs.ForBegin k) c.args.pc c.args.machine.now step c.begin_one.new.machine)) (sym c.in-One.is) c.begin_one.ensures.ok

pub returns-in-Endless-clause-ok : goal.returns-in-Endless-clause-ok
returns-in-Endless-clause-ok c =
    subst (λ (k : Span). IfOk c.begin_range.result (λ step. ObeysAlone (instrs.ForBegin k) c.args.pc c.args.machine.now step c.begin_range.new.machine)) (sym c.in-Endless.is) c.begin_range.ensures.ok

pub returns-in-UpTo-clause-ok : goal.returns-in-UpTo-clause-ok
returns-in-UpTo-clause-ok c =
    subst (λ (k : Span). IfOk c.begin_range-in-UpTo.result (λ step. ObeysAlone (instrs.ForBegin k) c.args.pc c.args.machine.now step c.begin_range-in-UpTo.new.machine))
    (sym c.in-UpTo.is) c.begin_range-in-UpTo.ensures.ok
