use Rattle.mj_pcode.specs.declared.instr.Instr.TheVariants as instrs
use Rattle.mj_machine.specs.Kept.{replied}
use Rattle.mj_turn.proofs.Turns.{obeys}
use Rattle.mj_turn.proofs.turn.obey_control.Goals as goal

pub returns-in-FailQuit-clause-ok : goal.returns-in-FailQuit-clause-ok
returns-in-FailQuit-clause-ok c =
    obeys c.args.units.now c.args.unit.now c.args.instr.now instrs.FailQuit c.args.pc c.args.machine.now
    (replied c.args.given) c.fail.result c.fail.new.machine c.in-FailQuit.is (c.fail.ensures (replied c.args.given))
