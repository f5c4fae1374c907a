use Rattle.mj_pcode.specs.declared.instr.Instr.TheVariants as instrs
use Rattle.mj_machine.specs.Kept.{replied}
use Rattle.mj_turn.proofs.Turns.{obeys}
use Rattle.mj_turn.proofs.turn.obey.Goals as goal

pub returns-in-SelectFails-clause-ok : goal.returns-in-SelectFails-clause-ok
returns-in-SelectFails-clause-ok c =
    obeys c.args.units.now c.args.unit.now c.args.instr.now instrs.SelectFails c.args.pc c.args.machine.now
    (replied c.args.given) c.fail.result _ c.in-SelectFails.is (c.fail.ensures (replied c.args.given))
