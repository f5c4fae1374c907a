use Rattle.std.specs.Prelude.{Err}
use Rattle.mj_machine.specs.Standing.{given_first}
use Rattle.mj_machine.specs.Kept.{state_of, restart_of, with_value}
use Rattle.mj_machine.proofs.Asks.{given_is, answers_fault}
use Rattle.mj_machine.proofs.values.put_value.Goals as goal

pub returns-in-Fault-clause-ok : goal.returns-in-Fault-clause-ok
returns-in-Fault-clause-ok c r a = λ reply. (
  tt,
  λ next n handle replies.
      let old = c.args.machine.now in
      let f = c.in-Fault.fault in
      given_is r (Err f) (with_value old c.args.pc c.args.count next) n (handle (restart_of old)) (state_of old) (given_first reply replies)
      (answers_fault r c.args.value c.in-Err.failure f c.in-Err.is c.in-Fault.is a),
)
