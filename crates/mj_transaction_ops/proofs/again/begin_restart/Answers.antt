use Rattle.mj_semantics.specs.State.{restarted}
use Rattle.mj_semantics.specs.Outcome.{change, go_back}
use Rattle.mj_pcode.specs.Machine.{handler}
use Rattle.mj_machine.specs.Standing.{given_first}
use Rattle.mj_machine.specs.Kept.{state_of, restart_of, replied}
use Rattle.mj_machine.proofs.Asks.{no_more}
use Rattle.mj_transaction_ops.proofs.again.begin_restart.Goals as goal

pub returns-then-machine-clause-ok : goal.returns-then-machine-clause-ok
returns-then-machine-clause-ok c = λ pc all u.
    let old = c.args.machine.now in (
      tt,
      λ n replies.
          no_more _ (λ r. change restarted go_back) n (handler all (restart_of old)) (state_of old) (given_first (replied c.args.given) replies)
          c.if-machine.true,
    )
