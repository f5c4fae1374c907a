use Rattle.std.proofs.Common.{sym, ap, ◌∙◌}
use Rattle.mj_locktab.specs.Locks.{Locks}
use Rattle.mj_locktab.specs.Changes.{after_give}
use Rattle.mj_txlog.proofs.Appending.{same_follows}
use Rattle.mj_txn.proofs.Waiting.{given_after, gained_follows}
use Rattle.mj_txn.proofs.closing.try_take.Goals as goal

pub returns-in-Ok-clause-follows : goal.returns-in-Ok-clause-follows
returns-in-Ok-clause-follows c g follows = gained_follows g c.args.log.now c.gain.new.self c.args.names.now c.in-Ok.ensures.gained c.gain.ensures.stamped follows

pub returns-in-Err-clause-follows : goal.returns-in-Err-clause-follows
returns-in-Err-clause-follows c g follows = same_follows g c.args.log.now c.gain.new.self c.in-Err.ensures.unchanged c.gain.ensures.stamped follows

pub returns-in-Err-clause-unchanged : goal.returns-in-Err-clause-unchanged
returns-in-Err-clause-unchanged c =
    let names = c.args.names.now in (
      c.give.ensures.after
          ∙ ap (λ (l : Locks). after_give l c.args.job names) c.in_ok-try_take.ensures.after
          ∙ given_after c.args.locks.now.holds c.args.job names c.keeps.ensures (sym c.in_ok-try_take.ensures.answer ∙ c.in-Got.is),
      c.in-Err.ensures.unchanged,
    )
