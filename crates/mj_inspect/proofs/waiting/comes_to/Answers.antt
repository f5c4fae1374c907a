use Rattle.std.specs.Prelude.{Ok}
use Rattle.std.specs.declared.alloc.AllocError.{AllocError}
use Rattle.std.proofs.Common.{◌≡◌, ◌≤◌, ◌∙◌, true, false, Option, refl, sym, subst, arith}
use Rattle.mj_ask.specs.declared.ask.Ask.{Ask}
use Rattle.mj_load.specs.Image.{program_of}
use Rattle.mj_jobvm.specs.declared.job.Turn.{Turn}
use Rattle.mj_jobvm.specs.declared.job.Turn.TheVariants as ends
use Rattle.mj_jobvm.specs.Told.{AdvanceTells, spent_after}
use Rattle.mj_replica.specs.Replays.{turns_limit}
use Rattle.mj_inspect.specs.Waits.{is_due}
use Rattle.mj_inspect.proofs.Following.{goes_next, lost_there}
use Rattle.mj_inspect.proofs.waiting.comes_to.Goals as goal

pub returns-in-Asks-clause-due : goal.returns-in-Asks-clause-due
returns-in-Asks-clause-due c = λ on.
    let P : Option Ask → Type 0 = λ pending. is_due c.args.image.now.bounds.limit pending c.args.reply.now ≡ true in
    subst P c.ask.ensures (sym c.is_due.ensures ∙ on)

pub returns-in-Asks-clause-lost : goal.returns-in-Asks-clause-lost
returns-in-Asks-clause-lost c = λ start told is off.
    let new = c.advance.new.self in
    let T : Turn → Type 0 = λ t. AdvanceTells (program_of c.args.image.now) start t new.run in
    let P : Option Ask → Type 0 = λ pending. is_due c.args.image.now.bounds.limit pending c.args.reply.now ≡ false in
    lost_there c.args.image.now start told new ends.Asks c.args.reply.now
    (goes_next c.args.image.now start told c.args.job.now new ends.Asks turns_limit is c.advance.ensures.log (λ same. absurd cc)
    (subst T c.in-Asks.is (c.in_ok-advance.ensures.told start is.run))) (λ same. subst P c.ask.ensures (sym c.is_due.ensures ∙ off))

pub returns-in-Ran-clause-lost : goal.returns-in-Ran-clause-lost
returns-in-Ran-clause-lost c = λ start told is off.
    let new = c.advance.new.self in
    let T : Turn → Type 0 = λ t. AdvanceTells (program_of c.args.image.now) start t new.run in
    let S : Turn → Type 0 = λ t. new.run.spent ≡ spent_after {E = AllocError} (Ok t) 10000000000 c.args.job.now.run.spent in
    let spent = subst S c.in-Ran.is c.in_ok-advance.ensures.spent in
    let long : turns_limit ≤ new.run.spent = omega (arith, spent) in
    lost_there c.args.image.now start told new ends.Ran c.args.reply.now
    (goes_next c.args.image.now start told c.args.job.now new ends.Ran turns_limit is c.advance.ensures.log (λ same. long)
    (subst T c.in-Ran.is (c.in_ok-advance.ensures.told start is.run))) (λ same. absurd cc)

pub returns-in-Ended-clause-lost : goal.returns-in-Ended-clause-lost
returns-in-Ended-clause-lost c = λ start told is off.
    let new = c.advance.new.self in
    let T : Turn → Type 0 = λ t. AdvanceTells (program_of c.args.image.now) start t new.run in
    lost_there c.args.image.now start told new ends.Ended c.args.reply.now
    (goes_next c.args.image.now start told c.args.job.now new ends.Ended turns_limit is c.advance.ensures.log (λ same. absurd cc)
    (subst T c.in-Ended.is (c.in_ok-advance.ensures.told start is.run))) (λ same. absurd cc)
