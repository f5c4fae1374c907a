use Rattle.std.specs.Prelude.{Ok, ◌&&◌}
use Rattle.std.specs.declared.alloc.AllocError.{AllocError}
use Rattle.std.proofs.Common.{◌≡◌, Bool, true, false, Some, refl, sym, ◌∙◌, subst}
use Rattle.mj_ask.specs.Fits.{fits}
use Rattle.mj_ask.specs.Within.{is_reply_within}
use Rattle.mj_load.specs.Image.{program_of}
use Rattle.mj_jobvm.specs.declared.job.Turn.{Turn}
use Rattle.mj_jobvm.specs.Told.{AdvanceTells, spent_after}
use Rattle.mj_replica.specs.Playing.{AsksIt}
use Rattle.mj_replica.proofs.Asking.{ran_long, ended_asks, asks_so}
use Rattle.mj_replica.proofs.playing.asks_it.Goals as goal

pub returns-in-Ran : goal.returns-in-Ran
returns-in-Ran c =
    let new = c.advance.new.self in
    let S : Turn → Type 0 = λ t. new.run.spent ≡ spent_after {E = AllocError} (Ok t) 10000000000 c.args.job.now.run.spent in
    record {
      run = c.advance.ensures.run;
      log = c.advance.ensures.log;
      asks = λ start is.
          (let T : Turn → Type 0 = λ t. AdvanceTells (program_of c.args.image.now) start t new.run in
          ran_long c.args.image.now start c.args.job.now new c.args.ask.now c.args.reply.now c.advance.ensures.log (subst S c.in-Ran.is c.in_ok-advance.ensures.spent)
          (subst T c.in-Ran.is (c.in_ok-advance.ensures.told start is)));
    }

pub returns-in-Ended : goal.returns-in-Ended
returns-in-Ended c =
    let new = c.advance.new.self in
    record {
      run = c.advance.ensures.run;
      log = c.advance.ensures.log;
      asks = λ start is.
          (let T : Turn → Type 0 = λ t. AdvanceTells (program_of c.args.image.now) start t new.run in
          ended_asks c.args.image.now start c.args.job.now new c.args.ask.now c.args.reply.now c.advance.ensures.log (subst T c.in-Ended.is (c.in_ok-advance.ensures.told start is)));
    }

pub returns-then-is_it-clause-asks : goal.returns-then-is_it-clause-asks
returns-then-is_it-clause-asks c = λ start is.
    let new = c.advance.new.self in
    let T : Turn → Type 0 = λ t. AdvanceTells (program_of c.args.image.now) start t new.run in
    let pending : new.run.pending ≡ Some c.args.ask.now = sym c.ask.ensures ∙ c.is_it.ensures.0 c.if-is_it.true in
    asks_so c.args.image.now start c.args.job.now new c.args.ask.now c.args.reply.now c.advance.ensures.log true c.may_be_told.result (λ h. pending) (λ h. refl) (sym c.may_be_told.ensures)
    (subst T c.in-Asks.is (c.in_ok-advance.ensures.told start is))

pub returns-else-is_it-clause-asks : goal.returns-else-is_it-clause-asks
returns-else-is_it-clause-asks c = λ start is.
    let new = c.advance.new.self in
    let T : Turn → Type 0 = λ t. AdvanceTells (program_of c.args.image.now) start t new.run in
    let B : Bool → Type 0 = λ b. AsksIt c.args.image.now start c.args.job.now c.args.ask.now c.args.reply.now b new in
    subst B (sym c.if-is_it.false)
    (asks_so c.args.image.now start c.args.job.now new c.args.ask.now c.args.reply.now c.advance.ensures.log false
    (fits c.args.ask.now c.args.reply.now && is_reply_within c.args.image.now.bounds.limit c.args.reply.now)
    (λ h. absurd (let no : false ≡ true = h in cc)) (λ h. sym c.if-is_it.false ∙ c.is_it.ensures.1 (c.ask.ensures ∙ h)) refl
    (subst T c.in-Asks.is (c.in_ok-advance.ensures.told start is)))
