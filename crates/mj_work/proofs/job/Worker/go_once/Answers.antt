use Rattle.std.proofs.Common.{Bool, subst}
use Rattle.mj_load.specs.Image.{program_of}
use Rattle.mj_jobvm.specs.Told.{AdvanceTells, IsWaitingAt}
use Rattle.mj_jobvm.specs.declared.job.Turn.{Turn}
use Rattle.mj_core.specs.Runs.{start_in}
use Rattle.mj_gather.specs.declared.ran.Stop.TheVariants as stops
use Rattle.mj_work.specs.Working.{IsAt}
use Rattle.mj_work.proofs.Standing.{goes_at, ran_at, placed_at, answered_at, answered_ran, answered_places, answered_why, halted_why}
use Rattle.mj_work.proofs.job.Worker.go_once.Goals as goal

pub advance-requires : goal.advance-requires
advance-requires g c = (start_in c.args.claim.now.job c.args.claim.now.start, c.requires.own.run)

pub returns-in-Err-clause-ran : goal.returns-in-Err-clause-ran
returns-in-Err-clause-ran g c =
    let ans = g.A.Answerer.answering in
    let at = goes_at ans c.args.self.now.image.now c.args.claim.now c.args.job.now c.args.answerer.now c.args.halted c.advance.new.self c.requires c.advance.ensures.run c.advance.ensures.log in
    ran_at ans c.args.self.now.image.now c.args.claim.now c.advance.new.self c.args.answerer.now c.args.halted stops.Memory at tt

pub returns-in-Ok-Ended-clause-ran : goal.returns-in-Ok-Ended-clause-ran
returns-in-Ok-Ended-clause-ran g c =
    let ans = g.A.Answerer.answering in
    let start = start_in c.args.claim.now.job c.args.claim.now.start in
    let at = goes_at ans c.args.self.now.image.now c.args.claim.now c.args.job.now c.args.answerer.now c.args.halted c.advance.new.self c.requires c.advance.ensures.run c.advance.ensures.log in
    let T : Turn → Type 0 = λ t. AdvanceTells (program_of c.args.self.now.image.now) start t c.advance.new.self.run in
    let over = subst T c.in-Ok-Ended.field-0-is (c.in-Ok-Ended.ensures.told start c.requires.own.run) in
    ran_at ans c.args.self.now.image.now c.args.claim.now c.advance.new.self c.args.answerer.now c.args.halted stops.Ended at over

pub returns-in-Ok-Ran-clause-on : goal.returns-in-Ok-Ran-clause-on
returns-in-Ok-Ran-clause-on g c =
    goes_at g.A.Answerer.answering c.args.self.now.image.now c.args.claim.now c.args.job.now c.args.answerer.now c.args.halted c.advance.new.self c.requires c.advance.ensures.run c.advance.ensures.log

pub returns-then-halted-clause-ran : goal.returns-then-halted-clause-ran
returns-then-halted-clause-ran g c =
    let ans = g.A.Answerer.answering in
    let start = start_in c.args.claim.now.job c.args.claim.now.start in
    let at = goes_at ans c.args.self.now.image.now c.args.claim.now c.args.job.now c.args.answerer.now c.args.halted c.advance.new.self c.requires c.advance.ensures.run c.advance.ensures.log in
    let T : Turn → Type 0 = λ t. AdvanceTells (program_of c.args.self.now.image.now) start t c.advance.new.self.run in
    let asks = subst T c.in-Ok-Asks.field-0-is (c.in-Ok-Asks.ensures.told start c.requires.own.run) in
    ran_at ans c.args.self.now.image.now c.args.claim.now c.advance.new.self c.args.answerer.now c.args.halted stops.Refused at (asks.0, (asks.2.0, _, _, asks.2.1))

pub answer-requires : goal.answer-requires
answer-requires g c =
    let W : Turn → Type 0 = λ t. IsWaitingAt t c.advance.new.self.run.pending in
    subst W c.in-Ok-Asks.field-0-is c.in-Ok-Asks.ensures.waits

pub returns-else-halted-clause-on : goal.returns-else-halted-clause-on
returns-else-halted-clause-on g c =
    let ans = g.A.Answerer.answering in
    let start = start_in c.args.claim.now.job c.args.claim.now.start in
    let at = goes_at ans c.args.self.now.image.now c.args.claim.now c.args.job.now c.args.answerer.now c.args.halted c.advance.new.self c.requires c.advance.ensures.run c.advance.ensures.log in
    let P : Bool → Type 0 = λ b. IsAt ans c.args.self.now.image.now c.args.claim.now b c.advance.new.self c.args.answerer.now in
    let free = subst P c.if-halted.false at in
    let T : Turn → Type 0 = λ t. AdvanceTells (program_of c.args.self.now.image.now) start t c.advance.new.self.run in
    let asks = subst T c.in-Ok-Asks.field-0-is (c.in-Ok-Asks.ensures.told start c.requires.own.run) in
    answered_at ans c.args.self.now.image.now c.args.claim.now c.advance.new.self c.args.answerer.now g.O.Opening.opening c.answer.new.claim c.answer.new.job c.answer.new.answerer
    asks.0 c.answer.result
    free (c.answer.ensures.answered asks.0 asks.1) (c.answer.ensures.halts asks.0 asks.1)

pub returns-else-halted-clause-ran : goal.returns-else-halted-clause-ran
returns-else-halted-clause-ran g c =
    let ans = g.A.Answerer.answering in
    let start = start_in c.args.claim.now.job c.args.claim.now.start in
    let at = goes_at ans c.args.self.now.image.now c.args.claim.now c.args.job.now c.args.answerer.now c.args.halted c.advance.new.self c.requires c.advance.ensures.run c.advance.ensures.log in
    let P : Bool → Type 0 = λ b. IsAt ans c.args.self.now.image.now c.args.claim.now b c.advance.new.self c.args.answerer.now in
    let free = subst P c.if-halted.false at in
    let T : Turn → Type 0 = λ t. AdvanceTells (program_of c.args.self.now.image.now) start t c.advance.new.self.run in
    let asks = subst T c.in-Ok-Asks.field-0-is (c.in-Ok-Asks.ensures.told start c.requires.own.run) in
    answered_ran ans c.args.self.now.image.now c.args.claim.now c.advance.new.self c.args.answerer.now g.O.Opening.opening c.answer.new.claim c.answer.new.job c.answer.new.answerer
    asks.0 c.answer.result
    (asks.2.0, _, _, asks.2.1) free (c.answer.ensures.answered asks.0 asks.1)

pub returns-then-halted-clause-why : goal.returns-then-halted-clause-why
returns-then-halted-clause-why g c =
    let ans = g.A.Answerer.answering in
    let start = start_in c.args.claim.now.job c.args.claim.now.start in
    let at = goes_at ans c.args.self.now.image.now c.args.claim.now c.args.job.now c.args.answerer.now c.args.halted c.advance.new.self c.requires c.advance.ensures.run c.advance.ensures.log in
    let T : Turn → Type 0 = λ t. AdvanceTells (program_of c.args.self.now.image.now) start t c.advance.new.self.run in
    let asks = subst T c.in-Ok-Asks.field-0-is (c.in-Ok-Asks.ensures.told start c.requires.own.run) in
    λ is. halted_why ans c.args.self.now.image.now c.args.claim.now c.advance.new.self c.args.answerer.now g.O.Opening.opening asks.0 c.args.halted c.if-halted.true asks.1 at

pub returns-else-halted-clause-why : goal.returns-else-halted-clause-why
returns-else-halted-clause-why g c =
    let ans = g.A.Answerer.answering in
    let start = start_in c.args.claim.now.job c.args.claim.now.start in
    let at = goes_at ans c.args.self.now.image.now c.args.claim.now c.args.job.now c.args.answerer.now c.args.halted c.advance.new.self c.requires c.advance.ensures.run c.advance.ensures.log in
    let P : Bool → Type 0 = λ b. IsAt ans c.args.self.now.image.now c.args.claim.now b c.advance.new.self c.args.answerer.now in
    let free = subst P c.if-halted.false at in
    let T : Turn → Type 0 = λ t. AdvanceTells (program_of c.args.self.now.image.now) start t c.advance.new.self.run in
    let asks = subst T c.in-Ok-Asks.field-0-is (c.in-Ok-Asks.ensures.told start c.requires.own.run) in
    answered_why ans c.args.self.now.image.now c.args.claim.now c.advance.new.self c.args.answerer.now g.O.Opening.opening c.answer.new.claim c.answer.new.job c.answer.new.answerer
    asks.0 c.answer.result asks.1 free (c.answer.ensures.answered asks.0 asks.1)

pub returns-in-Err-clause-places : goal.returns-in-Err-clause-places
returns-in-Err-clause-places g c =
    let ans = g.A.Answerer.answering in
    let at = goes_at ans c.args.self.now.image.now c.args.claim.now c.args.job.now c.args.answerer.now c.args.halted c.advance.new.self c.requires c.advance.ensures.run c.advance.ensures.log in
    placed_at ans c.args.self.now.image.now c.args.claim.now c.advance.new.self c.args.answerer.now c.args.halted at

pub returns-in-Ok-Ended-clause-places : goal.returns-in-Ok-Ended-clause-places
returns-in-Ok-Ended-clause-places g c =
    let ans = g.A.Answerer.answering in
    let at = goes_at ans c.args.self.now.image.now c.args.claim.now c.args.job.now c.args.answerer.now c.args.halted c.advance.new.self c.requires c.advance.ensures.run c.advance.ensures.log in
    placed_at ans c.args.self.now.image.now c.args.claim.now c.advance.new.self c.args.answerer.now c.args.halted at

pub returns-then-halted-clause-places : goal.returns-then-halted-clause-places
returns-then-halted-clause-places g c =
    let ans = g.A.Answerer.answering in
    let at = goes_at ans c.args.self.now.image.now c.args.claim.now c.args.job.now c.args.answerer.now c.args.halted c.advance.new.self c.requires c.advance.ensures.run c.advance.ensures.log in
    placed_at ans c.args.self.now.image.now c.args.claim.now c.advance.new.self c.args.answerer.now c.args.halted at

pub returns-else-halted-clause-places : goal.returns-else-halted-clause-places
returns-else-halted-clause-places g c =
    let ans = g.A.Answerer.answering in
    let start = start_in c.args.claim.now.job c.args.claim.now.start in
    let at = goes_at ans c.args.self.now.image.now c.args.claim.now c.args.job.now c.args.answerer.now c.args.halted c.advance.new.self c.requires c.advance.ensures.run c.advance.ensures.log in
    let P : Bool → Type 0 = λ b. IsAt ans c.args.self.now.image.now c.args.claim.now b c.advance.new.self c.args.answerer.now in
    let free = subst P c.if-halted.false at in
    let T : Turn → Type 0 = λ t. AdvanceTells (program_of c.args.self.now.image.now) start t c.advance.new.self.run in
    let asks = subst T c.in-Ok-Asks.field-0-is (c.in-Ok-Asks.ensures.told start c.requires.own.run) in
    answered_places ans c.args.self.now.image.now c.args.claim.now c.advance.new.self c.args.answerer.now g.O.Opening.opening c.answer.new.claim c.answer.new.job c.answer.new.answerer
    asks.0 c.answer.result free (c.answer.ensures.answered asks.0 asks.1)
