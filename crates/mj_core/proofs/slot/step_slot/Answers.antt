use Rattle.std.proofs.Common.{◌≡◌, true, refl, sym, ap, ◌∙◌, subst, inl}
use Rattle.std.specs.Option.{is_some}
use Rattle.std.specs.Prelude.{None, Result, Ok, Err, IfOk, OnErr, option_copied}
use Rattle.std.specs.declared.alloc.AllocError.{AllocError}
use Rattle.mj_load.specs.Image.{program_of}
use Rattle.mj_jobs.specs.Rows.{IsLive}
use Rattle.mj_jobvm.specs.Run.{Log, GoesOn, HasEnded}
use Rattle.mj_jobvm.specs.Told.{AdvanceTells, IsWaitingAt, spent_after}
use Rattle.mj_jobvm.specs.declared.job.Turn.{Turn}
use Rattle.mj_jobvm.specs.declared.job.Turn.TheVariants as turns
use Rattle.mj_sys.specs.History.{state_of}
use Rattle.mj_core.specs.Gives.{MayGoOn}
use Rattle.mj_core.specs.Ties.{Placed, IsPlaced, start_of, stand_of}
use Rattle.mj_core.proofs.Stepping.{IsStepped, unasked, may_go, stands_nowhere, is_stepped}
use Rattle.mj_core.proofs.slot.step_slot.Given.{Over}
use Rattle.mj_core.proofs.slot.step_slot.Goals as goal
use Rattle.mj_core.proofs.slot.step_slot.Goals.{After-advance, After-ask}

-- the slot, as it was
abbrev slot_in : (g : Over) (c : After-advance g) → Placed g.row.A.Denot
slot_in g c = record { claim = c.slot.inside.claim; job = c.slot.inside.job; answerer = c.slot.inside.answerer; at_ask = c.slot.inside.at_ask }

-- how its job went, by its run from its start
told : (g : Over) (c : After-advance g) (went : Result Turn AllocError) → c.advance.result ≡ went
    → IfOk went (λ turn. AdvanceTells (program_of c.args.image.now) (start_of (slot_in g c)) turn c.advance.new.self.run)
told g c went is =
    let P : Placed g.row.A.Denot → Type 0 = λ p. IsPlaced g.A.Answerer.answering c.args.image.now g.O.Opening.opening c.args.system.now p in
    let tied = subst P (sym c.slot.view_is) c.requires.tied in
    let T : Result Turn AllocError → Type 0 = λ w. IfOk w (λ turn. AdvanceTells (program_of c.args.image.now) (start_of (slot_in g c)) turn c.advance.new.self.run) in
    subst T is (c.advance.ensures.told (start_of (slot_in g c)) tied.own.run)

-- and what it counted
counted : (g : Over) (c : After-advance g) (went : Result Turn AllocError) → c.advance.result ≡ went
    → c.advance.new.self.run.spent ≡ spent_after went 10000 c.slot.inside.job.run.spent
counted g c went is =
    let S : Result Turn AllocError → Type 0 = λ w. c.advance.new.self.run.spent ≡ spent_after w 10000 c.slot.inside.job.run.spent in
    subst S is c.advance.ensures.spent

-- whether it waits then
waits : (g : Over) (c : After-advance g) (turn : Turn) → c.advance.result ≡ Ok turn → IsWaitingAt turn c.advance.new.self.run.pending
waits g c turn is =
    let W : Result Turn AllocError → Type 0 = λ w. IfOk w (λ t. IsWaitingAt t c.advance.new.self.run.pending) in
    subst W is c.advance.ensures.waits

-- one that doesn't ask now didn't wait
unwaited : (g : Over) (c : After-advance g) → (c.advance.result ≡ Ok turns.Asks → ⊥) → c.slot.inside.job.run.pending ≡ None
unwaited g c unlike = unasked c.slot.inside.job.run.pending (λ some. unlike (c.advance.ensures.again some).0)

-- nor does it wait where memory was refused on its way
refused_none : (g : Over) (c : After-advance g) (e : AllocError) → c.advance.result ≡ Err e → c.advance.new.self.run.pending ≡ None
refused_none g c e is =
    let E : Result Turn AllocError → Type 0 = λ w. OnErr w (c.advance.new.self.run.pending ≡ c.slot.inside.job.run.pending) in
    subst E is c.advance.ensures.err ∙ unwaited g c (λ asks. (let no : Err e ≡ Ok turns.Asks = sym is ∙ asks in cc))

-- so it may go on
goes : (g : Over) (c : After-advance g) → (c.advance.result ≡ Ok turns.Asks → ⊥) → MayGoOn (stand_of c.args.slot.now)
goes g c unlike =
    let job = c.slot.inside.job in
    let P : Placed g.row.A.Denot → Type 0 = λ p. MayGoOn (stand_of p) in
    subst P c.slot.view_is
    (may_go job.run.pending job.run.log job.run.at.state c.slot.inside.at_ask (unwaited g c unlike))

pub ask-requires-clause-asks : goal.ask-requires-clause-asks
ask-requires-clause-asks g c =
    let at = (goal.at.ask-requires-clause-asks g c).After-advance in
    ap is_some (told g at (Ok turns.Asks) (c.in-Ok-Asks.is ∙ ap Ok c.in-Ok-Asks.field-0-is)).1

pub returns-in-Ok-Ran-clause-gives : goal.returns-in-Ok-Ran-clause-gives
returns-in-Ok-Ran-clause-gives g c =
    let at = (goal.at.returns-in-Ok-Ran-clause-gives g c).After-advance in
    let is : c.advance.result ≡ Ok turns.Ran = c.in-Ok-Ran.is ∙ ap Ok c.in-Ok-Ran.field-0-is in
    let Q : Log → Type 0 = λ l. GoesOn (program_of c.args.image.now) (start_of (slot_in g at)) l c.advance.new.self.run.spent in
    rw (← c.slot.view_is) (
      counted g at (Ok turns.Ran) is,
      subst Q c.advance.ensures.log (told g at (Ok turns.Ran) is),
      refl,
      c.advance.ensures.log,
      (λ name has h. h),
      stands_nowhere c.advance.new.self.run.pending c.advance.new.self.run.at.state (waits g at turns.Ran is),
      may_go c.slot.inside.job.run.pending c.slot.inside.job.run.log c.slot.inside.job.run.at.state c.slot.inside.at_ask
          (unwaited g at (λ asks. (let no : Ok turns.Ran ≡ Ok turns.Asks = sym is ∙ asks in cc))),
    )

pub returns-in-Ok-Ended-clause-gives : goal.returns-in-Ok-Ended-clause-gives
returns-in-Ok-Ended-clause-gives g c =
    let at = (goal.at.returns-in-Ok-Ended-clause-gives g c).After-advance in
    let is : c.advance.result ≡ Ok turns.Ended = c.in-Ok-Ended.is ∙ ap Ok c.in-Ok-Ended.field-0-is in
    let Q : Log → Type 0 = λ l. HasEnded (program_of c.args.image.now) (start_of (slot_in g at)) l in
    rw (← c.slot.view_is) (
      subst Q c.advance.ensures.log (told g at (Ok turns.Ended) is),
      refl,
      (c.advance.ensures.log, counted g at (Ok turns.Ended) is, (λ name has h. h)),
      stands_nowhere c.advance.new.self.run.pending c.advance.new.self.run.at.state (waits g at turns.Ended is),
    )

-- where it asks, all that is ensured comes of what `ask` gives
behind : (g : Over) (c : After-ask g)
    → IsStepped g.A.Answerer.answering c.args.image.now g.O.Opening.opening c.args.late (option_copied c.args.given) c.args.system.now c.args.slot.now c.ask.result
    c.ask.new.system (record { claim = c.ask.new.claim; job = c.ask.new.job; answerer = c.ask.new.answerer; at_ask = true })
behind g c =
    let ans = g.A.Answerer.answering in
    let opening = g.O.Opening.opening in
    let image = c.args.image.now in
    let system = c.args.system.now in
    let s : Placed g.row.A.Denot = record { claim = c.slot.inside.claim; job = c.slot.inside.job; answerer = c.slot.inside.answerer; at_ask = c.slot.inside.at_ask } in
    let start = start_of s in
    let is : c.advance.result ≡ Ok turns.Asks = c.in-Ok-Asks.is ∙ ap Ok c.in-Ok-Asks.field-0-is in
    let T : Placed g.row.A.Denot → Type 0 = λ p. IsPlaced ans image opening system p in
    let tied = subst T (sym c.slot.view_is) c.requires.tied in
    let L : Placed g.row.A.Denot → Type 0 = λ p. IsLive (state_of opening system.history).rows p.claim.job in
    let W : Result Turn AllocError → Type 0 = λ w. IfOk w (λ turn. AdvanceTells (program_of image) start turn c.advance.new.self.run) in
    let S : Result Turn AllocError → Type 0 = λ w. c.advance.new.self.run.spent ≡ spent_after w 10000 s.job.run.spent in
    let asks : AdvanceTells (program_of image) start turns.Asks c.advance.new.self.run = subst W is (c.advance.ensures.told start tied.own.run) in
    let P : Placed g.row.A.Denot → Type 0 = λ p.
    IsStepped ans image opening c.args.late (option_copied c.args.given) system p c.ask.result c.ask.new.system
    (record { claim = c.ask.new.claim; job = c.ask.new.job; answerer = c.ask.new.answerer; at_ask = true }) in
    subst P c.slot.view_is
    (is_stepped ans image opening system c.ask.new.system s.claim c.ask.new.claim s.job c.advance.new.self c.ask.new.job s.answerer c.ask.new.answerer s.at_ask c.args.late
    (option_copied c.args.given) tied (c.advance.ensures.run start tied.own.run) c.advance.ensures.log (subst L (sym c.slot.view_is) c.requires.live) asks.0 asks.1 asks.2
    (subst S is c.advance.ensures.spent) c.ask.result c.ask.ensures.ok c.ask.ensures.refused c.ask.ensures.kept)

pub returns-in-Ok-Asks-clause-gives : goal.returns-in-Ok-Asks-clause-gives
returns-in-Ok-Asks-clause-gives g c = (behind g (goal.at.returns-in-Ok-Asks-clause-gives g c).After-ask).gives

pub returns-in-Ok-Asks-clause-refused : goal.returns-in-Ok-Asks-clause-refused
returns-in-Ok-Asks-clause-refused g c = (behind g (goal.at.returns-in-Ok-Asks-clause-refused g c).After-ask).refused

pub returns-in-Ok-Asks-clause-kept : goal.returns-in-Ok-Asks-clause-kept
returns-in-Ok-Asks-clause-kept g c = (behind g (goal.at.returns-in-Ok-Asks-clause-kept g c).After-ask).kept

pub returns-in-Ok-Asks-clause-tied : goal.returns-in-Ok-Asks-clause-tied
returns-in-Ok-Asks-clause-tied g c = (behind g (goal.at.returns-in-Ok-Asks-clause-tied g c).After-ask).tied

pub returns-in-Ok-Asks-clause-stands : goal.returns-in-Ok-Asks-clause-stands
returns-in-Ok-Asks-clause-stands g c = (behind g (goal.at.returns-in-Ok-Asks-clause-stands g c).After-ask).stands

-- without an ask it stands at none
pub returns-in-Ok-Ran-clause-stands : goal.returns-in-Ok-Ran-clause-stands
returns-in-Ok-Ran-clause-stands g c =
    let at = (goal.at.returns-in-Ok-Ran-clause-stands g c).After-advance in
    inl (refl, waits g at turns.Ran (c.in-Ok-Ran.is ∙ ap Ok c.in-Ok-Ran.field-0-is))

pub returns-in-Ok-Ended-clause-stands : goal.returns-in-Ok-Ended-clause-stands
returns-in-Ok-Ended-clause-stands g c =
    let at = (goal.at.returns-in-Ok-Ended-clause-stands g c).After-advance in
    inl (refl, waits g at turns.Ended (c.in-Ok-Ended.is ∙ ap Ok c.in-Ok-Ended.field-0-is))

pub returns-in-Err-clause-stands : goal.returns-in-Err-clause-stands
returns-in-Err-clause-stands g c =
    let at = (goal.at.returns-in-Err-clause-stands g c).After-advance in
    inl (refl, refused_none g at c.in-Err.field-0 c.in-Err.is)

-- memory was refused on the job's way
pub returns-in-Err-clause-refused : goal.returns-in-Err-clause-refused
returns-in-Err-clause-refused g c =
    let at = (goal.at.returns-in-Err-clause-refused g c).After-advance in
    inl (
      goes g at (λ asks. (let no : Err c.in-Err.field-0 ≡ Ok turns.Asks = sym c.in-Err.is ∙ asks in cc)),
      stands_nowhere c.advance.new.self.run.pending c.advance.new.self.run.at.state (refused_none g at c.in-Err.field-0 c.in-Err.is),
    )
