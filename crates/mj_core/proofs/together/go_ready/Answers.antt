use Rattle.std.proofs.Common.{◌≡◌, suc, List, Bool, Option, Some, refl, sym, ap, ◌∙◌, subst}
use Rattle.std.specs.Prelude.{slice_get, slice_set, Result, Ok, Err, IfOk, OnErr}
use Rattle.std.specs.declared.alloc.AllocError.{AllocError}
use Rattle.std.proofs.lemmas.Option.{slice_get-get_or}
use Rattle.mj_load.specs.Image.{program_of}
use Rattle.mj_jobs.specs.Rows.{Row, row_at, rows_limit}
use Rattle.mj_jobvm.specs.Told.{AdvanceTells, IsWaitingAt, spent_after}
use Rattle.mj_jobvm.specs.declared.job.Turn.{Turn}
use Rattle.mj_jobvm.specs.declared.job.Turn.TheVariants as turns
use Rattle.mj_sys.specs.History.{state_of}
use Rattle.mj_sys.specs.System.{Claimed}
use Rattle.mj_core.specs.Woven.{woven}
use Rattle.mj_core.specs.Gives.{Readies}
use Rattle.mj_core.specs.Ties.{Placed, start_of}
use Rattle.mj_core.specs.Kept.{AreKept, logs_of, shown}
use Rattle.mj_core.proofs.Readying.{WaitsThen, is_at_ask, turn_told, keeps_ready, readies, at_ask}
use Rattle.mj_core.proofs.Stepping.{unasked}
use Rattle.mj_core.proofs.together.go_ready.Given.{Over}
use Rattle.mj_core.proofs.together.go_ready.Goals as goal
use Rattle.mj_core.proofs.together.go_ready.Goals.{After-advance}

pub advance-requires : goal.advance-requires
advance-requires g c =
    let slot : Placed g.row.A.Denot = record { claim = c.slot.inside.claim; job = c.slot.inside.job; answerer = c.slot.inside.answerer; at_ask = c.slot.inside.at_ask } in
    let here : slice_get c.args.slots.now c.args.at ≡ Some slot =
    slice_get-get_or c.args.slots.now c.args.at c.index-slots-at.result c.requires.there ∙ ap Some (sym c.slot.view_is) in
    (start_of slot, (c.requires.kept.1.tied c.args.at slot here).placed.own.run)

-- the slot, as it was
abbrev slot_in : (g : Over) (c : After-advance g) → Placed g.row.A.Denot
slot_in g c = record { claim = c.slot.inside.claim; job = c.slot.inside.job; answerer = c.slot.inside.answerer; at_ask = c.slot.inside.at_ask }

here : (g : Over) (c : After-advance g) → slice_get c.args.slots.now c.args.at ≡ Some (slot_in g c)
here g c = slice_get-get_or c.args.slots.now c.args.at c.index-slots-at.result c.requires.there ∙ ap Some (sym c.slot.view_is)

-- the slots, where its job goes so
abbrev slots_on : (g : Over) (c : After-advance g) → Result Turn AllocError → List (Placed g.row.A.Denot)
slots_on g c went = slice_set c.args.slots.now c.args.at (record (slot_in g c) { job = c.advance.new.self; at_ask = is_at_ask went })

told : (g : Over) (c : After-advance g) (went : Result Turn AllocError) → c.advance.result ≡ went
    → IfOk went (λ turn. AdvanceTells (program_of c.args.image.now) (start_of (slot_in g c)) turn c.advance.new.self.run)
told g c went is =
    let T : Result Turn AllocError → Type 0 = λ w. IfOk w (λ turn. AdvanceTells (program_of c.args.image.now) (start_of (slot_in g c)) turn c.advance.new.self.run) in
    subst T is (c.advance.ensures.told (start_of (slot_in g c)) (c.requires.kept.1.tied c.args.at (slot_in g c) (here g c)).placed.own.run)

-- whether it waits then: one that was refused memory didn't before
waits : (g : Over) (c : After-advance g) (went : Result Turn AllocError) → c.advance.result ≡ went
    → WaitsThen went c.advance.new.self.run.pending
waits g c (Ok turn) is =
    let W : Result Turn AllocError → Type 0 = λ w. IfOk w (λ t. IsWaitingAt t c.advance.new.self.run.pending) in
    subst W is c.advance.ensures.waits
waits g c (Err e) is =
    let E : Result Turn AllocError → Type 0 = λ w. OnErr w (c.advance.new.self.run.pending ≡ c.slot.inside.job.run.pending) in
    subst E is c.advance.ensures.err
    ∙ unasked c.slot.inside.job.run.pending (λ some. (let no : Err e ≡ Ok turns.Asks = sym is ∙ (c.advance.ensures.again some).0 in cc))

-- all is kept
keeps : (g : Over) (c : After-advance g) (went : Result Turn AllocError) → c.advance.result ≡ went → (waiting : Option Claimed)
    → AreKept g.A.Answerer.answering c.args.image.now g.O.Opening.opening c.args.system.now c.args.slots.now waiting c.args.order.now
    → AreKept g.A.Answerer.answering c.args.image.now g.O.Opening.opening c.args.system.now (slots_on g c went) waiting c.args.order.now
keeps g c went is waiting kept =
    keeps_ready g.A.Answerer.answering c.args.image.now g.O.Opening.opening c.args.system.now c.args.slots.now waiting c.args.order.now kept c.args.at (slot_in g c) (here g c)
    c.advance.new.self c.advance.ensures.run c.advance.ensures.log went (told g c went is) (waits g c went is)

-- and so it is seen
shows : (g : Over) (c : After-advance g) (went : Result Turn AllocError) → c.advance.result ≡ went → (over : List Bool) (row : Row)
    → row_at (state_of g.O.Opening.opening (woven (logs_of c.args.slots.now) c.args.order.now)).rows (suc c.args.at) ≡ Some row
    → Readies g.O.Opening.opening (shown c.args.image.now c.args.slots.now c.args.order.now over rows_limit) (suc c.args.at) row (turn_told went)
    (shown c.args.image.now (slots_on g c went) c.args.order.now over rows_limit)
shows g c went is over row there =
    let S : Result Turn AllocError → Type 0 = λ w. c.advance.new.self.run.spent ≡ spent_after w 10000 c.slot.inside.job.run.spent in
    readies g.A.Answerer.answering c.args.image.now g.O.Opening.opening c.args.system.now c.args.slots.now c.requires.kept.0 c.args.order.now c.requires.kept.1 c.args.at (slot_in g c)
    (here g c) c.advance.new.self c.advance.ensures.run c.advance.ensures.log over rows_limit c.requires.few row there c.requires.live went (told g c went is) (subst S is c.advance.ensures.spent)
    (λ some. sym is ∙ (c.advance.ensures.again some).0) (waits g c went is)

pub returns-in-Ok-Asks-clause-kept : goal.returns-in-Ok-Asks-clause-kept
returns-in-Ok-Asks-clause-kept g c = keeps g (goal.at.returns-in-Ok-Asks-clause-kept g c).After-advance _ (c.in-Ok-Asks.is ∙ ap Ok c.in-Ok-Asks.field-0-is)

pub returns-in-Ok-Asks-clause-readies : goal.returns-in-Ok-Asks-clause-readies
returns-in-Ok-Asks-clause-readies g c = shows g (goal.at.returns-in-Ok-Asks-clause-readies g c).After-advance _ (c.in-Ok-Asks.is ∙ ap Ok c.in-Ok-Asks.field-0-is)

pub returns-in-Ok-Ran-clause-kept : goal.returns-in-Ok-Ran-clause-kept
returns-in-Ok-Ran-clause-kept g c = keeps g (goal.at.returns-in-Ok-Ran-clause-kept g c).After-advance _ (c.in-Ok-Ran.is ∙ ap Ok c.in-Ok-Ran.field-0-is)

pub returns-in-Ok-Ran-clause-readies : goal.returns-in-Ok-Ran-clause-readies
returns-in-Ok-Ran-clause-readies g c = shows g (goal.at.returns-in-Ok-Ran-clause-readies g c).After-advance _ (c.in-Ok-Ran.is ∙ ap Ok c.in-Ok-Ran.field-0-is)

pub returns-in-Ok-Ended-clause-kept : goal.returns-in-Ok-Ended-clause-kept
returns-in-Ok-Ended-clause-kept g c = keeps g (goal.at.returns-in-Ok-Ended-clause-kept g c).After-advance _ (c.in-Ok-Ended.is ∙ ap Ok c.in-Ok-Ended.field-0-is)

pub returns-in-Ok-Ended-clause-readies : goal.returns-in-Ok-Ended-clause-readies
returns-in-Ok-Ended-clause-readies g c = shows g (goal.at.returns-in-Ok-Ended-clause-readies g c).After-advance _ (c.in-Ok-Ended.is ∙ ap Ok c.in-Ok-Ended.field-0-is)

pub returns-in-Err-clause-kept : goal.returns-in-Err-clause-kept
returns-in-Err-clause-kept g c = keeps g (goal.at.returns-in-Err-clause-kept g c).After-advance _ c.in-Err.is

pub returns-in-Err-clause-readies : goal.returns-in-Err-clause-readies
returns-in-Err-clause-readies g c = shows g (goal.at.returns-in-Err-clause-readies g c).After-advance _ c.in-Err.is

pub returns-in-Ok-Asks-clause-looked : goal.returns-in-Ok-Asks-clause-looked
returns-in-Ok-Asks-clause-looked g c =
    let before = (goal.at.returns-in-Ok-Asks-clause-looked g c).After-advance in
    let at = at_ask g.A.Answerer.answering c.args.image.now g.O.Opening.opening c.args.system.now c.args.slots.now c.requires.kept.0 c.args.order.now c.requires.kept.1 c.args.at
    (slot_in g before) (here g before) c.advance.new.self c.advance.ensures.run c.advance.ensures.log c.advance.result (c.in-Ok-Asks.is ∙ ap Ok c.in-Ok-Asks.field-0-is)
    c.advance.ensures.told in
    (c.advance.new.self, at, (_, c.look.ensures, refl))
