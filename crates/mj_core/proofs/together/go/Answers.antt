use Rattle.std.proofs.Common.{◌≡◌, ℕ, suc, ◌+◌, List, [], ◌∷◌, ◌++◌, length, Option, Some, sym, ap, ◌∙◌, subst, slice_index_or, slice_set, arith}
use Rattle.std.specs.Prelude.{slice_get, Ok, option_copied}
use Rattle.std.proofs.lemmas.Option.{slice_get-get_or}
use Rattle.std.proofs.lemmas.Result.{err_from_is_err_and}
use Rattle.mj_load.specs.Image.{program_of}
use Rattle.mj_jobs.specs.Rows.{Row, row_at, IsLive, rows_limit}
use Rattle.mj_sys.specs.History.{state_of}
use Rattle.mj_sys.specs.System.{Claimed}
use Rattle.mj_core.specs.declared.happened.Happened.{Happened}
use Rattle.mj_core.specs.Woven.{woven}
use Rattle.mj_core.specs.declared.seen.Seen.TheVariants as seen
use Rattle.mj_core.specs.declared.parts.Made.{Made}
use Rattle.mj_core.specs.declared.parts.Made.TheVariants as made
use Rattle.mj_core.specs.Gives as gives
use Rattle.mj_core.specs.Ties.{Placed, Steps}
use Rattle.mj_core.specs.Kept.{AreKept, logs_of, shown}
use Rattle.mj_core.proofs.Going.{seen_of, order_on, over_on, room_left, keeps_step, keeps_refused, makes_step, makes_none}
use Rattle.mj_core.proofs.together.go.Given.{Over}
use Rattle.mj_core.proofs.together.go.Goals as goal
use Rattle.mj_core.proofs.together.go.Goals.{After-step_slot}

pub step_slot-requires-clause-tied : goal.step_slot-requires-clause-tied
step_slot-requires-clause-tied g c =
    let slots = c.args.slots.now in
    (c.requires.kept.1.tied c.args.at (slice_index_or slots c.args.at c.index-slots-at.result)
    (slice_get-get_or slots c.args.at c.index-slots-at.result c.requires.there)).placed

pub step_slot-requires-clause-live : goal.step_slot-requires-clause-live
step_slot-requires-clause-live g c =
    let opening = g.O.Opening.opening in
    let slots = c.args.slots.now in
    let system = c.args.system.now in
    let numbered = (c.requires.kept.1.tied c.args.at (slice_index_or slots c.args.at c.index-slots-at.result)
    (slice_get-get_or slots c.args.at c.index-slots-at.result c.requires.there)).numbered in
    subst (λ j. IsLive (state_of opening system.history).rows j) (sym numbered) c.requires.live

pub step_slot-requires-clause-room : goal.step_slot-requires-clause-room
step_slot-requires-clause-room g c =
    let ans = g.A.Answerer.answering in
    let opening = g.O.Opening.opening in
    let image = c.args.image.now in
    let slots = c.args.slots.now in
    let system = c.args.system.now in
    room_left ans image opening system slots c.requires.kept.0 c.args.order.now.items c.requires.kept.1 c.requires.short

-- the slot of the step, as it was
abbrev slot_in : (g : Over) (c : After-step_slot g) → Placed g.row.A.Denot
slot_in g c = slice_index_or c.args.slots.now c.args.at c.index-slots-at.result

here : (g : Over) (c : After-step_slot g) → slice_get c.args.slots.now c.args.at ≡ Some (slot_in g c)
here g c = slice_get-get_or c.args.slots.now c.args.at c.index-slots-at.result c.requires.there

-- the slots behind it
abbrev slots_on : (g : Over) (c : After-step_slot g) → List (Placed g.row.A.Denot)
slots_on g c = slice_set c.args.slots.now c.args.at c.step_slot.new.slot

-- what was made of the step
abbrev Gave : (g : Over) (c : After-step_slot g) → Made → Type 0
Gave g c m =
    Steps g.A.Answerer.answering (program_of c.args.image.now) g.O.Opening.opening c.args.late (option_copied c.args.given) c.args.system.now (slot_in g c) m
    c.step_slot.new.system c.step_slot.new.slot

-- all is kept, where the order is that of what was made
keeps : (g : Over) (c : After-step_slot g) (m : Made) → Gave g c m → (waiting : Option Claimed)
    → AreKept g.A.Answerer.answering c.args.image.now g.O.Opening.opening c.args.system.now c.args.slots.now waiting c.args.order.now.items
    → AreKept g.A.Answerer.answering c.args.image.now g.O.Opening.opening c.step_slot.new.system (slots_on g c) waiting
    (order_on c.args.order.now.items c.args.at (slot_in g c).job.run.log m)
keeps g c m gave waiting kept =
    keeps_step g.A.Answerer.answering c.args.image.now g.O.Opening.opening c.args.system.now c.args.slots.now waiting c.args.order.now.items kept c.args.at (slot_in g c)
    c.step_slot.new.slot (here g c) c.step_slot.ensures.claim.0 c.args.late (option_copied c.args.given) c.step_slot.new.system c.step_slot.ensures.tied c.step_slot.ensures.stands
    c.requires.short m gave

-- and so it is seen
makes : (g : Over) (c : After-step_slot g) (m : Made) → Gave g c m → (row : Row)
    → row_at (state_of g.O.Opening.opening (woven (logs_of c.args.slots.now) c.args.order.now.items)).rows (suc c.args.at) ≡ Some row
    → gives.JobStepGives g.A.Answerer.answering.means g.O.Opening.opening (shown c.args.image.now c.args.slots.now c.args.order.now.items c.args.over.now rows_limit) (suc c.args.at) row
    c.args.late (option_copied c.args.given) (Ok (seen_of (length c.args.order.now.items) m))
    (shown c.args.image.now (slots_on g c) (order_on c.args.order.now.items c.args.at (slot_in g c).job.run.log m) (over_on c.args.over.now c.args.at m) rows_limit)
makes g c m gave row is =
    makes_step g.A.Answerer.answering c.args.image.now g.O.Opening.opening c.args.system.now c.args.slots.now c.requires.kept.0 c.args.order.now.items c.requires.kept.1 c.args.at
    (slot_in g c) c.step_slot.new.slot (here g c) c.step_slot.ensures.claim.0 c.args.late (option_copied c.args.given) c.step_slot.new.system c.step_slot.ensures.tied
    c.step_slot.ensures.stands c.requires.short c.args.over.now rows_limit c.requires.few row is c.requires.live m gave

pub returns-in_err-step_slot-clause-kept : goal.returns-in_err-step_slot-clause-kept
returns-in_err-step_slot-clause-kept g c = λ waiting kept.
    let at = (goal.at.returns-in_err-step_slot-clause-kept g c).After-step_slot in
    keeps_refused g.A.Answerer.answering c.args.image.now g.O.Opening.opening c.args.system.now c.args.slots.now waiting c.args.order.now.items kept c.args.at (slot_in g at)
    c.step_slot.new.slot (here g at) c.step_slot.ensures.claim.0 c.args.late (option_copied c.args.given) c.step_slot.new.system c.step_slot.ensures.tied c.step_slot.ensures.stands
    c.requires.short c.in_err-step_slot.ensures.kept

pub returns-in_err-step_slot-clause-made : goal.returns-in_err-step_slot-clause-made
returns-in_err-step_slot-clause-made g c = λ row is.
    let at = (goal.at.returns-in_err-step_slot-clause-made g c).After-step_slot in
    let p = err_from_is_err_and c.from_residual.result c.from_residual.ensures.1 in
    rw (p.1, p.2)
    (makes_none g.A.Answerer.answering c.args.image.now g.O.Opening.opening c.args.system.now c.args.slots.now c.requires.kept.0 c.args.order.now.items c.requires.kept.1 c.args.at
    (slot_in g at) c.step_slot.new.slot (here g at) c.step_slot.ensures.claim.0 c.args.late (option_copied c.args.given) c.step_slot.new.system c.step_slot.ensures.tied
    c.step_slot.ensures.stands c.requires.short c.args.over.now rows_limit c.requires.few row is
    c.in_err-step_slot.field-0.0 c.in_err-step_slot.ensures.refused c.in_err-step_slot.ensures.kept)

-- what is written down of an event
order_is : {A : Type 0} (order : List Happened) (at entries : ℕ) (slot : Placed A) → entries ≡ length slot.job.run.log
    → order ++ record { job = at + 1; at = entries } ∷ [] ≡ order_on order at slot.job.run.log made.Event
order_is order at entries slot long =
    let job : at + 1 ≡ suc at = omega arith in
    ap (λ (j : ℕ). let h : Happened = record { job = j; at = entries } in order ++ h ∷ []) job
    ∙ ap (λ (e : ℕ). let h : Happened = record { job = suc at; at = e } in order ++ h ∷ []) long

pub returns-in-Event-clause-kept : goal.returns-in-Event-clause-kept
returns-in-Event-clause-kept g c = λ waiting kept.
    let at = (goal.at.returns-in-Event-clause-kept g c).After-step_slot in
    let written : c.push_reserved.new.self.items ≡ order_on c.args.order.now.items c.args.at (slot_in g at).job.run.log made.Event =
    c.push_reserved.ensures.items
    ∙ order_is c.args.order.now.items c.args.at (length c.log.result.now) (slot_in g at)
    (ap length c.log.ensures.which ∙ ap (λ (s : Placed g.row.A.Denot). length s.job.run.log) c.slot.view_is) in
    subst (λ o. AreKept g.A.Answerer.answering c.args.image.now g.O.Opening.opening c.step_slot.new.system (slots_on g at) waiting o) (sym written)
    (keeps g at made.Event (subst (Gave g at) c.in-Event.is c.in_ok-step_slot.ensures.gives) waiting kept)

pub returns-in-Event-clause-made : goal.returns-in-Event-clause-made
returns-in-Event-clause-made g c = λ row is.
    let at = (goal.at.returns-in-Event-clause-made g c).After-step_slot in
    let written : c.push_reserved.new.self.items ≡ order_on c.args.order.now.items c.args.at (slot_in g at).job.run.log made.Event =
    c.push_reserved.ensures.items
    ∙ order_is c.args.order.now.items c.args.at (length c.log.result.now) (slot_in g at)
    (ap length c.log.ensures.which ∙ ap (λ (s : Placed g.row.A.Denot). length s.job.run.log) c.slot.view_is) in
    let P : ℕ → List Happened → Type 0 = λ n o.
    gives.JobStepGives g.A.Answerer.answering.means g.O.Opening.opening (shown c.args.image.now c.args.slots.now c.args.order.now.items c.args.over.now rows_limit) (suc c.args.at) row
    c.args.late (option_copied c.args.given) (Ok (seen.Event n)) (shown c.args.image.now (slots_on g at) o c.args.over.now rows_limit) in
    subst (λ n. P n c.push_reserved.new.self.items) (sym (c.len-place.ensures ∙ c.args.order.now.ok.0))
    (subst (λ o. P (length c.args.order.now.items) o) (sym written)
    (makes g at made.Event (subst (Gave g at) c.in-Event.is c.in_ok-step_slot.ensures.gives) row is))

pub returns-in-Busy-clause-kept : goal.returns-in-Busy-clause-kept
returns-in-Busy-clause-kept g c =
    let at = (goal.at.returns-in-Busy-clause-kept g c).After-step_slot in
    keeps g at (made.Busy c.in-Busy.holder c.in-Busy.held) (subst (Gave g at) c.in-Busy.is c.in_ok-step_slot.ensures.gives)

pub returns-in-Busy-clause-made : goal.returns-in-Busy-clause-made
returns-in-Busy-clause-made g c =
    let at = (goal.at.returns-in-Busy-clause-made g c).After-step_slot in
    makes g at (made.Busy c.in-Busy.holder c.in-Busy.held) (subst (Gave g at) c.in-Busy.is c.in_ok-step_slot.ensures.gives)

pub returns-in-NotYet-clause-kept : goal.returns-in-NotYet-clause-kept
returns-in-NotYet-clause-kept g c =
    let at = (goal.at.returns-in-NotYet-clause-kept g c).After-step_slot in
    keeps g at made.NotYet (subst (Gave g at) c.in-NotYet.is c.in_ok-step_slot.ensures.gives)

pub returns-in-NotYet-clause-made : goal.returns-in-NotYet-clause-made
returns-in-NotYet-clause-made g c =
    let at = (goal.at.returns-in-NotYet-clause-made g c).After-step_slot in
    makes g at made.NotYet (subst (Gave g at) c.in-NotYet.is c.in_ok-step_slot.ensures.gives)

pub returns-in-Unfit-clause-kept : goal.returns-in-Unfit-clause-kept
returns-in-Unfit-clause-kept g c =
    let at = (goal.at.returns-in-Unfit-clause-kept g c).After-step_slot in
    keeps g at made.Unfit (subst (Gave g at) c.in-Unfit.is c.in_ok-step_slot.ensures.gives)

pub returns-in-Unfit-clause-made : goal.returns-in-Unfit-clause-made
returns-in-Unfit-clause-made g c =
    let at = (goal.at.returns-in-Unfit-clause-made g c).After-step_slot in
    makes g at made.Unfit (subst (Gave g at) c.in-Unfit.is c.in_ok-step_slot.ensures.gives)

pub returns-in-Ran-clause-kept : goal.returns-in-Ran-clause-kept
returns-in-Ran-clause-kept g c =
    let at = (goal.at.returns-in-Ran-clause-kept g c).After-step_slot in
    keeps g at made.Ran (subst (Gave g at) c.in-Ran.is c.in_ok-step_slot.ensures.gives)

pub returns-in-Ran-clause-made : goal.returns-in-Ran-clause-made
returns-in-Ran-clause-made g c =
    let at = (goal.at.returns-in-Ran-clause-made g c).After-step_slot in
    makes g at made.Ran (subst (Gave g at) c.in-Ran.is c.in_ok-step_slot.ensures.gives)

pub returns-in-Ended-clause-kept : goal.returns-in-Ended-clause-kept
returns-in-Ended-clause-kept g c =
    let at = (goal.at.returns-in-Ended-clause-kept g c).After-step_slot in
    keeps g at made.Ended (subst (Gave g at) c.in-Ended.is c.in_ok-step_slot.ensures.gives)

pub returns-in-Ended-clause-made : goal.returns-in-Ended-clause-made
returns-in-Ended-clause-made g c =
    let at = (goal.at.returns-in-Ended-clause-made g c).After-step_slot in
    makes g at made.Ended (subst (Gave g at) c.in-Ended.is c.in_ok-step_slot.ensures.gives)
