-- What a core shows is what its history says.
use Rattle.std.specs.Prelude.{IsSome, slice_get, nat_lt}
use Rattle.std.specs.List.{slice_index_or}
use Rattle.std.specs.Option.{option_map}
use Rattle.std.proofs.Common.{◌≡◌, ℕ, zero, suc, ◌<◌, ◌≤◌, true, false, List, [], ◌∷◌, length, Option, Some, None, refl, sym, ap, ◌∙◌, subst, arith}
use Rattle.std.proofs.lemmas.Option.{slice_get-map, slice_get_read, slice_get_past, none-some}
use Rattle.mj_ask.specs.declared.ask.Ask.{Ask}
use Rattle.mj_ask.specs.declared.ask.Reply.{Reply}
use Rattle.mj_load.specs.Image.{Loaded}
use Rattle.mj_jobs.specs.Rows.{Row, row_at}
use Rattle.mj_jobvm.specs.Run.{Log}
use Rattle.mj_jobvm.specs.Jobs.{IsRunOf}
use Rattle.mj_sessions.specs.Follow.{output_of_log}
use Rattle.mj_sys.specs.declared.event.Event.{Event}
use Rattle.mj_sys.specs.Shared.{Shared}
use Rattle.mj_sys.specs.History.{History, state_of}
use Rattle.mj_sys.specs.System.{Recorded, Claimed}
use Rattle.mj_core.specs.declared.happened.Happened.{Happened}
use Rattle.mj_core.specs.Woven.{Logs, entry_at, woven, AreThere}
use Rattle.mj_core.specs.Runs.{start_in, out_of}
use Rattle.mj_core.specs.Answering.{Answering}
use Rattle.mj_core.specs.Ties.{Placed}
use Rattle.mj_core.specs.Kept.{AreKept, logs_of}
use Rattle.mj_core.proofs.Histories.{same_state, none_past, starts}

-- a woven history has as many events as are written down
pub as_many : (logs : Logs) (order : List Happened) → AreThere logs order → length (woven logs order) ≡ length order
as_many logs [] there = refl
as_many logs (h ∷ order) there =
    ap (λ (o : Option (Ask × Reply)). length (elim o as (λ _. History) [ None ↦ woven logs order | Some x ↦ record { job = h.job; ask = x.0; reply = x.1 } ∷ woven logs order ])) there.0.1
    ∙ ap suc (as_many logs order there.1)

-- an entry of a job's log as an event
abbrev event_of : ℕ → Ask × Reply → Option Event
event_of job e = Some (record { job = job; ask = e.0; reply = e.1 })

-- the event at a place of it is the entry that is written down there
pub event_at : (logs : Logs) (order : List Happened) → AreThere logs order → (i : ℕ) (h : Happened) → slice_get order i ≡ Some h
    → (e : Ask × Reply) × (entry_at logs h.job h.at ≡ Some e) × (slice_get (woven logs order) i ≡ Some (record { job = h.job; ask = e.0; reply = e.1 }))
event_at logs [] there i h is = absurd (let no : None ≡ Some h = is in cc)
event_at logs (g ∷ order) there zero h is =
    let same : g ≡ h = (let s : Some g ≡ Some h = is in cc) in
    let woven_first : slice_get (woven logs (g ∷ order)) zero ≡ Some (record { job = g.job; ask = there.0.0.0; reply = there.0.0.1 }) =
    ap (λ (o : Option (Ask × Reply)). slice_get (elim o as (λ _. History) [ None ↦ woven logs order | Some x ↦ record { job = g.job; ask = x.0; reply = x.1 } ∷ woven logs order ]) zero) there.0.1 in (
      there.0.0,
      ap (λ (x : Happened). entry_at logs x.job x.at) (sym same) ∙ there.0.1,
      woven_first ∙ ap (λ (x : Happened). event_of x.job there.0.0) same,
    )
event_at logs (g ∷ order) there (suc i) h is =
    let rest = event_at logs order there.1 i h is in (
      rest.0,
      rest.1,
      ap (λ (o : Option (Ask × Reply)). slice_get (elim o as (λ _. History) [ None ↦ woven logs order | Some x ↦ record { job = g.job; ask = x.0; reply = x.1 } ∷ woven logs order ]) (suc i)) there.0.1
          ∙ rest.2,
    )

-- there is none behind the last
pub no_event : (logs : Logs) (order : List Happened) → AreThere logs order → (i : ℕ) → slice_get order i ≡ None → slice_get (woven logs order) i ≡ None
no_event logs [] there i is = refl
no_event logs (g ∷ order) there zero is = absurd (let no : Some g ≡ None = is in cc)
no_event logs (g ∷ order) there (suc i) is =
    ap (λ (o : Option (Ask × Reply)). slice_get (elim o as (λ _. History) [ None ↦ woven logs order | Some x ↦ record { job = g.job; ask = x.0; reply = x.1 } ∷ woven logs order ]) (suc i)) there.0.1
    ∙ no_event logs order there.1 i is

-- a place within a list has an element
pub some_within : {X : Type 0} (xs : List X) (i : ℕ) → i < length xs → IsSome (slice_get xs i)
some_within [] i within = absurd (let no : i < 0 = within in omega (arith, no))
some_within (x ∷ xs) zero within = refl
some_within (x ∷ xs) (suc i) within = some_within xs i (omega (arith, within))

-- what is found at a place of a list that is read, and that nothing is
pub found_at : {X : Type 0} (xs ys : List X) (i : ℕ) (x : X) → xs ≡ ys → true ≡ nat_lt i (length xs) → x ≡ slice_index_or xs i x → slice_get ys i ≡ Some x
found_at xs ys i x same less read = (let within : i < length xs = grind (arith, less) in ap (λ l. slice_get l i) (sym same) ∙ slice_get_read xs (length xs) i x refl within read)

pub missed_at : {X : Type 0} (xs ys : List X) (i : ℕ) → xs ≡ ys → false ≡ nat_lt i (length xs) → slice_get ys i ≡ None
missed_at xs ys i same less = (let past : length xs ≤ i = grind (arith, less) in ap (λ l. slice_get l i) (sym same) ∙ slice_get_past xs i past)

-- an entry of a log that is there stands in the slot of its job
pub entry_slot : {A : Type 0} (slots : List (Placed A)) (job at : ℕ) (e : Ask × Reply) → entry_at (logs_of slots) job at ≡ Some e
    → (k : ℕ) × (job ≡ suc k) × (slot : Placed A) × (slice_get slots k ≡ Some slot) × (slice_get slot.job.run.log at ≡ Some e)
entry_slot slots zero at e is = absurd (none-some e is)
entry_slot {A = A} slots (suc k) at e is = by (slice_get slots k) refl where
  mapped : (found : Option (Placed A)) → slice_get slots k ≡ found
      → entry_at (logs_of slots) (suc k) at ≡ (elim (option_map (λ (s : Placed A). s.job.run.log) found) as (λ _. Option (Ask × Reply)) [ None ↦ None | Some log ↦ slice_get log at ])
  mapped found here =
      ap (λ (o : Option Log). elim o as (λ _. Option (Ask × Reply)) [ None ↦ None | Some log ↦ slice_get log at ])
      (slice_get-map (λ (s : Placed A). s.job.run.log) slots k ∙ ap (option_map (λ (s : Placed A). s.job.run.log)) here)

  by : (found : Option (Placed A)) → slice_get slots k ≡ found
      → (j : ℕ) × (suc k ≡ suc j) × (slot : Placed A) × (slice_get slots j ≡ Some slot) × (slice_get slot.job.run.log at ≡ Some e)
  by None past = absurd (none-some e (sym (mapped None past) ∙ is))
  by (Some slot) here = (k, refl, slot, here, sym (mapped (Some slot) here) ∙ is)

module _ {A : Type 0} (ans : Answering A) (image : Loaded) (opening : Shared) (system : Recorded) (slots : List (Placed A)) (waiting : Option Claimed) (order : List Happened)
    (kept : AreKept ans image opening system slots waiting order) (k : ℕ) (name : List ℕ) (i : ℕ) where
  -- the bytes that a session of a job took, by the log of its slot; without a slot there are none
  pub out_here : (slot : Placed A) → slice_get slots k ≡ Some slot → output_of_log slot.job.run.log name i ≡ out_of (woven (logs_of slots) order) (suc k) name i
  out_here slot here = ap (λ l. output_of_log l name i) (sym (kept.tied k slot here).logged)

  pub out_none : slice_get slots k ≡ None → out_of (woven (logs_of slots) order) (suc k) name i ≡ []
  out_none past = ap (λ l. output_of_log l name i) (none_past ans image opening system slots waiting order kept k past)

module _ {A : Type 0} (ans : Answering A) (image : Loaded) (opening : Shared) (system : Recorded) (slots : List (Placed A)) (waiting : Option Claimed) (order : List Happened)
    (kept : AreKept ans image opening system slots waiting order) where
  -- what is written down at a place stands in the log of a slot, and is the event at that place
  pub there_at : (i : ℕ) (h : Happened) → slice_get order i ≡ Some h
      → (e : Ask × Reply) × (k : ℕ) × (h.job ≡ suc k) × (slot : Placed A) × (slice_get slots k ≡ Some slot) × (slice_get slot.job.run.log h.at ≡ Some e)
      × (slice_get (woven (logs_of slots) order) i ≡ Some (record { job = h.job; ask = e.0; reply = e.1 }))
  there_at i h is =
      let found = event_at (logs_of slots) order kept.there i h is in
      let s = entry_slot slots h.job h.at found.0 found.1 in
      (found.0, s.0, s.1, s.2, s.3, s.4, found.2)

  -- a slot's job is that of the row at its place, and runs from that row's start
  pub shown_run : (k : ℕ) (slot : Placed A) → slice_get slots k ≡ Some slot
      → (row : Row) × (row_at (state_of opening (woven (logs_of slots) order)).rows (suc k) ≡ Some row) × IsRunOf image (start_in (suc k) row.start) slot.job
  shown_run k slot here =
      let at = kept.tied k slot here in
      let row = at.placed.entered.row in
      let there : row_at (state_of opening (woven (logs_of slots) order)).rows (suc k) ≡ Some row.0 =
      ap (λ (s : Shared). row_at s.rows (suc k)) (same_state ans image opening system slots waiting order kept)
      ∙ ap (λ j. row_at (state_of opening system.history).rows j) (sym at.numbered) ∙ row.1 in
      (row.0, there, subst (λ s. IsRunOf image s slot.job) (starts ans image opening system slots waiting order kept k slot row.0 here there) at.placed.own.run)
