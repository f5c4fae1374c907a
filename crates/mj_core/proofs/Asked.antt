-- Where the ask of an event came from, by what a core keeps.
use Rattle.std.specs.Prelude.{slice_get}
use Rattle.std.specs.List.{slice_index_or}
use Rattle.std.proofs.Common.{◌≡◌, ℕ, suc, List, take, length, Option, Some, None, sym, ap, ◌∙◌, subst}
use Rattle.std.proofs.lemmas.Option.{same_Some}
use Rattle.mj_ask.specs.declared.ask.Ask.{Ask}
use Rattle.mj_ask.specs.declared.ask.Reply.{Reply}
use Rattle.mj_semantics.specs.State.{Place}
use Rattle.mj_semantics.specs.Job.{Start}
use Rattle.mj_load.specs.Image.{Loaded, program_of}
use Rattle.mj_jobs.specs.Rows.{Row, row_at}
use Rattle.mj_jobvm.specs.Run.{replies_of}
use Rattle.mj_jobvm.specs.Places.{IsPlaceOf}
use Rattle.mj_sys.specs.declared.event.Event.{Event}
use Rattle.mj_sys.specs.Shared.{Shared}
use Rattle.mj_sys.specs.History.{History, state_of, log_of}
use Rattle.mj_sys.specs.System.{Recorded, Claimed}
use Rattle.mj_core.specs.declared.happened.Happened.{Happened}
use Rattle.mj_core.specs.Woven.{woven}
use Rattle.mj_core.specs.Runs.{IsAskedFrom, start_in}
use Rattle.mj_core.specs.Answering.{Answering}
use Rattle.mj_core.specs.Ties.{Placed}
use Rattle.mj_core.specs.Kept.{AreKept, logs_of}
use Rattle.mj_core.proofs.Views.{shown_run}
use Rattle.mj_core.proofs.Ordered.{in_order_at, asked_from}

module _ {A : Type 0} (ans : Answering A) (image : Loaded) (opening : Shared) (system : Recorded) (slots : List (Placed A)) (waiting : Option Claimed) (order : List Happened)
    (kept : AreKept ans image opening system slots waiting order) (i : ℕ) (h : Happened) (here : slice_get order i ≡ Some h) (k : ℕ) (job : h.job ≡ suc k) (slot : Placed A)
    (there : slice_get slots k ≡ Some slot) (entry : Ask × Reply)
    (event : slice_get (woven (logs_of slots) order) i ≡ Some (record { job = h.job; ask = entry.0; reply = entry.1 })) where
  abbrev history : History
  history = woven (logs_of slots) order

  abbrev its : Event
  its = record { job = h.job; ask = entry.0; reply = entry.1 }

  from_here : (found : Option Place) → found ≡ slice_index_or slot.job.run.places h.at None → (row : Row) → row_at (state_of opening history).rows h.job ≡ Some row
      → IsPlaceOf (program_of image) (start_in h.job row.start) (replies_of (log_of h.job (take i history))) found
  from_here found is row rowed =
      let own = shown_run ans image opening system slots waiting order kept k slot there in
      let mine : own.0 ≡ row = same_Some own.0 row (sym own.1 ∙ ap (λ j. row_at (state_of opening history).rows j) (sym job) ∙ rowed) in
      let start : start_in (suc k) own.0.start ≡ start_in h.job row.start =
      ap (λ (r : Row). start_in (suc k) r.start) mine ∙ ap (λ j. start_in j row.start) (sym job) in
      let logged : log_of h.job history ≡ slot.job.run.log = ap (λ j. log_of j history) job ∙ (kept.tied k slot there).logged in
      let asked = asked_from (program_of image) (start_in (suc k) own.0.start) history i its slot.job.run.log slot.job.run.places event logged own.2.1.placed in
      let at : length (log_of h.job (take i history)) ≡ h.at = sym (in_order_at order history kept.ordered i h its here event) in
      let S : Start → Type 0 = λ s. IsPlaceOf (program_of image) s (replies_of (log_of h.job (take i history))) found in
      let N : ℕ → Type 0 = λ n. IsPlaceOf (program_of image) (start_in (suc k) own.0.start) (replies_of (log_of h.job (take i history))) (slice_index_or slot.job.run.places n None) in
      let F : Option Place → Type 0 = λ p. IsPlaceOf (program_of image) (start_in (suc k) own.0.start) (replies_of (log_of h.job (take i history))) p in
      subst S start (subst F (sym is) (subst N at asked))

  -- the place that is kept for an event's ask is where that came from
  pub asked_here : (found : Option Place) → found ≡ slice_index_or slot.job.run.places h.at None → IsAskedFrom (program_of image) opening history i found
  asked_here found is e same row rowed =
      let one : its ≡ e = same_Some its e (sym event ∙ same) in
      let P : Event → Type 0 = λ x. row_at (state_of opening history).rows x.job ≡ Some row
      → IsPlaceOf (program_of image) (start_in x.job row.start) (replies_of (log_of x.job (take i history))) found in
      subst P one (from_here found is row) rowed
