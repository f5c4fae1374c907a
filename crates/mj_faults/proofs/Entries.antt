-- What a history has of a job, event by event.
use Rattle.std.specs.Prelude.{◌==◌, if◌then◌else◌}
use Rattle.std.proofs.Common.{◌≡◌, ℕ, zero, suc, ◌+◌, ◌≤◌, Bool, true, false, List, [], ◌∷◌, ◌++◌, length, drop, take, slice_get, Option, Some, None, Result, OnOk, refl, sym, ap, ◌∙◌, subst, arith}
use Rattle.std.proofs.lemmas.List.{drop_all, take_all}
use Rattle.mj_text.specs.declared.fault.Fault.{Fault}
use Rattle.mj_ask.specs.declared.ask.Reply.{Reply}
use Rattle.mj_ask.specs.Started.{Started}
use Rattle.mj_load.specs.Image.{Loaded}
use Rattle.mj_jobvm.specs.Run.{replies_of}
use Rattle.mj_sys.specs.History.{History, log_of}
use Rattle.mj_faulted.specs.Told.{AddsStory}
use Rattle.mj_faults.specs.Told.{AddsJob, AddsEvent, AddsFirst, AddsAll, reply_in, started_in, started_there}

one_more : (at : ℕ) → suc at ≡ at + 1
one_more at = omega arith

module _ (job : ℕ) where
  -- behind one event more there is its reply, if it is one of the job
  replies_by : (history : History) (at : ℕ)
      → replies_of (log_of job (take (suc at) history)) ≡ replies_of (log_of job (take at history)) ++ reply_in job (slice_get history at)
  replies_by [] zero = refl
  replies_by [] (suc at) = refl
  replies_by (f ∷ history) zero = by (f.job == job)
    where
      by : (b : Bool) → replies_of (if b then (f.ask, f.reply) ∷ [] else []) ≡ (if b then f.reply ∷ [] else [])
      by true = refl
      by false = refl
  replies_by (f ∷ history) (suc at) = by (f.job == job) (replies_by history at)
    where
      by : (b : Bool) → replies_of (log_of job (take (suc at) history)) ≡ replies_of (log_of job (take at history)) ++ reply_in job (slice_get history at)
          → replies_of (if b then (f.ask, f.reply) ∷ log_of job (take (suc at) history) else log_of job (take (suc at) history))
          ≡ replies_of (if b then (f.ask, f.reply) ∷ log_of job (take at history) else log_of job (take at history)) ++ reply_in job (slice_get history at)
      by true h = ap (λ (rs : List Reply). f.reply ∷ rs) h
      by false h = h

  pub replies_on : (history : History) (at : ℕ) (old new : List Reply) → old ≡ replies_of (log_of job (take at history))
      → new ≡ old ++ reply_in job (slice_get history at) → new ≡ replies_of (log_of job (take (at + 1) history))
  replies_on history at old new h k =
      let P : ℕ → Type 0 = λ n. new ≡ replies_of (log_of job (take n history)) in
      subst P (one_more at) (k ∙ ap (λ (rs : List Reply). rs ++ reply_in job (slice_get history at)) h ∙ sym (replies_by history at))

  pub replies_all : (history : History) (at : ℕ) (list : List Reply) → list ≡ replies_of (log_of job (take at history)) → length history ≤ at
      → list ≡ replies_of (log_of job history)
  replies_all history at list h past = h ∙ ap (λ (l : History). replies_of (log_of job l)) (take_all at history past)

  -- how the job starts is said by this event, or by those behind it
  started_on : (history : History) (at : ℕ)
      → started_in job (drop at history) ≡ elim (started_there job (slice_get history at)) [ None ↦ started_in job (drop (suc at) history) | Some start ↦ Some start ]
  started_on [] zero = refl
  started_on [] (suc at) = refl
  started_on (f ∷ history) zero = refl
  started_on (f ∷ history) (suc at) = started_on history at

  -- the event starts it
  pub started_here : (history : History) (at : ℕ) (start : Started) → started_in job history ≡ started_in job (drop at history)
      → started_there job (slice_get history at) ≡ Some start → started_in job history ≡ Some start
  started_here history at start h is =
      h ∙ started_on history at ∙ ap (λ (o : Option Started). elim o [ None ↦ started_in job (drop (suc at) history) | Some start ↦ Some start ]) is

  -- it doesn't
  pub started_later : (history : History) (at : ℕ) → started_in job history ≡ started_in job (drop at history)
      → started_there job (slice_get history at) ≡ None → started_in job history ≡ started_in job (drop (at + 1) history)
  started_later history at h is =
      let P : ℕ → Type 0 = λ n. started_in job history ≡ started_in job (drop n history) in
      subst P (one_more at)
      (h ∙ started_on history at ∙ ap (λ (o : Option Started). elim o [ None ↦ started_in job (drop (suc at) history) | Some start ↦ Some start ]) is)

  -- none does
  pub started_nowhere : (history : History) (at : ℕ) → started_in job history ≡ started_in job (drop at history) → length history ≤ at
      → started_in job history ≡ None
  started_nowhere history at h past = h ∙ ap (λ (l : History). started_in job l) (drop_all at history past)

module _ (image : Loaded) (sources : List (List ℕ × List ℕ)) (starts : List Started) (history : History) where
  -- what is told of a job whose start is known is put
  pub adds_job : {A E : Type 0} (r : Result A E) (told : Option Started) (start : Started) (job : ℕ) (fault : Fault) (replies : List Reply) (old new : List ℕ)
      → told ≡ Some start → replies ≡ replies_of (log_of job history)
      → OnOk r (AddsStory image sources start replies job fault old new) → OnOk r (AddsJob image sources told history job fault old new)
  adds_job r told start job fault replies old new is same h =
      let P : Option Started → Type 0 = λ t. OnOk r (AddsJob image sources t history job fault old new) in
      let Q : List Reply → Type 0 = λ rs. OnOk r (AddsStory image sources start rs job fault old new) in
      subst P (sym is) (subst Q same h)

  -- what one event more tells is put
  pub adds_more : (at : ℕ) (old mid new : List ℕ) → AddsFirst image sources starts history at old mid
      → AddsEvent image sources starts history (slice_get history at) mid new → AddsFirst image sources starts history (at + 1) old new
  adds_more at old mid new h k =
      let P : ℕ → Type 0 = λ n. AddsFirst image sources starts history n old new in
      subst P (one_more at) (mid, h, k)

  -- all is put
  pub adds_all : (at : ℕ) (old new : List ℕ) → at ≡ length history → AddsFirst image sources starts history at old new
      → AddsAll image sources starts history old new
  adds_all at old new all h =
      let P : ℕ → Type 0 = λ n. AddsFirst image sources starts history n old new in
      subst P all h
