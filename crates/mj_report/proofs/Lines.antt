-- Lines of a trace, one event after the other.
use Rattle.std.specs.Prelude.{slice_get, ◌==◌, if◌then◌else◌}
use Rattle.std.specs.List.{list_all, slice_index_or}
use Rattle.std.proofs.Common.{◌≡◌, ℕ, zero, suc, ◌+◌, Bool, true, false, ◌&&◌, List, [], ◌∷◌, ◌++◌, take, drop, length, Option, Some, None, refl, sym, ap, ◌∙◌, subst, arith, append_assoc, length-append, ◌≤◌}
use Rattle.mj_ask.specs.declared.ask.Ask.{Ask}
use Rattle.mj_ask.specs.declared.ask.Reply.{Reply}
use Rattle.mj_sys.specs.declared.event.Event.{Event}
use Rattle.mj_sys.specs.History.{History, log_of}
use Rattle.std.proofs.lemmas.Bool.Decides.{nat_tests}
use Rattle.mj_sys.proofs.Rows.{log_of_append}
use Rattle.mj_text.specs.declared.limit.Limit.TheVariants.{V2}
use Rattle.mj_semantics.specs.State.{Place}
use Rattle.mj_ask.specs.declared.noted.Noted.{Noted}
use Rattle.mj_ask.specs.declared.noted.Spot.{Spot}
use Rattle.mj_trace.specs.declared.form.Form.TheVariants.{Second}
use Rattle.mj_trace.specs.Spelling.{event_text}
use Rattle.mj_trace.specs.Trace.{event_lines}
use Rattle.mj_trace.specs.Sized.{event_fits}
use Rattle.mj_recorded.specs.Traces.{noted_at, noted_behind}
use Rattle.mj_report.specs.Traced.{with_one}

same_turned : (a b : ℕ) → (a == b) ≡ (b == a)
same_turned a b = grind (arith, nat_tests)

-- the next event behind those before it
next_drop : (history : History) (at : ℕ) (e : Event) → slice_get history at ≡ Some e → drop at history ≡ e ∷ drop (suc at) history
next_drop [] at e is = absurd (let no : None ≡ Some e = is in cc)
next_drop (x ∷ history) zero e is = let same : x ≡ e = (let s : Some x ≡ Some e = is in cc) in ap (λ y. y ∷ history) same
next_drop (x ∷ history) (suc at) e is = next_drop history at e is

next_take : (history : History) (at : ℕ) (e : Event) → slice_get history at ≡ Some e → take (suc at) history ≡ take at history ++ e ∷ []
next_take [] at e is = absurd (let no : None ≡ Some e = is in cc)
next_take (x ∷ history) zero e is = let same : x ≡ e = (let s : Some x ≡ Some e = is in cc) in ap (λ y. y ∷ []) same
next_take (x ∷ history) (suc at) e is = ap (λ l. x ∷ l) (next_take history at e is)

module _ (places : ℕ → List (Option Place)) (history : History) (at : ℕ) (e : Event) (is : slice_get history at ≡ Some e) where
  abbrev next : Noted
  next = noted_at places (take at history) e

  -- those that are left, with their places
  left_is : noted_behind places (take at history) (drop at history) ≡ next ∷ noted_behind places (take (suc at) history) (drop (suc at) history)
  left_is =
      ap (λ (l : History). noted_behind places (take at history) l) (next_drop history at e is)
      ∙ ap (λ (f : History). next ∷ noted_behind places f (drop (suc at) history)) (sym (next_take history at e is))

  more : suc at ≡ at + 1
  more = omega arith

  -- the line of the next event is put, and those behind it are left
  pub lines_on : (old new all : List ℕ) → old ++ event_lines (Second V2) (noted_behind places (take at history) (drop at history)) ≡ all
      → new ≡ old ++ (event_text (Second V2) next ++ 10 ∷ []) → new ++ event_lines (Second V2) (noted_behind places (take (at + 1) history) (drop (at + 1) history)) ≡ all
  lines_on old new all left grows =
      let P : ℕ → Type 0 = λ n. new ++ event_lines (Second V2) (noted_behind places (take n history) (drop n history)) ≡ all in
      let line : List ℕ = event_text (Second V2) next in
      let behind : List ℕ = event_lines (Second V2) (noted_behind places (take (suc at) history) (drop (suc at) history)) in
      subst P more (ap (λ bytes. bytes ++ behind) grows ∙ append_assoc old (line ++ 10 ∷ []) behind ∙ ap (λ bytes. old ++ bytes) (append_assoc line (10 ∷ []) behind)
      ∙ sym (ap (λ (l : List Noted). old ++ event_lines (Second V2) l) left_is) ∙ left)

  -- the next event fits, and those behind it are left
  pub fits_on : event_fits next ≡ true
      → list_all event_fits (noted_behind places (take (at + 1) history) (drop (at + 1) history)) ≡ list_all event_fits (noted_behind places (take at history) (drop at history))
  fits_on fit =
      let all : Bool = list_all event_fits (noted_behind places (take at history) (drop at history)) in
      let P : ℕ → Type 0 = λ n. list_all event_fits (noted_behind places (take n history) (drop n history)) ≡ all in
      let behind : Bool = list_all event_fits (noted_behind places (take (suc at) history) (drop (suc at) history)) in
      subst P more (sym (ap (λ (l : List Noted). list_all event_fits l) left_is ∙ ap (λ b. b && behind) fit))

  -- it is counted for its job
  pub counts_on : (counts new : ℕ → ℕ) → ((job : ℕ) → counts job ≡ length (log_of job (take at history))) → ((k : ℕ) → new k ≡ with_one counts e.job k)
      → (job : ℕ) → new job ≡ length (log_of job (take (at + 1) history))
  counts_on counts new had one job =
      let P : ℕ → Type 0 = λ n. new job ≡ length (log_of job (take n history)) in
      subst P more (one job ∙ by (job == e.job) (e.job == job) (same_turned job e.job) ∙ sym long)
    where
      long : length (log_of job (take (suc at) history)) ≡ length (log_of job (take at history)) + length (log_of job (e ∷ []))
      long =
          ap (λ (h : History). length (log_of job h)) (next_take history at e is)
          ∙ ap length (log_of_append job (take at history) (e ∷ [])) ∙ length-append (log_of job (take at history)) (log_of job (e ∷ []))

      by : (b c : Bool) → b ≡ c → (if b then counts job + 1 else counts job)
          ≡ length (log_of job (take at history)) + length {A = Ask × Reply} (if c then (e.ask, e.reply) ∷ [] else [])
      by true true s = ap (λ n. n + 1) (had job)
      by false false s = had job ∙ (let e : length (log_of job (take at history)) ≡ length (log_of job (take at history)) + 0 = omega arith in e)
      by true false s = absurd (let no : true ≡ false = s in cc)
      by false true s = absurd (let no : false ≡ true = s in cc)

-- the line of an event, and whether it fits, by another name of its place
pub line_with : (e : Event) (old new : List ℕ) (spot named : Option Spot) → spot ≡ named
    → new ≡ old ++ (event_text (Second V2) (record { job = e.job; spot = spot; ask = e.ask; reply = e.reply }) ++ 10 ∷ [])
    → new ≡ old ++ (event_text (Second V2) (record { job = e.job; spot = named; ask = e.ask; reply = e.reply }) ++ 10 ∷ [])
line_with e old new spot named same =
    subst (λ (s : Option Spot). new ≡ old ++ (event_text (Second V2) (record { job = e.job; spot = s; ask = e.ask; reply = e.reply }) ++ 10 ∷ [])) same

pub fits_with : (e : Event) (spot named : Option Spot) → spot ≡ named
    → event_fits (record { job = e.job; spot = spot; ask = e.ask; reply = e.reply }) ≡ true
    → event_fits (record { job = e.job; spot = named; ask = e.ask; reply = e.reply }) ≡ true
fits_with e spot named same = subst (λ (s : Option Spot). event_fits (record { job = e.job; spot = s; ask = e.ask; reply = e.reply }) ≡ true) same

-- no job has more events than there are
few_of : (job : ℕ) (history : History) → length (log_of job history) ≤ length history
few_of job [] = omega arith
few_of job (e ∷ history) = by (e.job == job) (few_of job history)
  where
    by : (b : Bool) → length (log_of job history) ≤ length history → length {A = Ask × Reply} (if b then (e.ask, e.reply) ∷ log_of job history else log_of job history) ≤ suc (length history)
    by true le = omega (arith, le)
    by false le = omega (arith, le)

take_few : {X : Type 0} (n : ℕ) (xs : List X) → length (take n xs) ≤ n
take_few zero xs = omega arith
take_few (suc n) [] = omega arith
take_few (suc n) (x ∷ xs) = let le = take_few n xs in omega (arith, le)

pub few_logged : (job n : ℕ) (history : History) → length (log_of job (take n history)) ≤ n
few_logged job n history = let few = few_of job (take n history) in let le = take_few n history in omega (arith, few, le)
