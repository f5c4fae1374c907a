-- Event by event, a run can be written.
use Rattle.std.proofs.Common.{◌≡◌, ℕ, zero, suc, Bool, true, false, List, [], ◌∷◌, ◌++◌, Option, Some, refl, sym, ap, ◌∙◌, subst}
use Rattle.std.specs.Prelude.{◌==◌, ◌||◌, not, is_some, if◌then◌else◌}
use Rattle.std.specs.List.{list_all}
use Rattle.std.proofs.lemmas.List.{append_assoc, append-nil}
use Rattle.std.proofs.lemmas.Bool.{eq-eqb}
use Rattle.mj_ask.specs.declared.ask.Ask.{Ask}
use Rattle.mj_ask.specs.declared.ask.Reply.{Reply}
use Rattle.mj_ask.specs.Started.{Started}
use Rattle.mj_ask.specs.Fits.{fits, is_reply_to, is_late, timeout_of, is_shared}
use Rattle.mj_ask.specs.Written.{is_entry}
use Rattle.mj_ask.specs.Formed.{is_ask, is_reply}
use Rattle.mj_ask.proofs.Lists.{and_true, both_true}
use Rattle.mj_semantics.specs.Program.{Program}
use Rattle.mj_rou.specs.Words.{Each, IsRoutineWorded}
use Rattle.mj_written.proofs.Runs.{are_written}
use Rattle.mj_jobs.specs.Rows.{Row, row_at, IsLive}
use Rattle.mj_jobvm.specs.Run.{replies_of}
use Rattle.mj_sys.specs.declared.event.Event.{Event}
use Rattle.mj_sys.specs.Shared.{Shared, served}
use Rattle.mj_sys.specs.History.{History, IsServed, after, state_of, log_of}
use Rattle.mj_sys.proofs.Replays.{state_with}
use Rattle.mj_sys.proofs.Rows.{rows_kept, state_of_append, log_of_append}
use Rattle.mj_core.specs.Happen.{Happens, AllHappen}
use Rattle.mj_core.specs.Runs.{IsRun, start_in}
use Rattle.mj_recorded.specs.Laws.{CanBeWritten, IsStarted, IsFormed}
use Rattle.mj_recorded.proofs.Traces.{makes}
use Rattle.mj_recorded.proofs.Serving.{Tells, one_of, joined, serves, leaves, unshared}

-- a job's replies in a history that can be written
pub replies_written : (job : ℕ) (history : History) → Each CanBeWritten history → list_all is_reply (replies_of (log_of job history)) ≡ true
replies_written job [] h = refl
replies_written job (e ∷ history) h = by (e.job == job) (replies_written job history h.1)
  where
    by : (b : Bool) → list_all is_reply (replies_of (log_of job history)) ≡ true
        → list_all is_reply (replies_of (if b then (e.ask, e.reply) ∷ log_of job history else log_of job history)) ≡ true
    by true rest = and_true (is_reply e.reply) (list_all is_reply (replies_of (log_of job history))) h.0.1 rest
    by false rest = rest

-- what fits an ask stands in the table behind it
stands : (a : Ask) (r : Reply) → fits a r ≡ true → is_reply_to a r ≡ true
stands a r fit = (both_true (is_reply_to a r) (not (is_late r) || is_some (timeout_of a)) fit).0

same_job : (job : ℕ) → (job == job) ≡ true
same_job job = eq-eqb job job refl

-- its own event is in its log
pub own : (e : Event) (history : History) → log_of e.job (e ∷ history) ≡ (e.ask, e.reply) ∷ log_of e.job history
own e history = by (e.job == e.job) (same_job e.job)
  where
    by : (b : Bool) → b ≡ true → (if b then (e.ask, e.reply) ∷ log_of e.job history else log_of e.job history) ≡ (e.ask, e.reply) ∷ log_of e.job history
    by true p = refl
    by false p = absurd cc

pub row_started : (rows : List Row) (job : ℕ) (row : Row) → Each IsStarted rows → row_at rows job ≡ Some row → IsStarted row
row_started rows zero row h e = absurd cc
row_started rows (suc k) row h e = one_of IsStarted rows k row h e

module _ (program : Program) (opening : Shared) (history : History) (worded : Each IsRoutineWorded program.routines) (run : IsRun program opening history) where
  -- the ask of an event, behind events that can be written
  asked : (done rest : History) (e : Event) → history ≡ done ++ e ∷ rest → Each CanBeWritten done → IsFormed (state_of opening done) → IsLive (state_of opening done).rows e.job
      → (is_ask e.ask ≡ true) × (fits e.ask e.reply ≡ true)
  asked done rest e whole written formed live =
      let s : Shared = state_of opening done in
      let final : state_of opening history ≡ state_of s (e ∷ rest) = ap (state_of opening) whole ∙ state_of_append opening done (e ∷ rest) in
      let kept = (rows_kept s (e ∷ rest)).starts e.job live.0 live.1 in
      let row : Row = kept.0 in
      let there : row_at (state_of opening history).rows e.job ≡ Some row = ap (λ (t : Shared). row_at t.rows e.job) final ∙ kept.1 in
      let entry : is_entry row.start.entry ≡ true =
      subst (λ (x : Started). is_entry x.entry ≡ true) (sym kept.2) (row_started s.rows e.job live.0 formed.rows live.1) in
      let log : log_of e.job history ≡ log_of e.job done ++ (e.ask, e.reply) ∷ log_of e.job rest =
      ap (log_of e.job) whole ∙ log_of_append e.job done (e ∷ rest) ∙ ap (λ l. log_of e.job done ++ l) (own e rest) in
      let m = makes program (start_in e.job row.start) (log_of e.job history) (run.traces e.job row there) (log_of e.job done) (log_of e.job rest) e.ask e.reply log in
      ((are_written program (start_in e.job row.start) m.turns (replies_of (log_of e.job done)) e.ask m.locals m.at worded entry (replies_written e.job done written) m.needs).0, m.fit)

  -- and its reply
  told : (s : Shared) (e : Event) → IsFormed s → Happens s e → is_ask e.ask ≡ true → fits e.ask e.reply ≡ true → is_reply e.reply ≡ true
  told s e formed happens ask fit = by (is_shared e.ask) refl
    where
      by : (b : Bool) → is_shared e.ask ≡ b → is_reply e.reply ≡ true
      by true p =
          let is : IsServed s e = happens.1 p in
          let late : Bool = is.2.0 in
          let P : Option (Reply × Shared) → Type 0 = λ o. Tells o in
          let t : Tells (Some (e.reply, after s e)) = subst P is.2.1 (serves s e.job e.ask late ask formed) in
          t.0
      by false p = unshared e.ask e.reply fit p

  recorded : (done rest : History) → history ≡ done ++ rest → Each CanBeWritten done → IsFormed (state_of opening done) → AllHappen (state_of opening done) rest
      → Each CanBeWritten rest × IsFormed (state_of opening history)
  recorded done [] whole written formed happen =
      let P : History → Type 0 = λ h. IsFormed (state_of opening h) in
      let joins : done ++ [] ≡ done = append-nil done in
      (tt, subst P (sym (whole ∙ joins)) formed)
  recorded done (e ∷ rest) whole written formed happen =
      let s : Shared = state_of opening done in
      let a = asked done rest e whole written formed happen.0.0 in
      let r = told s e formed happen.0 a.0 a.1 in
      let written_so : CanBeWritten e = (a.0, r, stands e.ask e.reply a.1) in
      let next : state_of opening (done ++ e ∷ []) ≡ after s e = state_with opening done e in
      let P : Shared → Type 0 = λ t. IsFormed t in
      let Q : Shared → Type 0 = λ t. AllHappen t rest in
      let formed_on : IsFormed (after s e) = leaves s (served s e.job e.ask true) formed (serves s e.job e.ask true a.0 formed) in
      let others = recorded (done ++ e ∷ []) rest (whole ∙ sym (append_assoc done (e ∷ []) rest)) (joined CanBeWritten done (e ∷ []) written (written_so, tt))
      (subst P (sym next) formed_on) (subst Q (sym next) happen.1) in
      ((written_so, others.0), others.1)

pub are_recorded : (program : Program) (opening : Shared) (history : History) → Each IsRoutineWorded program.routines → IsFormed opening → IsRun program opening history
    → Each CanBeWritten history × IsFormed (state_of opening history)
are_recorded program opening history worded formed run = recorded program opening history worded run [] history refl tt formed run.happen
