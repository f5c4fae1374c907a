-- Every run of many jobs is one by the rule of this system.
use Rattle.std.proofs.Common.{◌≡◌, ◌⊎◌, inr, ℕ, zero, suc, ◌+◌, Bool, true, false, List, [], ◌∷◌, ◌++◌, length, get_or, Option, Some, None, refl, ap, sym, ◌∙◌, subst, eqb-true}
use Rattle.std.proofs.Math.Path.{fun_ext}
use Rattle.std.specs.Prelude.{◌==◌, replicate, if◌then◌else◌}
use Rattle.std.proofs.lemmas.Option.{none-some}
use Rattle.std.proofs.lemmas.List.{length-map, length-replicate}
use Rattle.mj_ask.specs.Fits.{is_shared}
use Rattle.mj_ask.specs.declared.ask.Reply.{Reply}
use Rattle.mj_semantics.specs.Program as loaded
use Rattle.mj_semantics.specs.Outcome.{More, Ended}
use Rattle.mj_semantics.specs.Job.{Start, next}
use Rattle.mj_semantics.proofs.Depth as depth
use Rattle.mj_jobs.specs.Rows.{Row, row_at, opened, IsLive}
use Rattle.mj_jobvm.specs.Run.{IsTrace, begins, goes_on}
use Rattle.mj_txlog.specs.Accesses.{Transaction}
use Rattle.mj_sys.specs.Transactions.{transaction_of}
use Rattle.mj_sys.specs.Shared.{Shared, open_of}
use Rattle.mj_sys.specs.declared.event.Event.{Event}
use Rattle.mj_sys.specs.History.{History, after, state_of, IsServed, log_of}
use Rattle.mj_sys.proofs.Rows.{rows_kept}
use Rattle.mj_core.specs.Happen.{Happens, AllHappen}
use Rattle.mj_core.specs.Runs.{IsRun, start_in}
use Rattle.mj_serial.specs.Programs.{Log, replies_of, Program, IsSteady, AreAsked}
use Rattle.mj_serial.specs.Rules.{Sight, Exactly, IsToldByRule, sight_of, sight_after, sight_behind, AreTold, committed_by, clashes_at, IsRunBy}
use Rattle.mj_serial.specs.Laws as laws
use Rattle.mj_sys.specs.Opening.{NoneIsOpen}
use Rattle.mj_serial.specs.Laws.{program_in, OpensSo, AllMustClash}
use Rattle.mj_serial.specs.Serial.{AsAlone, MustClash}
use Rattle.mj_serial.proofs.Logs.{asked_more}
use Rattle.mj_serial.proofs.Sights.{HasPlaces, Obeys, AllObeys, obeys, unshared}
use Rattle.mj_serial.proofs.Runs.{serial}
use Rattle.mj_serial.proofs.Clashes.{clashes}

-- ---- programs

pub steady : (program : loaded.Program) (rows : List Row) (job : ℕ) → IsSteady (program_in program rows job)
steady program rows job n k replies = by (row_at rows job)
  where
    by : (o : Option Row) → ((elim o [ None ↦ Ended | Some row ↦ next program (start_in job row.start) n replies ]) ≡ More)
        ⊎ ((elim o [ None ↦ Ended | Some row ↦ next program (start_in job row.start) (n + k) replies ]) ≡ (elim o [ None ↦ Ended | Some row ↦ next program (start_in job row.start) n replies ]))
    by None = inr refl
    by (Some row) = depth.steady program (start_in job row.start) n k replies

-- a trace is asked so
trace_asked : {program : loaded.Program} {start : Start} {log : Log} (p : Program) → ((n : ℕ) (replies : List Reply) → p n replies ≡ next program start n replies)
    → IsTrace program start log → AreAsked p [] log
trace_asked p same begins = tt
trace_asked p same (goes_on log a r n locals at t e f w) =
    asked_more p [] log a r (trace_asked p same t) (n, locals, at, same n (replies_of log) ∙ e)

-- a job without a row has no events
no_events : (job : ℕ) (s : Shared) (h : History) → AllHappen s h → row_at (state_of s h).rows job ≡ None → log_of job h ≡ []
no_events job s [] all none = refl
no_events job s (e ∷ h) all none = by (e.job == job) refl (no_events job (after s e) h all.1 none)
  where
    by : (b : Bool) → (e.job == job) ≡ b → log_of job h ≡ [] → (if b then (e.ask, e.reply) ∷ log_of job h else log_of job h) ≡ []
    by true q rest =
        let live : IsLive s.rows e.job = all.0.0 in
        let kept = (rows_kept s (e ∷ h)).starts e.job live.0 live.1 in
        let there : row_at (state_of s (e ∷ h)).rows e.job ≡ Some kept.0 = kept.1 in
        absurd (none-some kept.0 (sym (ap (row_at (state_of s (e ∷ h)).rows) (eqb-true e.job job q) ∙ none) ∙ there))
    by false q rest = rest

asked_in : (program : loaded.Program) (opening : Shared) (h : History) → IsRun program opening h → (job : ℕ)
    → AreAsked (program_in program (state_of opening h).rows job) [] (log_of job h)
asked_in program opening h run job = by (row_at (state_of opening h).rows job) refl
  where
    by : (o : Option Row) → row_at (state_of opening h).rows job ≡ o → AreAsked (program_in program (state_of opening h).rows job) [] (log_of job h)
    by None is = subst (AreAsked (program_in program (state_of opening h).rows job) []) (sym (no_events job opening h run.happen is)) tt
    by (Some row) is = trace_asked (program_in program (state_of opening h).rows job)
        (λ n replies. ap (λ (o : Option Row). elim o [ None ↦ Ended | Some row ↦ next program (start_in job row.start) n replies ]) is)
        (run.traces job row is)

-- ---- what is seen

abbrev seen_of : Shared → Sight
seen_of s = record { globals = s.globals; transactions = λ job. open_of s job }

record Step (s : Shared) (e : Event) : Type 0 where
  told : IsToldByRule Exactly (open_of s e.job) s.globals e.ask e.reply
  seen : seen_of (after s e) ≡ sight_after (seen_of s) e
  places : HasPlaces (after s e)

of_obeys : (s : Shared) (e : Event) → Obeys s e.job e.ask e.reply (after s e) → Step s e
of_obeys s e o = record {
  told = o.told;
  seen = λ i. record { globals = o.globals i; transactions = fun_ext o.transactions i };
  places = o.places;
}

step : (s : Shared) (e : Event) → HasPlaces s → Happens s e → Step s e
step s e places happens = by (is_shared e.ask) refl
  where
    by : (b : Bool) → is_shared e.ask ≡ b → Step s e
    by true q =
        let is : IsServed s e = happens.1 q in
        of_obeys s e (subst (AllObeys s e.job e.ask) is.2.1 (obeys s e.job places happens.0 e.ask is.2.0))
    by false q = of_obeys s e (unshared s e.job places happens.0 e.ask e.reply q)

record Steps (s : Shared) (h : History) : Type 0 where
  told : AreTold Exactly (seen_of s) h
  seen : sight_behind (seen_of s) h ≡ seen_of (state_of s h)

steps : (s : Shared) (h : History) → HasPlaces s → AllHappen s h → Steps s h
steps s [] places all = record { told = tt; seen = refl }
steps s (e ∷ h) places all =
    let one : Step s e = step s e places all.0 in
    let rest : Steps (after s e) h = steps (after s e) h one.places all.1 in
    record {
      told = (one.told, subst (λ x. AreTold Exactly x h) one.seen rest.told);
      seen = ap (λ x. sight_behind x h) (sym one.seen) ∙ rest.seen;
    }

-- ---- the opening

nothing_at : (n k : ℕ) → get_or {A = Option Transaction} (replicate n None) k None ≡ None
nothing_at zero zero = refl
nothing_at zero (suc k) = refl
nothing_at (suc n) zero = refl
nothing_at (suc n) (suc k) = nothing_at n k

none_at : (n job : ℕ) → transaction_of (replicate n None) job ≡ None
none_at n zero = refl
none_at n (suc k) = nothing_at n k

opens_seen : (s : Shared) → NoneIsOpen s → seen_of s ≡ sight_of s.globals
opens_seen s none = ap (λ w. record { globals = s.globals; transactions = w }) (fun_ext (λ job. ap (λ ts. transaction_of ts job) none ∙ none_at (length s.rows) job))

opens_places : (s : Shared) → NoneIsOpen s → HasPlaces s
opens_places s none = ap length none ∙ length-replicate (length s.rows) None

pub opens : OpensSo
opens globals shelves starts = ap (λ n. replicate n None) (sym (length-map starts opened))

-- ---- runs

run_by : (program : loaded.Program) (opening : Shared) (h : History) → NoneIsOpen opening → IsRun program opening h
    → IsRunBy Exactly (program_in program (state_of opening h).rows) opening.globals h
run_by program opening h none run = record {
  told = subst (λ x. AreTold Exactly x h) (opens_seen opening none) (steps opening h (opens_places opening none) run.happen).told;
  asked = asked_in program opening h run;
}

committed_is : (opening : Shared) (h : History) → NoneIsOpen opening → AllHappen opening h → committed_by opening.globals h ≡ (state_of opening h).globals
committed_is opening h none all =
    ap (λ x. (sight_behind x h).globals) (sym (opens_seen opening none)) ∙ ap (λ (x : Sight). x.globals) (steps opening h (opens_places opening none) all).seen

happen_front : (s : Shared) (h more : History) → AllHappen s (h ++ more) → AllHappen s h
happen_front s [] more all = tt
happen_front s (e ∷ h) more all = (all.0, happen_front (after s e) h more all.1)

pub is_serial : laws.IsSerial
is_serial program opening h none run =
    subst (λ c. AsAlone (program_in program (state_of opening h).rows) opening.globals c h) (committed_is opening h none run.happen)
    (serial (program_in program (state_of opening h).rows) opening.globals h (steady program (state_of opening h).rows) (run_by program opening h none run))

pub clashes_must : laws.ClashesMust
clashes_must program opening h later job clash none run =
    let whole : History = h ++ clashes_at job clash ∷ later in
    subst (λ c. MustClash (program_in program (state_of opening whole).rows) c h job clash)
    (committed_is opening h none (happen_front opening h (clashes_at job clash ∷ later) run.happen))
    (clashes (program_in program (state_of opening whole).rows) opening.globals h later job clash (steady program (state_of opening whole).rows) (run_by program opening whole none run))

-- a run's clashes, each behind the events before it
pub all_must : (program : loaded.Program) (opening : Shared) (h : History) → IsRun program opening h → NoneIsOpen opening → AllMustClash program opening h
all_must program opening h run none earlier later job clash is =
    subst (λ x. MustClash (program_in program (state_of opening x).rows) (state_of opening earlier).globals earlier job clash) (sym is)
    (clashes_must program opening earlier later job clash none (subst (λ x. IsRun program opening x) is run))
