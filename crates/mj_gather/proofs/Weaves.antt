-- A merged history.
use Rattle.std.specs.Prelude.{if◌then◌else◌}
use Rattle.std.proofs.Common.{◌≡◌, ◌⊎◌, inl, inr, ℕ, zero, suc, ◌+◌, ◌<◌, ◌≤◌, List, [], ◌∷◌, ◌++◌, length, Bool, true, false, Option, Some, None, refl, sym, ap, ◌∙◌, subst, arith, append_assoc, length-append}
use Rattle.mj_ask.specs.Fits.{is_shared}
use Rattle.mj_ask.specs.declared.ask.Ask.{Ask}
use Rattle.mj_ask.specs.declared.ask.Reply.{Reply}
use Rattle.mj_jobs.specs.Rows.{Row, IsLive}
use Rattle.mj_jobvm.specs.Run.{Log}
use Rattle.mj_sys.specs.declared.event.Event.{Event}
use Rattle.mj_sys.specs.Opening.{NoneHasEnded}
use Rattle.mj_sys.specs.Shared.{Shared}
use Rattle.mj_sys.specs.History.{History, IsServed, AreServed, after, state_of, log_of}
use Rattle.mj_core.specs.Happen.{shared_of, AllHappen}
use Rattle.mj_core.proofs.Happen.{after_unshared}
use Rattle.mj_core.proofs.Logs.{same_job, other_job}
use Rattle.mj_gather.specs.Rans.{EndsAtHalt, is_halt}
use Rattle.mj_gather.specs.Merged.{shared_log, own, onward, behind, Left, said, heard, passed, made, begun, past, merged, firsts, left_by_firsts, merged_from}
use Rattle.mj_gather.specs.Found.{Quiet, IsFirst}
use Rattle.mj_gather.proofs.Logs.{onward_own, onward_shared, ends_onward, ends_behind, opens, empty, passed_same, passed_other, heard_same, heard_other, jobs, passed_keeps, heard_keeps, own_at}
use Rattle.mj_gather.proofs.Rows.{Goes, goes_after, within, row_there, live_still, live_made}

-- ---- a job's entries as events

-- an event in the log of a job, or in that of another
pub log_own : (job : ℕ) (e : Event) (history : History) → job ≡ e.job → log_of job (e ∷ history) ≡ (e.ask, e.reply) ∷ log_of job history
log_own job e history is = ap (λ b. if◌then◌else◌ {A = Log} b ((e.ask, e.reply) ∷ log_of job history) (log_of job history)) (same_job e.job job (sym is))

pub log_other : (job : ℕ) (e : Event) (history : History) → (job ≡ e.job → ⊥) → log_of job (e ∷ history) ≡ log_of job history
log_other job e history apart =
    ap (λ b. if◌then◌else◌ {A = Log} b ((e.ask, e.reply) ∷ log_of job history) (log_of job history)) (other_job e.job job (λ q. apart (sym q)))

-- of a job's own events it has all, and another none
said_own : (job : ℕ) (log : Log) (rest : History) → log_of job (said job log ++ rest) ≡ log ++ log_of job rest
said_own job [] rest = refl
said_own job (x ∷ log) rest = log_own job (record { job = job; ask = x.0; reply = x.1 }) (said job log ++ rest) refl ∙ ap (λ l. x ∷ l) (said_own job log rest)

said_other : (job k : ℕ) (log : Log) (rest : History) → (k ≡ job → ⊥) → log_of k (said job log ++ rest) ≡ log_of k rest
said_other job k [] rest apart = refl
said_other job k (x ∷ log) rest apart = log_other k (record { job = job; ask = x.0; reply = x.1 }) (said job log ++ rest) apart ∙ said_other job k log rest apart

-- a log's own entries are events that the system didn't serve
said_unshared : (job : ℕ) (log : Log) (rest : History) → shared_of (said job (own log) ++ rest) ≡ shared_of rest
said_unshared job [] rest = refl
said_unshared job (x ∷ log) rest = by (is_shared x.0) refl (said_unshared job log rest) where
  by : (b : Bool) → is_shared x.0 ≡ b → shared_of (said job (own log) ++ rest) ≡ shared_of rest
      → shared_of (said job (if b then [] else x ∷ own log) ++ rest) ≡ shared_of rest
  by true is go = refl
  by false is go =
      let e : Event = record { job = job; ask = x.0; reply = x.1 } in
      ap (λ c. if c then e ∷ shared_of (said job (own log) ++ rest) else shared_of (said job (own log) ++ rest)) is ∙ go

said_happen : (s : Shared) (job : ℕ) (log : Log) (rest : History) → (own log ≡ []) ⊎ IsLive s.rows job → AllHappen s rest → AllHappen s (said job (own log) ++ rest)
said_happen s job [] rest live all = all
said_happen s job (x ∷ log) rest live all = by (is_shared x.0) refl live (λ l. said_happen s job log rest (inr l) all) where
  by : (b : Bool) → is_shared x.0 ≡ b → ((if b then [] else x ∷ own log) ≡ []) ⊎ IsLive s.rows job → (IsLive s.rows job → AllHappen s (said job (own log) ++ rest))
      → AllHappen s (said job (if b then [] else x ∷ own log) ++ rest)
  by true is live' go = all
  by false is (inl none) go = absurd (let no : x ∷ own log ≡ [] = none in cc)
  by false is (inr live') go =
      let e : Event = record { job = job; ask = x.0; reply = x.1 } in
      let P : Shared → Type 0 = λ t. AllHappen t (said job (own log) ++ rest) in
      ((live', λ shared. absurd (let no : true ≡ false = sym shared ∙ is in cc)), subst P (sym (after_unshared s e is)) (go live'))

-- ---- a history that is woven of what is left of the logs

pub record Weaves (s : Shared) (left : Left) (history events : History) : Type 0 where
  pub shared : shared_of events ≡ history
  pub logs : (k : ℕ) → log_of k events ≡ left k
  pub happen : AllHappen s events

-- a job's own entries before it
weaves_own : (s : Shared) (left : Left) (history events : History) (job : ℕ) → (own (left job) ≡ []) ⊎ IsLive s.rows job
    → Weaves s (passed left job) history events → Weaves s left history (said job (own (left job)) ++ events)
weaves_own s left history events job live w = record {
  shared = said_unshared job (left job) events ∙ w.shared;
  logs = λ k. elim (jobs k job) [
    | inl e ↦ let P : ℕ → Type 0 = λ i. log_of i (said job (own (left job)) ++ events) ≡ left i in
        subst P (sym e) (said_own job (own (left job)) events ∙ (ap (λ l. own (left job) ++ l) (w.logs job) ∙ own_at left job))
    | inr apart ↦ said_other job k (own (left job)) events apart ∙ (w.logs k ∙ passed_other left job k apart)
  ];
  happen = said_happen s job (left job) events live w.happen;
}

-- those of a job whose row was made before it
weaves_begun : (s : Shared) (left : Left) (history events : History) (m : Option ℕ) → ((job : ℕ) → m ≡ Some job → IsLive s.rows job)
    → Weaves s (past left m) history events → Weaves s left history (begun left m ++ events)
weaves_begun s left history events None live w = w
weaves_begun s left history events (Some job) live w = weaves_own s left history events job (inr (live job refl)) w

-- an event that was served before it
weaves_served : (s : Shared) (left : Left) (history events : History) (e : Event) → IsServed s e → IsFirst (left e.job) e
    → Weaves (after s e) (heard left e.job) history events → Weaves s left (e ∷ history) (e ∷ events)
weaves_served s left history events e is head w = record {
  shared = ap (λ b. if b then e ∷ shared_of events else shared_of events) is.1 ∙ ap (λ h. e ∷ h) w.shared;
  logs = λ k. elim (jobs k e.job) [
    | inl q ↦ let P : ℕ → Type 0 = λ i. log_of i (e ∷ events) ≡ left i in
        subst P (sym q) (log_own e.job e events refl ∙ (ap (λ l. (e.ask, e.reply) ∷ l) (w.logs e.job ∙ heard_same left e.job) ∙ sym head))
    | inr apart ↦ log_other k e events apart ∙ (w.logs k ∙ heard_other left e.job k apart)
  ];
  happen = ((is.0, λ _. is), w.happen);
}

-- ---- what is left of the logs fits what is left of the history

pub record Fits (s : Shared) (left : Left) (history : History) : Type 0 where
  pub served : AreServed s history
  pub shared : (k : ℕ) → shared_log (left k) ≡ log_of k history
  pub ends : (k : ℕ) → EndsAtHalt (left k)
  pub none : (k : ℕ) → (1 ≤ k → k ≤ length (state_of s history).rows → ⊥) → left k ≡ []

fits_passed : (s : Shared) (left : Left) (history : History) (job : ℕ) → Fits s left history → Fits s (passed left job) history
fits_passed s left history job fits = record {
  served = fits.served;
  shared = λ k. passed_keeps (λ l. shared_log l ≡ log_of k history) (λ l e. onward_shared l ∙ e) left job k (fits.shared k);
  ends = λ k. passed_keeps EndsAtHalt ends_onward left job k (fits.ends k);
  none = λ k out. passed_keeps (λ l. l ≡ []) (λ l e. ap onward e) left job k (fits.none k out);
}

fits_past : (s : Shared) (left : Left) (history : History) (m : Option ℕ) → Fits s left history → Fits s (past left m) history
fits_past s left history None fits = fits
fits_past s left history (Some job) fits = fits_passed s left history job fits

-- what stands first in a log without own entries before it
first_of : (log rest : Log) (e : Event) → own log ≡ [] → shared_log log ≡ (e.ask, e.reply) ∷ rest → IsFirst log e × (shared_log (behind log) ≡ rest)
first_of [] rest e quiet is = absurd (let no : [] ≡ (e.ask, e.reply) ∷ rest = is in cc)
first_of (x ∷ log) rest e quiet is =
    let both : x ∷ shared_log log ≡ (e.ask, e.reply) ∷ rest = sym (opens x log quiet).1 ∙ is in
    (let first : x ≡ (e.ask, e.reply) = cc in ap (λ y. y ∷ log) first, let more : shared_log log ≡ rest = cc in more)

-- behind a served event
fits_heard : (s : Shared) (left : Left) (history : History) (e : Event) → Fits s left (e ∷ history) → own (left e.job) ≡ []
    → IsFirst (left e.job) e × Fits (after s e) (heard left e.job) history
fits_heard s left history e fits quiet =
    let o = first_of (left e.job) (log_of e.job history) e quiet (fits.shared e.job ∙ log_own e.job e history refl) in (
      o.0,
      record {
        served = fits.served.1;
        shared = λ k. elim (jobs k e.job) [
          | inl q ↦ let P : ℕ → Type 0 = λ i. shared_log (heard left e.job i) ≡ log_of i history in
              subst P (sym q) (ap shared_log (heard_same left e.job) ∙ o.1)
          | inr apart ↦ ap shared_log (heard_other left e.job k apart) ∙ (fits.shared k ∙ log_other k e history apart)
        ];
        ends = λ k. heard_keeps EndsAtHalt ends_behind left e.job k (fits.ends k);
        none = λ k out. heard_keeps (λ l. l ≡ []) (λ l q. ap behind q) left e.job k (fits.none k out);
      },
    )

-- which jobs are quiet behind an event
quiet_own : (left : Left) (job k : ℕ) → own (left k) ≡ [] → own (passed (heard left job) job k) ≡ []
quiet_own left job k q = elim (jobs k job) [
  | inl e ↦ let P : ℕ → Type 0 = λ i. own (passed (heard left job) job i) ≡ [] in
      subst P (sym e) (ap own (passed_same (heard left job) job) ∙ onward_own (heard left job job))
  | inr apart ↦ ap own (passed_other (heard left job) job k apart ∙ heard_other left job k apart) ∙ q
]

below_last : (old new : List Row) (row : Row) (k job : ℕ) → new ≡ old ++ row ∷ [] → k ≤ length new → job ≡ length old + 1 → (k ≡ job → ⊥) → k ≤ length old
below_last old new row k job is below last apart =
    let n : length new ≡ length old + 1 = ap length is ∙ length-append old (row ∷ []) in
    grind (arith, n, below, last, apart)

pub quiet_past : (left : Left) (job : ℕ) (m : Option ℕ) (halts : Bool) (old new : List Row) → Goes m halts old new → Quiet left (length old)
    → Quiet (past (passed (heard left job) job) m) (length new)
quiet_past left job None halts old new goes quiet k below =
    let n : length new ≡ length old = goes.0 in
    quiet_own left job k (quiet k (omega (arith, below, n)))
quiet_past left job (Some other) halts old new goes quiet k below = elim (jobs k other) [
  | inl e ↦ let P : ℕ → Type 0 = λ i. own (passed (passed (heard left job) job) other i) ≡ [] in
      subst P (sym e) (ap own (passed_same (passed (heard left job) job) other) ∙ onward_own (passed (heard left job) job other))
  | inr apart ↦ ap own (passed_other (passed (heard left job) job) other k apart)
      ∙ quiet_own left job k (quiet k (below_last old new _ k other goes.2.1 below goes.0 apart))
]

-- behind a halt nothing is left
halted : (log : Log) (e : Event) → IsFirst log e → EndsAtHalt log → is_halt e.ask ≡ true → behind log ≡ []
halted [] e first ends is = refl
halted (y ∷ log) e first ends is = ends.0 (let f : y ≡ (e.ask, e.reply) = cc in ap (λ (z : Ask × Reply). is_halt z.0) f ∙ is)

-- the job whose ask was served is live, or has no own entries behind it
lives : (s : Shared) (left : Left) (e : Event) → IsServed s e → IsFirst (left e.job) e → EndsAtHalt (left e.job)
    → (own (heard left e.job e.job) ≡ []) ⊎ IsLive (after s e).rows e.job
lives s left e is head ends = by (is_halt e.ask) refl where
  by : (b : Bool) → is_halt e.ask ≡ b → (own (heard left e.job e.job) ≡ []) ⊎ IsLive (after s e).rows e.job
  by true h = inl (ap own (heard_same left e.job ∙ halted (left e.job) e head ends h))
  by false h =
      let P : Bool → Type 0 = λ b. Goes (made e.ask e.reply) b s.rows (after s e).rows in
      inr (live_still s (after s e) e.job (made e.ask e.reply) is.0 (subst P h (goes_after s e is)))

makes : (s t : Shared) (m : Option ℕ) (halts : Bool) → Goes m halts s.rows t.rows → (job : ℕ) → m ≡ Some job → IsLive t.rows job
makes s t m halts goes job is =
    let P : Option ℕ → Type 0 = λ x. Goes x halts s.rows t.rows in
    live_made s t job halts (subst P is goes)

-- what is merged is woven
weaves : (s : Shared) (left : Left) (history : History) → Fits s left history → Quiet left (length s.rows) → Weaves s left history (merged left history)
weaves s left [] fits quiet = record {
  shared = refl;
  logs = λ k. sym (by k (below k (length s.rows)));
  happen = tt;
} where
  below : (k n : ℕ) → (k ≤ n) ⊎ (n < k)
  below k n = grind arith

  by : (k : ℕ) → (k ≤ length s.rows) ⊎ (length s.rows < k) → left k ≡ []
  by k (inl under) = empty (left k) (quiet k under) (fits.shared k)
  by k (inr above) = fits.none k (λ some under. omega (arith, above, under))
weaves s left (e ∷ history) fits quiet =
    let is : IsServed s e = fits.served.0 in
    let mine = within s.rows e.job is.0.0 is.0.1 in
    let f = fits_heard s left history e fits (quiet e.job mine.1) in
    let m = made e.ask e.reply in
    let goes = goes_after s e is in
    let one = heard left e.job in
    let two = passed one e.job in
    let fits' = fits_past (after s e) two history m (fits_passed (after s e) one history e.job f.1) in
    let quiet' = quiet_past left e.job m (is_halt e.ask) s.rows (after s e).rows goes quiet in
    let rest = weaves (after s e) (past two m) history fits' quiet' in
    let P : History → Type 0 = λ h. Weaves s left (e ∷ history) (e ∷ h) in
    subst P (sym (append_assoc (said e.job (own (one e.job))) (begun two m) (merged (past two m) history)))
    (weaves_served s left history _ e is f.0
    (weaves_own (after s e) one history _ e.job (lives s left e is f.0 (fits.ends e.job))
    (weaves_begun (after s e) two history _ m (makes s (after s e) m (is_halt e.ask) goes) rest)))

-- the own entries of the first jobs come first
weaves_firsts : (s : Shared) (history : History) (n job : ℕ) (left : Left) → job + n ≡ length s.rows + 1 → 1 ≤ job → NoneHasEnded s.rows → Fits s left history
    → ((k : ℕ) → k < job → own (left k) ≡ []) → Weaves s left history (firsts job n left ++ merged (left_by_firsts job n left) history)
weaves_firsts s history zero job left is first live fits quiet =
    weaves s left history fits (λ k below. quiet k (omega (arith, is, below)))
weaves_firsts s history (suc n) job left is first live fits quiet =
    let rest = weaves_firsts s history n (suc job) (passed left job) (omega (arith, is)) (omega (arith, first)) live (fits_passed s left history job fits) quiet_more in
    let P : History → Type 0 = λ h. Weaves s left history h in
    let there = row_there s.rows job first (omega (arith, is)) in
    subst P (sym (append_assoc (said job (own (left job))) (firsts (suc job) n (passed left job)) (merged (left_by_firsts (suc job) n (passed left job)) history)))
    (weaves_own s left history _ job (inr (there.0, there.1, live job there.0 there.1)) rest) where
      quiet_more : (k : ℕ) → k < suc job → own (passed left job k) ≡ []
      quiet_more k below = elim (jobs k job) [
        | inl e ↦ let Q : ℕ → Type 0 = λ i. own (passed left job i) ≡ [] in subst Q (sym e) (ap own (passed_same left job) ∙ onward_own (left job))
        | inr apart ↦ ap own (passed_other left job k apart) ∙ quiet k (grind (arith, below, apart))
      ]

pub weaves_from : (s : Shared) (logs : Left) (history : History) → NoneHasEnded s.rows → Fits s logs history → Weaves s logs history (merged_from (length s.rows) logs history)
weaves_from s logs history live fits =
    weaves_firsts s history (length s.rows) 1 logs (omega arith) (omega arith) live fits
    (λ k below. ap own (fits.none k (λ some under. omega (arith, some, below))))
