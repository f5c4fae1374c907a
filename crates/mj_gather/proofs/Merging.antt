-- A history that is merged event by event.
use Rattle.std.specs.Prelude.{if◌then◌else◌}
use Rattle.std.proofs.Common.{◌≡◌, inl, inr, ℕ, zero, suc, ◌+◌, ◌<◌, ◌≤◌, List, [], ◌∷◌, ◌++◌, length, take, drop, get_or, true, Option, Some, None, refl, sym, ap, ◌∙◌, subst, arith, append_assoc, append-nil, drop-cons}
use Rattle.mj_ask.specs.Fits.{is_shared}
use Rattle.mj_jobvm.specs.Run.{Log}
use Rattle.mj_sys.specs.declared.event.Event.{Event}
use Rattle.mj_sys.specs.Shared.{Shared}
use Rattle.mj_sys.specs.History.{History, IsServed, AreServed, after, state_of, log_of, events_of}
use Rattle.mj_sys.proofs.Replays.{events_log}
use Rattle.mj_sys.proofs.Rows.{state_of_append, log_of_append}
use Rattle.mj_gather.specs.Rans.{is_halt}
use Rattle.mj_gather.specs.Merged.{shared_log, own, behind, Left, heard, passed, made, past, told_with, left_behind, merged, firsts, left_by_firsts, merged_from}
use Rattle.mj_gather.specs.Gathered.{HeadsDiffer, DifferAt}
use Rattle.mj_gather.specs.Found.{Quiet, IsFirst}
use Rattle.mj_gather.proofs.Logs.{onward_own, onward_shared, opens, passed_same, passed_other, heard_same, heard_other, jobs, passed_keeps}
use Rattle.mj_gather.proofs.Rows.{goes_after, within}
use Rattle.mj_gather.proofs.Weaves.{log_own, log_other, quiet_past}

-- ---- what the system served of a log stays, whatever else is past

shared_passed : (left : Left) (job k : ℕ) → shared_log (passed left job k) ≡ shared_log (left k)
shared_passed left job k = passed_keeps (λ l. shared_log l ≡ shared_log (left k)) (λ l e. onward_shared l ∙ e) left job k refl

shared_past : (left : Left) (m : Option ℕ) (k : ℕ) → shared_log (past left m k) ≡ shared_log (left k)
shared_past left None k = refl
shared_past left (Some job) k = shared_passed left job k

-- and what an event leaves of it comes behind that event
shared_behind : (left : Left) (e : Event) (k : ℕ) → IsFirst (left e.job) e → is_shared e.ask ≡ true
    → shared_log (left k) ≡ log_of k (e ∷ []) ++ shared_log (left_behind left e k)
shared_behind left e k first shared = elim (jobs k e.job) [
  | inl q ↦ let P : ℕ → Type 0 = λ i. shared_log (left i) ≡ log_of i (e ∷ []) ++ shared_log (left_behind left e i) in
      subst P (sym q) (ap shared_log first ∙ (ap (λ b. if◌then◌else◌ {A = Log} b ((e.ask, e.reply) ∷ shared_log (behind (left e.job))) (shared_log (behind (left e.job)))) shared
      ∙ (ap (λ l. (e.ask, e.reply) ∷ l) (ap shared_log (sym (heard_same left e.job)) ∙ sym (is_left e.job))
      ∙ ap (λ l. l ++ shared_log (left_behind left e e.job)) (sym (log_own e.job e [] refl)))))
  | inr apart ↦ ap shared_log (sym (heard_other left e.job k apart)) ∙ (sym (is_left k)
      ∙ ap (λ l. l ++ shared_log (left_behind left e k)) (sym (log_other k e [] apart)))
] where
  is_left : (k : ℕ) → shared_log (left_behind left e k) ≡ shared_log (heard left e.job k)
  is_left k = shared_past (passed (heard left e.job) e.job) (made e.ask e.reply) k ∙ shared_passed (heard left e.job) e.job k

-- ---- the first jobs

shared_firsts : (job n : ℕ) (left : Left) (k : ℕ) → shared_log (left_by_firsts job n left k) ≡ shared_log (left k)
shared_firsts job zero left k = refl
shared_firsts job (suc n) left k = shared_firsts (suc job) n (passed left job) k ∙ shared_passed left job k

quiet_firsts : (job n : ℕ) (left : Left) → ((k : ℕ) → k < job → own (left k) ≡ []) → (k : ℕ) → k < job + n → own (left_by_firsts job n left k) ≡ []
quiet_firsts job zero left quiet k below = quiet k (omega (arith, below))
quiet_firsts job (suc n) left quiet k below = quiet_firsts (suc job) n (passed left job) more k (omega (arith, below)) where
  more : (k : ℕ) → k < suc job → own (passed left job k) ≡ []
  more k under = elim (jobs k job) [
    | inl e ↦ let Q : ℕ → Type 0 = λ i. own (passed left job i) ≡ [] in subst Q (sym e) (ap own (passed_same left job) ∙ onward_own (left job))
    | inr apart ↦ ap own (passed_other left job k apart) ∙ quiet k (grind (arith, under, apart))
  ]

-- ---- a history of which a front is merged

-- What holds where so many events of the history are merged: what is written down makes the merged history with what is left; what the system served by a
-- log is what it served of that front, and then what is left; and no job has own entries before its next one that the system served.
pub record IsMerged (opening : Shared) (logs : Left) (history : History) (n : ℕ) (at : ℕ) (left : Left) (written : History) : Type 0 where
  pub whole : written ++ merged left (drop at history) ≡ merged_from n logs history
  pub shared : (k : ℕ) → shared_log (logs k) ≡ log_of k (take at history) ++ shared_log (left k)
  pub quiet : Quiet left (length (state_of opening (take at history)).rows)

pub merged_first : (opening : Shared) (logs : Left) (history : History) → logs 0 ≡ []
    → IsMerged opening logs history (length opening.rows) 0 (left_by_firsts 1 (length opening.rows) logs) (firsts 1 (length opening.rows) logs)
merged_first opening logs history none = record {
  whole = refl;
  shared = λ k. sym (shared_firsts 1 (length opening.rows) logs k);
  quiet = λ k below. quiet_firsts 1 (length opening.rows) logs (λ j under. nobody j (omega (arith, under))) k (omega (arith, below));
} where
  nobody : (j : ℕ) → j ≡ 0 → own (logs j) ≡ []
  nobody j is = subst (λ i. own (logs i) ≡ []) (sym is) (ap own none)

pub merged_begin : (opening : Shared) (logs : Left) (history : History) (jobs : ℕ) (left first : Left) (nothing written : History) → logs 0 ≡ [] → jobs ≡ length opening.rows
    → first ≡ logs → left ≡ left_by_firsts 1 jobs first → nothing ≡ [] → written ≡ nothing ++ firsts 1 jobs first → IsMerged opening logs history jobs 0 left written
merged_begin opening logs history jobs left first nothing written none jobs_are first_is left_is nothing_is written_is =
    let N : ℕ → Type 0 = λ n. IsMerged opening logs history n 0 (left_by_firsts 1 n logs) (firsts 1 n logs) in
    let L : Left → Type 0 = λ l. IsMerged opening logs history jobs 0 l (firsts 1 jobs logs) in
    let W : History → Type 0 = λ h. IsMerged opening logs history jobs 0 left h in
    subst W (sym (written_is ∙ (ap (λ (h : History). h ++ firsts 1 jobs first) nothing_is ∙ ap (λ (l : Left). firsts 1 jobs l) first_is)))
    (subst L (sym (left_is ∙ ap (λ (l : Left). left_by_firsts 1 jobs l) first_is)) (subst N (sym jobs_are) (merged_first opening logs history none)))

-- an event at a place, and those behind it
pub events_at : (history : History) (at : ℕ) (e : Event) → at < length history → e ≡ get_or history at e → drop at history ≡ e ∷ drop (at + 1) history
events_at history at e below is =
    drop-cons history at e below ∙ (ap (λ x. x ∷ drop (suc at) history) (sym is) ∙ ap (λ n. e ∷ drop n history) (let q : suc at ≡ at + 1 = omega arith in q))

-- the event behind a front of what was served is served there
served_at : (s : Shared) (history : History) (at : ℕ) (e : Event) (more : History) → AreServed s history → drop at history ≡ e ∷ more → IsServed (state_of s (take at history)) e
served_at s [] zero e more all is = absurd (let no : [] ≡ e ∷ more = is in cc)
served_at s [] (suc at) e more all is = absurd (let no : [] ≡ e ∷ more = is in cc)
served_at s (f ∷ history) zero e more all is = let same : f ≡ e = (let p : f ∷ history ≡ e ∷ more = is in cc) in subst (λ x. IsServed s x) same all.0
served_at s (f ∷ history) (suc at) e more all is = served_at (after s f) history at e more all.1 is

take_on : {X : Type 0} (xs : List X) (at : ℕ) (x : X) (more : List X) → drop at xs ≡ x ∷ more → take (at + 1) xs ≡ take at xs ++ x ∷ []
take_on [] zero x more is = absurd (let no : [] ≡ x ∷ more = is in cc)
take_on [] (suc at) x more is = absurd (let no : [] ≡ x ∷ more = is in cc)
take_on (y ∷ xs) zero x more is = let same : y ≡ x = (let p : y ∷ xs ≡ x ∷ more = is in cc) in ap (λ z. z ∷ []) same
take_on (y ∷ xs) (suc at) x more is = ap (λ n. take n (y ∷ xs)) (let e : suc at + 1 ≡ suc (at + 1) = omega arith in e) ∙ ap (λ l. y ∷ l) (take_on xs at x more is)

drop_on : {X : Type 0} (xs : List X) (at : ℕ) (x : X) (more : List X) → drop at xs ≡ x ∷ more → drop (at + 1) xs ≡ more
drop_on [] zero x more is = absurd (let no : [] ≡ x ∷ more = is in cc)
drop_on [] (suc at) x more is = absurd (let no : [] ≡ x ∷ more = is in cc)
drop_on (y ∷ xs) zero x more is = let p : y ∷ xs ≡ x ∷ more = is in let same : xs ≡ more = cc in same
drop_on (y ∷ xs) (suc at) x more is = ap (λ n. drop n (y ∷ xs)) (let e : suc at + 1 ≡ suc (at + 1) = omega arith in e) ∙ drop_on xs at x more is

module _ (opening : Shared) (logs : Left) (history : History) (n at : ℕ) (left : Left) (written : History) (so : IsMerged opening logs history n at left written)
    (served : AreServed opening history) (e : Event) (more : History) (here : drop at history ≡ e ∷ more) where
  is : IsServed (state_of opening (take at history)) e
  is = served_at opening history at e more served here

  mine : own (left e.job) ≡ []
  mine = so.quiet e.job (within (state_of opening (take at history)).rows e.job is.0.0 is.0.1).1

  -- one more event is
  pub merged_next : (left' : Left) (written' : History) → IsFirst (left e.job) e → left' ≡ left_behind left e → written' ≡ written ++ told_with left e
      → IsMerged opening logs history n (at + 1) left' written'
  merged_next left' written' first left_is written_is = record {
    whole = ap (λ h. written' ++ merged left' h) (drop_on history at e more here) ∙ (ap (λ l. written' ++ merged l more) left_is
        ∙ (ap (λ h. h ++ merged (left_behind left e) more) written_is ∙ (append_assoc written (told_with left e) (merged (left_behind left e) more)
        ∙ (ap (λ h. written ++ merged left h) (sym here) ∙ so.whole))));
    shared = λ k. so.shared k ∙ (ap (λ l. log_of k (take at history) ++ l) (shared_behind left e k first is.1)
        ∙ (sym (append_assoc (log_of k (take at history)) (log_of k (e ∷ [])) (shared_log (left_behind left e k)))
        ∙ (ap (λ l. l ++ shared_log (left_behind left e k)) (sym (log_of_append k (take at history) (e ∷ [])) ∙ ap (log_of k) (sym (take_on history at e more here)))
        ∙ ap (λ (l : Left). log_of k (take (at + 1) history) ++ shared_log (l k)) (sym left_is))));
    quiet = subst (λ (l : Left). Quiet l (length (state_of opening (take (at + 1) history)).rows)) (sym left_is)
        (subst (λ (s : Shared). Quiet (left_behind left e) (length s.rows)) (sym rows_on)
        (quiet_past left e.job (made e.ask e.reply) (is_halt e.ask) (state_of opening (take at history)).rows (after (state_of opening (take at history)) e).rows
        (goes_after (state_of opening (take at history)) e is) so.quiet));
  } where
    rows_on : state_of opening (take (at + 1) history) ≡ after (state_of opening (take at history)) e
    rows_on = ap (state_of opening) (take_on history at e more here) ∙ state_of_append opening (take at history) (e ∷ [])

  -- its job's log has another next
  pub differ_next : ((rest : Log) → HeadsDiffer (left e.job) ((e.ask, e.reply) ∷ rest)) → (place : ℕ) → place ≡ events_of e.job (take at history)
      → DifferAt place (shared_log (logs e.job)) (log_of e.job history)
  differ_next other place count = record {
    front = log_of e.job (take at history);
    one_behind = shared_log (left e.job);
    two_behind = log_of e.job (e ∷ more);
    one_is = so.shared e.job;
    two_is = ap (log_of e.job) (whole_is history at) ∙ (ap (λ h. log_of e.job (take at history ++ h)) here ∙ log_of_append e.job (take at history) (e ∷ more));
    there = sym (count ∙ events_log e.job (take at history));
    differ = subst (λ l. HeadsDiffer (shared_log (left e.job)) l) (sym (log_own e.job e more refl)) (heads (left e.job) mine (other (log_of e.job more)));
  } where
    whole_is : (xs : History) (k : ℕ) → xs ≡ take k xs ++ drop k xs
    whole_is [] zero = refl
    whole_is [] (suc k) = refl
    whole_is (x ∷ xs) zero = refl
    whole_is (x ∷ xs) (suc k) = ap (λ l. x ∷ l) (whole_is xs k)

    heads : (log : Log) → own log ≡ [] → HeadsDiffer log ((e.ask, e.reply) ∷ log_of e.job more) → HeadsDiffer (shared_log log) ((e.ask, e.reply) ∷ log_of e.job more)
    heads [] quiet differ = differ
    heads (x ∷ log) quiet differ = subst (λ l. HeadsDiffer l ((e.ask, e.reply) ∷ log_of e.job more)) (sym (opens x log quiet).1) differ

-- ---- the whole history is merged

module _ (opening : Shared) (logs : Left) (history : History) (n at : ℕ) (left : Left) (written : History) (so : IsMerged opening logs history n at left written)
    (end : drop at history ≡ []) (all : take at history ≡ history) where
  pub merged_last : written ≡ merged_from n logs history
  merged_last = sym (append-nil written) ∙ (ap (λ h. written ++ merged left h) (sym end) ∙ so.whole)

  -- nothing is left
  pub agree_last : ((k : ℕ) → left k ≡ []) → (k : ℕ) → shared_log (logs k) ≡ log_of k history
  agree_last none k = so.shared k ∙ (ap (λ l. log_of k (take at history) ++ shared_log l) (none k) ∙ (append-nil (log_of k (take at history)) ∙ ap (log_of k) all))

  -- or something is left of a log
  pub differ_last : (job : ℕ) → job ≤ length (state_of opening history).rows → (left job ≡ [] → ⊥) → (place : ℕ) → place ≡ events_of job history
      → DifferAt place (shared_log (logs job)) (log_of job history)
  differ_last job few some place count = record {
    front = log_of job history;
    one_behind = shared_log (left job);
    two_behind = [];
    one_is = so.shared job ∙ ap (λ h. log_of job h ++ shared_log (left job)) all;
    two_is = sym (append-nil (log_of job history));
    there = sym (count ∙ events_log job history);
    differ = heads (left job) some (so.quiet job (subst (λ h. job ≤ length (state_of opening h).rows) (sym all) few));
  } where
    heads : (log : Log) → (log ≡ [] → ⊥) → own log ≡ [] → HeadsDiffer (shared_log log) []
    heads [] none quiet = absurd (none refl)
    heads (x ∷ log) none quiet = subst (λ l. HeadsDiffer l []) (sym (opens x log quiet).1) tt
