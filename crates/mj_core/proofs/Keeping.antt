-- What a core keeps is kept by each of its changes.
use Rattle.std.specs.Prelude.{◌⊎◌, ◌==◌, slice_get, slice_set, if◌then◌else◌}
use Rattle.std.specs.Str.{bytes_eq}
use Rattle.std.specs.Option.{option_map}
use Rattle.std.proofs.Common.{◌≡◌, ℕ, zero, suc, ◌+◌, ◌<◌, ◌≤◌, List, [], ◌∷◌, ◌++◌, length, Bool, true, false, Option, Some, None}
use Rattle.std.proofs.Common.{refl, sym, ap, ◌∙◌, subst, inl, inr, append-nil, arith, length-append}
use Rattle.std.proofs.lemmas.Option.{slice_get-map, get_or_from_slice_get}
use Rattle.std.proofs.lemmas.List.{map-set, map-append, length-set}
use Rattle.std.proofs.Math.Seq.{map-set_same}
use Rattle.mj_text.specs.declared.limit.Limit.TheVariants.{V2}
use Rattle.mj_ask.specs.declared.ask.Ask.{Ask}
use Rattle.mj_ask.specs.declared.ask.Reply.{Reply}
use Rattle.mj_dev.specs.Shelves.{principal}
use Rattle.mj_load.specs.Image.{Loaded}
use Rattle.mj_jobs.specs.Rows.{Row, row_at, IsLive}
use Rattle.mj_jobvm.specs.Run.{Log}
use Rattle.mj_jobvm.specs.Jobs.{Running, IsRunOf}
use Rattle.mj_sys.specs.declared.event.Event.{Event}
use Rattle.mj_sys.specs.Shared.{Shared}
use Rattle.mj_sys.specs.History.{History, after, state_of, log_of, events_of}
use Rattle.mj_sys.specs.System.{Recorded, Claimed, history_limit}
use Rattle.mj_sys.proofs.Replays.{left, no_events}
use Rattle.mj_sys.proofs.Rows.{rows_kept, state_of_append, log_of_append, events_of_append}
use Rattle.mj_core.specs.declared.happened.Happened.{Happened}
use Rattle.mj_core.specs.Happen.{AllHappen, Happens, shared_of}
use Rattle.mj_core.specs.Woven.{Logs, woven, AreThere, AreInOrder}
use Rattle.mj_core.proofs.Happen.{shared_append, happen_more}
use Rattle.mj_core.proofs.Weave.{woven_on, there_on, woven_still, there_still, jobs_stay}
use Rattle.mj_core.proofs.Logs.{log_own, log_other, same_job, other_job, shared_silent}
use Rattle.mj_core.specs.Runs.{start_in}
use Rattle.mj_core.specs.Having.{has_behind, has_after, has_session}
use Rattle.mj_core.specs.Gives.{IsReplyTold}
use Rattle.mj_core.specs.Answering.{Answering, HasAll, HasStill, AreBehind}
use Rattle.mj_core.specs.Ties.{Placed, IsTied, IsPlaced, IsStanding, shared_in}
use Rattle.mj_core.specs.Kept.{AreKept, IsSlotOf, IsClaimed, logs_of}
use Rattle.mj_core.proofs.Histories.{same_state, none_past}
use Rattle.mj_core.proofs.Views.{as_many}
use Rattle.mj_core.proofs.Ordered.{one_in_order}

-- an element of a list with one that was changed
get_set : {X : Type 0} (xs : List X) (k j : ℕ) (x y : X) → slice_get (slice_set xs k x) j ≡ Some y → ((j ≡ k) × (y ≡ x)) ⊎ ((j ≡ k → ⊥) × (slice_get xs j ≡ Some y))
get_set [] k j x y is = absurd (let no : None ≡ Some y = is in cc)
get_set (z ∷ xs) zero zero x y is = inl (refl, (let same : Some x ≡ Some y = is in cc))
get_set (z ∷ xs) zero (suc j) x y is = inr (λ e. (let no : suc j ≡ zero = e in omega (arith, no)), is)
get_set (z ∷ xs) (suc k) zero x y is = inr (λ e. (let no : zero ≡ suc k = e in omega (arith, no)), is)
get_set (z ∷ xs) (suc k) (suc j) x y is = by (get_set xs k j x y is) where
  by : ((j ≡ k) × (y ≡ x)) ⊎ ((j ≡ k → ⊥) × (slice_get xs j ≡ Some y)) → ((suc j ≡ suc k) × (y ≡ x)) ⊎ ((suc j ≡ suc k → ⊥) × (slice_get xs j ≡ Some y))
  by (inl e) = inl (ap suc e.0, e.1)
  by (inr e) = inr (λ s. e.0 (let same : suc j ≡ suc k = s in omega (arith, same)), e.1)

-- an element of a list with one more
get_end : {X : Type 0} (xs : List X) (j : ℕ) (x y : X) → slice_get (xs ++ x ∷ []) j ≡ Some y → ((j ≡ length xs) × (y ≡ x)) ⊎ (slice_get xs j ≡ Some y)
get_end [] zero x y is = inl (refl, (let same : Some x ≡ Some y = is in cc))
get_end [] (suc j) x y is = absurd (let no : None ≡ Some y = is in cc)
get_end (z ∷ xs) zero x y is = inr is
get_end (z ∷ xs) (suc j) x y is = by (get_end xs j x y is) where
  by : ((j ≡ length xs) × (y ≡ x)) ⊎ (slice_get xs j ≡ Some y) → ((suc j ≡ suc (length xs)) × (y ≡ x)) ⊎ (slice_get xs j ≡ Some y)
  by (inl e) = inl (ap suc e.0, e.1)
  by (inr e) = inr e

-- there is none behind the last
slice_get_end : {X : Type 0} (xs : List X) → slice_get xs (length xs) ≡ None
slice_get_end [] = refl
slice_get_end (x ∷ xs) = slice_get_end xs

-- which sessions a job has behind an event more
has_after_on : (s : Shared) (job : ℕ) (name : List ℕ) (has : Bool) (history : History) (e : Event)
    → has_after s job name has (history ++ e ∷ [])
    ≡ (if e.job == job then has_behind (state_of s history) name e.ask (has_after s job name has history) else has_after s job name has history)
has_after_on s job name has [] e = refl
has_after_on s job name has (f ∷ history) e = has_after_on (after s f) job name (if f.job == job then has_behind s name f.ask has else has) history e

has_own : (s : Shared) (job : ℕ) (name : List ℕ) (history : History) (e : Event) → e.job ≡ job
    → has_session s job name (history ++ e ∷ []) ≡ has_behind (state_of s history) name e.ask (has_session s job name history)
has_own s job name history e own =
    has_after_on s job name (bytes_eq principal name) history e
    ∙ ap (λ b. if b then has_behind (state_of s history) name e.ask (has_session s job name history) else has_session s job name history) (same_job e.job job own)

has_other : (s : Shared) (job : ℕ) (name : List ℕ) (history : History) (e : Event) → (e.job ≡ job → ⊥)
    → has_session s job name (history ++ e ∷ []) ≡ has_session s job name history
has_other s job name history e other =
    has_after_on s job name (bytes_eq principal name) history e
    ∙ ap (λ b. if b then has_behind (state_of s history) name e.ask (has_session s job name history) else has_session s job name history) (other_job e.job job other)

-- a job without an event has its principal session alone
has_first : (s : Shared) (job : ℕ) (name : List ℕ) (has : Bool) (history : History) → log_of job history ≡ [] → has_after s job name has history ≡ has
has_first s job name has [] none = refl
has_first s job name has (e ∷ history) none = by (e.job == job) none (λ h. has_first (after s e) job name h history) where
  by : (b : Bool) → (if b then (e.ask, e.reply) ∷ log_of job history else log_of job history) ≡ []
      → ((h : Bool) → log_of job history ≡ [] → has_after (after s e) job name h history ≡ h)
      → has_after (after s e) job name (if b then has_behind s name e.ask has else has) history ≡ has
  by true some rest = absurd (let no : (e.ask, e.reply) ∷ log_of job history ≡ [] = some in cc)
  by false none rest = rest has none

-- the row of a job keeps its start
row_later : (opening : Shared) (history history' more : History) (claim : Claimed) → history' ≡ history ++ more
    → (row : Row) × (row_at (state_of opening history).rows claim.job ≡ Some row) × (row.start ≡ claim.start)
    → (row : Row) × (row_at (state_of opening history').rows claim.job ≡ Some row) × (row.start ≡ claim.start)
row_later opening history history' more claim on there =
    let kept = (rows_kept (state_of opening history) more).starts claim.job there.0 there.1 in
    (kept.0, ap (λ (s : Shared). row_at s.rows claim.job) (ap (state_of opening) on ∙ state_of_append opening history more) ∙ kept.1, kept.2 ∙ there.2)

-- a job's tie stays where others have events, and others are claimed
pub tied_beside : {A : Type 0} (ans : Answering A) (image : Loaded) (opening : Shared) (old new : Recorded) (more : History) (claim : Claimed) (job : Running) (xs : A)
    → IsTied ans image opening old claim job xs → new.history ≡ old.history ++ more → old.claimed ≤ new.claimed → events_of claim.job more ≡ 0
    → IsTied ans image opening new claim job xs
tied_beside ans image opening old new more claim job xs tied on claimed none = record {
  own = tied.own;
  entered = record {
    numbered = tied.entered.numbered;
    claimed = (let a = tied.entered.claimed in omega (arith, a, claimed));
    row = row_later opening old.history new.history more claim on tied.entered.row;
    counted =
        tied.entered.counted
        ∙ sym (ap (events_of claim.job) on ∙ events_of_append claim.job old.history more ∙ ap (λ n. events_of claim.job old.history + n) none
        ∙ (let plus : events_of claim.job old.history + 0 ≡ events_of claim.job old.history = omega arith in plus));
  };
}

-- how many rows were claimed stays where the history goes on
claimed_on : (opening : Shared) (old new : Recorded) (more : History) → new.history ≡ old.history ++ more → new.claimed ≡ old.claimed → (n m : ℕ) → m ≡ n
    → (waiting : Option Claimed) → IsClaimed opening old n waiting → IsClaimed opening new m waiting
claimed_on opening old new more on same n m is None claimed = same ∙ claimed ∙ sym is
claimed_on opening old new more on same n m is (Some claim) claimed = (
  same ∙ claimed.0 ∙ ap suc (sym is),
  claimed.1 ∙ ap suc (sym is),
  claimed.2,
  row_later opening old.history new.history more claim on claimed.3,
)

module _ {A : Type 0} (ans : Answering A) (image : Loaded) (opening : Shared) (system : Recorded) (slots : List (Placed A)) (waiting : Option Claimed) (order : List Happened)
    (kept : AreKept ans image opening system slots waiting order) where
  abbrev log_in : Placed A → Log
  log_in s = s.job.run.log

  abbrev history : History
  history = woven (logs_of slots) order

  abbrev state : Shared
  state = state_of opening system.history

  same : state_of opening history ≡ state
  same = same_state ans image opening system slots waiting order kept

  -- ---- a slot's job goes on

  module _ (k : ℕ) (slot slot' : Placed A) (here : slice_get slots k ≡ Some slot) (numbered : slot'.claim.job ≡ slot.claim.job) where
    abbrev slots' : List (Placed A)
    slots' = slice_set slots k slot'

    at : IsSlotOf ans image opening system history (suc k) slot
    at = kept.tied k slot here

    log_here : slice_get (logs_of slots) k ≡ Some slot.job.run.log
    log_here = slice_get-map log_in slots k ∙ ap (option_map log_in) here

    -- and has an event
    module _ (system' : Recorded) (a : Ask) (reply : Reply) (late : Bool) where
      abbrev event : ℕ → Event
      event job = record { job = job; ask = a; reply = reply }

      -- what is known of the event of a job
      abbrev Made : ℕ → Type 0
      Made job =
          IsLive state.rows job × IsReplyTold state job a late reply (state_of opening system'.history)
          × (system' ≡ record system { history = system.history ++ shared_of (event job ∷ []) })

      module _ (room : length order < image.bounds.events) (placed : IsPlaced ans image opening system' slot') (standing : IsStanding image slot')
          (log : slot'.job.run.log ≡ slot.job.run.log ++ (a, reply) ∷ [])
          (behind : AreBehind ans state a slot.answerer slot'.answerer)
          (made : Made (suc k)) where
        abbrev e : Event
        e = event (suc k)

        abbrev order' : List Happened
        order' = order ++ record { job = suc k; at = length slot.job.run.log } ∷ []

        abbrev history' : History
        history' = woven (logs_of slots') order'

        logs_on : logs_of slots' ≡ slice_set (logs_of slots) k (slot.job.run.log ++ (a, reply) ∷ [])
        logs_on = map-set log_in slots k slot' ∙ ap (λ l. slice_set (logs_of slots) k l) log

        history_on : history' ≡ history ++ e ∷ []
        history_on = ap (λ l. woven l order') logs_on ∙ woven_on (logs_of slots) k slot.job.run.log (a, reply) order log_here kept.there

        system_on : system'.history ≡ system.history ++ shared_of (e ∷ [])
        system_on = ap (λ (r : Recorded). r.history) made.2

        claimed_same : system'.claimed ≡ system.claimed
        claimed_same = ap (λ (r : Recorded). r.claimed) made.2

        happens : Happens (state_of opening history) e
        happens =
            let P : Shared → Type 0 = λ s. Happens s e in
            subst P (sym same) (
              made.0,
              λ shared.
                  (made.0, shared, (late, made.1.shared shared ∙ ap (λ t. Some (reply, t)) (sym (left state (suc k) a late reply (state_of opening system'.history) (made.1.shared shared))))),
            )

        own : IsSlotOf ans image opening system' history' (suc k) slot'
        own = record {
          numbered = numbered ∙ at.numbered;
          placed = placed;
          stands = standing;
          logged =
              ap (log_of (suc k)) history_on ∙ log_of_append (suc k) history (e ∷ []) ∙ ap (λ l. l ++ log_of (suc k) (e ∷ [])) at.logged
              ∙ ap (λ l. slot.job.run.log ++ l) (log_own (suc k) e refl) ∙ sym log;
          held = λ name.
              subst (λ has. ans.Has slot'.answerer name has)
              (ap (λ s. has_behind s name a (has_session opening (suc k) name history)) (sym same)
              ∙ sym (ap (has_session opening (suc k) name) history_on ∙ has_own opening (suc k) name history e refl))
              (behind name (has_session opening (suc k) name history) (at.held name));
        }

        other : (j : ℕ) (s : Placed A) → (j ≡ k → ⊥) → slice_get slots j ≡ Some s → IsSlotOf ans image opening system' history' (suc j) s
        other j s apart there =
            let old = kept.tied j s there in
            let not_it : suc k ≡ suc j → ⊥ = λ is. apart (let i : suc k ≡ suc j = is in omega (arith, i)) in
            let silent : log_of s.claim.job (shared_of (e ∷ [])) ≡ [] =
            ap (λ job. log_of job (shared_of (e ∷ []))) old.numbered ∙ shared_silent (suc j) (e ∷ []) (log_other (suc j) e not_it) in
            record {
              numbered = old.numbered;
              placed =
                  tied_beside ans image opening system system' (shared_of (e ∷ [])) s.claim s.job s.answerer old.placed system_on
                  (let same_many = claimed_same in omega (arith, same_many)) (no_events s.claim.job (shared_of (e ∷ [])) silent);
              stands = old.stands;
              logged =
                  ap (log_of (suc j)) history_on ∙ log_of_append (suc j) history (e ∷ []) ∙ ap (λ l. log_of (suc j) history ++ l) (log_other (suc j) e not_it)
                  ∙ append-nil (log_of (suc j) history) ∙ old.logged;
              held = λ name.
                  subst (λ has. ans.Has s.answerer name has) (sym (ap (has_session opening (suc j) name) history_on ∙ has_other opening (suc j) name history e not_it)) (old.held name);
            }

        tied_on : (j : ℕ) (s : Placed A) → slice_get slots' j ≡ Some s → IsSlotOf ans image opening system' history' (suc j) s
        tied_on j s there = by (get_set slots k j slot' s there) where
          by : ((j ≡ k) × (s ≡ slot')) ⊎ ((j ≡ k → ⊥) × (slice_get slots j ≡ Some s)) → IsSlotOf ans image opening system' history' (suc j) s
          by (inl is) =
              let P : ℕ → Type 0 = λ i. IsSlotOf ans image opening system' history' (suc i) slot' in
              let Q : Placed A → Type 0 = λ p. IsSlotOf ans image opening system' history' (suc j) p in
              subst Q (sym is.1) (subst P (sym is.0) own)
          by (inr is) = other j s is.0 is.1

        kept_event : AreKept ans image opening system' slots' waiting order'
        kept_event = record {
          history = ap shared_of history_on ∙ shared_append history (e ∷ []) ∙ ap (λ h. h ++ shared_of (e ∷ [])) kept.history ∙ sym system_on;
          tied = tied_on;
          happen = let P : History → Type 0 = λ h. AllHappen opening h in subst P (sym history_on) (happen_more opening history e kept.happen happens);
          there =
              let P : Logs → Type 0 = λ l. AreThere l order' in
              subst P (sym logs_on) (there_on (logs_of slots) k slot.job.run.log (a, reply) order log_here kept.there);
          ordered =
              let P : History → Type 0 = λ h. AreInOrder [] order' h in
              subst P (sym history_on)
              (one_in_order order history (record { job = suc k; at = length slot.job.run.log }) e (sym (as_many (logs_of slots) order kept.there)) kept.ordered
              (ap (λ (l : Log). length l) (sym at.logged)));
          claimed = claimed_on opening system system' (shared_of (e ∷ [])) system_on claimed_same (length slots) (length slots') (length-set slots k slot') waiting kept.claimed;
          within = let long = length-append order (record { job = suc k; at = length slot.job.run.log } ∷ []) in omega (arith, long, room);
          most = kept.most;
          long = kept.long;
        }

      -- what is known of the event, by the number of its claim
      pub keeps_event : length order < image.bounds.events → IsPlaced ans image opening system' slot' → IsStanding image slot' → slot'.job.run.log ≡ slot.job.run.log ++ (a, reply) ∷ []
          → AreBehind ans state a slot.answerer slot'.answerer
          → IsLive state.rows slot.claim.job → IsReplyTold state slot.claim.job a late reply (state_of opening system'.history)
          → system' ≡ record system { history = system.history ++ shared_of (event slot.claim.job ∷ []) }
          → AreKept ans image opening system' slots' waiting (order ++ record { job = suc k; at = length slot.job.run.log } ∷ [])
      keeps_event room placed standing log behind live told new = kept_event room placed standing log behind (subst Made at.numbered (live, told, new))

      -- and what is seen of the history then
      pub shows_event : slot'.job.run.log ≡ slot.job.run.log ++ (a, reply) ∷ []
          → woven (logs_of slots') (order ++ record { job = suc k; at = length slot.job.run.log } ∷ []) ≡ history ++ event (suc k) ∷ []
      shows_event log =
          ap (λ l. woven l (order ++ record { job = suc k; at = length slot.job.run.log } ∷ [])) (map-set log_in slots k slot' ∙ ap (λ l. slice_set (logs_of slots) k l) log)
          ∙ woven_on (logs_of slots) k slot.job.run.log (a, reply) order log_here kept.there

    -- and has none
    module _ (placed : IsPlaced ans image opening system slot') (standing : IsStanding image slot') (log : slot'.job.run.log ≡ slot.job.run.log)
        (stays : HasStill ans slot.answerer slot'.answerer) where
      logs_same : logs_of slots' ≡ logs_of slots
      logs_same = map-set_same log_in slots k slot' slot (log ∙ ap log_in (sym (get_or_from_slice_get slots k slot slot here)))

      pub shows_still : woven (logs_of slots') order ≡ history
      shows_still = ap (λ l. woven l order) logs_same

      still : IsSlotOf ans image opening system history (suc k) slot'
      still = record {
        numbered = numbered ∙ at.numbered;
        placed = placed;
        stands = standing;
        logged = at.logged ∙ sym log;
        held = λ name. stays name (has_session opening (suc k) name history) (at.held name);
      }

      tied_still : (j : ℕ) (s : Placed A) → slice_get slots' j ≡ Some s → IsSlotOf ans image opening system history (suc j) s
      tied_still j s there = by (get_set slots k j slot' s there) where
        by : ((j ≡ k) × (s ≡ slot')) ⊎ ((j ≡ k → ⊥) × (slice_get slots j ≡ Some s)) → IsSlotOf ans image opening system history (suc j) s
        by (inl is) =
            let P : ℕ → Type 0 = λ i. IsSlotOf ans image opening system history (suc i) slot' in
            let Q : Placed A → Type 0 = λ p. IsSlotOf ans image opening system history (suc j) p in
            subst Q (sym is.1) (subst P (sym is.0) still)
        by (inr is) = kept.tied j s is.1

      pub keeps_still : AreKept ans image opening system slots' waiting order
      keeps_still = record {
        history = ap shared_of shows_still ∙ kept.history;
        tied = λ j s there. (let P : History → Type 0 = λ h. IsSlotOf ans image opening system h (suc j) s in subst P (sym shows_still) (tied_still j s there));
        happen = (let P : History → Type 0 = λ h. AllHappen opening h in subst P (sym shows_still) kept.happen);
        there = (let P : Logs → Type 0 = λ l. AreThere l order in subst P (sym logs_same) kept.there);
        ordered = (let P : History → Type 0 = λ h. AreInOrder [] order h in subst P (sym shows_still) kept.ordered);
        claimed = subst (λ n. IsClaimed opening system n waiting) (sym (length-set slots k slot')) kept.claimed;
        within = kept.within;
        most = kept.most;
        long = kept.long;
      }

-- ---- a job more

module _ {A : Type 0} (ans : Answering A) (image : Loaded) (opening : Shared) (system : Recorded) (slots : List (Placed A)) (claim : Claimed) (order : List Happened)
    (kept : AreKept ans image opening system slots (Some claim) order) where
  -- the job of a row that waited for its slot is tied, where it hasn't gone on yet
  pub tied_first : (job : Running) (xs : A) → IsRunOf image (start_in claim.job claim.start) job → job.run.log ≡ [] → ans.IsOf xs job.run.log
      → IsTied ans image opening system claim job xs
  tied_first job xs run first told =
      let none = none_past ans image opening system slots (Some claim) order kept (length slots) (slice_get_end slots) in
      let silent : log_of (suc (length slots)) system.history ≡ [] =
      ap (log_of (suc (length slots))) (sym kept.history) ∙ shared_silent (suc (length slots)) (woven (logs_of slots) order) none in
      record {
        own = record { run = run; told = told; shared = kept.claimed.2 ∙ sym (ap shared_in first); long = kept.long };
        entered = record {
          numbered = (let n = kept.claimed.1 in omega (arith, n));
          claimed = (let n = kept.claimed.1 in let m = kept.claimed.0 in omega (arith, n, m));
          row = kept.claimed.3;
          counted = kept.claimed.2 ∙ sym (ap (λ j. events_of j system.history) kept.claimed.1 ∙ no_events (suc (length slots)) system.history silent);
        };
      }

  module _ (slot : Placed A) (is : slot.claim ≡ claim) (log : slot.job.run.log ≡ []) (placed : IsPlaced ans image opening system slot)
      (standing : IsStanding image slot) (held : HasAll ans slot.answerer (bytes_eq principal)) where
    abbrev old_history : History
    old_history = woven (logs_of slots) order

    abbrev more : List (Placed A)
    more = slots ++ slot ∷ []

    logs_more : logs_of more ≡ logs_of slots ++ [] ∷ []
    logs_more = map-append (λ (s : Placed A). s.job.run.log) slots (slot ∷ []) ∙ ap (λ l. logs_of slots ++ l ∷ []) log

    pub shows_slot : woven (logs_of more) order ≡ old_history
    shows_slot = ap (λ l. woven l order) logs_more ∙ woven_still (logs_of slots) (logs_of slots ++ [] ∷ []) order (jobs_stay (logs_of slots)) kept.there

    none : log_of (suc (length slots)) old_history ≡ []
    none = none_past ans image opening system slots (Some claim) order kept (length slots) (slice_get_end slots)

    first : IsSlotOf ans image opening system old_history (suc (length slots)) slot
    first = record {
      numbered = ap (λ (c : Claimed). c.job) is ∙ kept.claimed.1;
      placed = placed;
      stands = standing;
      logged = none ∙ sym log;
      held = λ name. subst (λ has. ans.Has slot.answerer name has) (sym (has_first opening (suc (length slots)) name (bytes_eq principal name) old_history none)) (held name);
    }

    tied_more : (j : ℕ) (s : Placed A) → slice_get more j ≡ Some s → IsSlotOf ans image opening system old_history (suc j) s
    tied_more j s there = by (get_end slots j slot s there) where
      by : ((j ≡ length slots) × (s ≡ slot)) ⊎ (slice_get slots j ≡ Some s) → IsSlotOf ans image opening system old_history (suc j) s
      by (inl e) =
          let P : ℕ → Type 0 = λ i. IsSlotOf ans image opening system old_history (suc i) slot in
          let Q : Placed A → Type 0 = λ p. IsSlotOf ans image opening system old_history (suc j) p in
          subst Q (sym e.1) (subst P (sym e.0) first)
      by (inr e) = kept.tied j s e

    pub keeps_slot : AreKept ans image opening system more None order
    keeps_slot = record {
      history = ap shared_of shows_slot ∙ kept.history;
      tied = λ j s there. (let P : History → Type 0 = λ h. IsSlotOf ans image opening system h (suc j) s in subst P (sym shows_slot) (tied_more j s there));
      happen = (let P : History → Type 0 = λ h. AllHappen opening h in subst P (sym shows_slot) kept.happen);
      there =
          (let P : Logs → Type 0 = λ l. AreThere l order in
          subst P (sym logs_more) (there_still (logs_of slots) (logs_of slots ++ [] ∷ []) order (jobs_stay (logs_of slots)) kept.there));
      ordered = (let P : History → Type 0 = λ h. AreInOrder [] order h in subst P (sym shows_slot) kept.ordered);
      claimed = kept.claimed.0 ∙ (let long = length-append slots (slot ∷ []) in omega (arith, long));
      within = kept.within;
      most = kept.most;
      long = kept.long;
    }

-- a row is claimed, and waits for its slot
pub keeps_claim : {A : Type 0} (ans : Answering A) (image : Loaded) (opening : Shared) (old new : Recorded) (slots : List (Placed A)) (order : List Happened) (claim : Claimed)
    → AreKept ans image opening old slots None order → new.history ≡ old.history → new.claimed ≡ old.claimed + 1 → claim.job ≡ old.claimed + 1 → claim.events ≡ 0
    → (row : Row) × (row_at (state_of opening old.history).rows claim.job ≡ Some row) × (row.start ≡ claim.start)
    → AreKept ans image opening new slots (Some claim) order
keeps_claim ans image opening old new slots order claim kept same claimed job events row =
    let on : new.history ≡ old.history ++ [] = same ∙ sym (append-nil old.history) in
    record {
      history = kept.history ∙ sym same;
      tied = λ k slot here.
          (let at = kept.tied k slot here in
          record {
            numbered = at.numbered;
            placed = tied_beside ans image opening old new [] slot.claim slot.job slot.answerer at.placed on (omega (arith, claimed)) refl;
            stands = at.stands;
            logged = at.logged;
            held = at.held;
          });
      happen = kept.happen;
      there = kept.there;
      ordered = kept.ordered;
      claimed =
          (let n = kept.claimed in
          (omega (arith, n, claimed), omega (arith, n, job), events, row_later opening old.history new.history [] claim on row));
      within = kept.within;
      most = kept.most;
      long = kept.long;
    }

-- no row was claimed yet, and nothing was asked
pub keeps_new : {A : Type 0} (ans : Answering A) (image : Loaded) (opening : Shared) → image.bounds.limit ≡ V2 → image.bounds.events ≤ history_limit
    → AreKept ans image opening (record { history = []; claimed = 0 }) [] None []
keeps_new ans image opening long most = record {
  history = refl;
  tied = λ k slot here. absurd (let no : None ≡ Some slot = here in cc);
  happen = tt;
  there = tt;
  ordered = tt;
  claimed = refl;
  within = omega arith;
  most = most;
  long = long;
}
