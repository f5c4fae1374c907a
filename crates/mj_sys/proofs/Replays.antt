-- A history goes on by an event that is served.
use Rattle.std.proofs.Common.{◌≡◌, ℕ, zero, suc, ◌+◌, ◌-◌, ◌<◌, ◌≤◌, List, [], ◌∷◌, ◌++◌, length, get_or}
use Rattle.std.proofs.Common.{Bool, true, false, cond, Option, Some, None, refl, sym, ap, ◌∙◌, subst, arith, length-append, eqb→eq}
use Rattle.std.specs.Prelude.{ℤ, T, nat_lt, ◌==◌, if◌then◌else◌}
use Rattle.std.specs.Str.{bytes_eq}
use Rattle.std.proofs.Math.ListN.{set}
use Rattle.std.proofs.Math.ListN.{get_or-append}
use Rattle.std.proofs.Math.Seq.{get_or-append_seam}
use Rattle.std.proofs.lemmas.Option.{none-some}
use Rattle.std.proofs.lemmas.List.{length-set, get_or-set_same, get_or-set_other}
use Rattle.std.proofs.lemmas.List.Sums.{sum_by-append, count_by-le-length}
use Rattle.mj_ask.specs.declared.ask.Ask.{Ask}
use Rattle.mj_ask.specs.declared.ask.Ask.TheVariants as asks
use Rattle.mj_ask.specs.declared.ask.SharedAsk.{SharedAsk}
use Rattle.mj_ask.specs.declared.ask.SharedAsk.TheVariants as shared_asks
use Rattle.mj_ask.specs.declared.ask.Reply.{Reply}
use Rattle.mj_ask.specs.declared.ask.Reply.TheVariants as replies
use Rattle.mj_ask.specs.Fits.{is_shared}
use Rattle.mj_dev.specs.Shelves.{principal}
use Rattle.mj_jobs.specs.Rows.{Row, IsLive}
use Rattle.mj_locktab.specs.declared.taken.Taken.{Taken}
use Rattle.mj_locktab.specs.declared.taken.Taken.TheVariants as takes
use Rattle.mj_locktab.specs.Locks.{Locks, LocksApart}
use Rattle.mj_locktab.specs.Tries.{outcome_of, after_try}
use Rattle.mj_subs.specs.Name.{Name}
use Rattle.mj_sys.specs.declared.event.Event.{Event}
use Rattle.mj_sys.specs.Devices.{Device, device_at}
use Rattle.mj_ask.specs.Late.{is_timed_out}
use Rattle.mj_sys.specs.Shared.{Shared, are_global, busy, tried, open_free, open_known, answered, served}
use Rattle.mj_sys.specs.History.{History, left_by, after, state_of, IsServed, AreServed, events_of, log_of}
use Rattle.mj_sys.specs.System.{Recorded, MatchesHistory, AreCounts, change_globals, history_limit}
use Rattle.mj_sys.specs.Told.{recorded}
use Rattle.mj_sys.proofs.Global.{stays_global}
use Rattle.mj_sys.proofs.Waiting.{stays_waiting}
use Rattle.mj_sys.proofs.Opens.{same_job, other_job}

pub yes_no : ◌≡◌ {A = Bool} true false → ⊥
yes_no e = cc

-- ---- what is left doesn't depend on whether the ask was late

module _ (s : Shared) where
  pub left_busy : (timeout : Option ℤ) (late : Bool) → left_by s (busy s timeout late) ≡ s
  left_busy timeout late = at (is_timed_out timeout late) where
    at : (b : Bool) → left_by s (cond b (Some (replies.Late, s)) None) ≡ s
    at true = refl
    at false = refl

  both_busy : (timeout : Option ℤ) (late : Bool) → left_by s (busy s timeout late) ≡ left_by s (busy s timeout true)
  both_busy timeout late = left_busy timeout late ∙ sym (left_busy timeout true)

  left_tried : (job : ℕ) (names : List Name) (timeout : Option ℤ) (late : Bool) (taken : Taken) (locks : Locks)
      → left_by s (tried s job names timeout late taken locks) ≡ left_by s (tried s job names timeout true taken locks)
  left_tried job names timeout late takes.Got locks = refl
  left_tried job names timeout late (takes.Busy holder name) locks = both_busy timeout late
  left_tried job names timeout late takes.Limit locks = refl

  left_held : (b : Bool) (timeout : Option ℤ) (late : Bool)
      → left_by s (cond b (Some (replies.Got, s)) (busy s timeout late)) ≡ left_by s (cond b (Some (replies.Got, s)) (busy s timeout true))
  left_held true timeout late = refl
  left_held false timeout late = both_busy timeout late

  left_known : (job : ℕ) (name : List ℕ) (timeout : Option ℤ) (late : Bool) (d : Device) (holder : Option ℕ)
      → left_by s (elim holder [ None ↦ Some (open_free s job name d) | Some h ↦ cond (h == job) (Some (replies.Got, s)) (busy s timeout late) ])
      ≡ left_by s (elim holder [ None ↦ Some (open_free s job name d) | Some h ↦ cond (h == job) (Some (replies.Got, s)) (busy s timeout true) ])
  left_known job name timeout late d None = refl
  left_known job name timeout late d (Some h) = left_held (h == job) timeout late

  left_found : (job : ℕ) (name : List ℕ) (timeout : Option ℤ) (late : Bool) (found : Option Device)
      → left_by s (elim found [ None ↦ Some (replies.NoSession, s) | Some d ↦ open_known s job name timeout late d ])
      ≡ left_by s (elim found [ None ↦ Some (replies.NoSession, s) | Some d ↦ open_known s job name timeout true d ])
  left_found job name timeout late None = refl
  left_found job name timeout late (Some d) = left_known job name timeout late d d.holder

  left_named : (job : ℕ) (name : List ℕ) (timeout : Option ℤ) (late b : Bool)
      → left_by s (cond b (Some (replies.Got, s)) (elim (device_at s.devices name) [ None ↦ Some (replies.NoSession, s) | Some d ↦ open_known s job name timeout late d ]))
      ≡ left_by s (cond b (Some (replies.Got, s)) (elim (device_at s.devices name) [ None ↦ Some (replies.NoSession, s) | Some d ↦ open_known s job name timeout true d ]))
  left_named job name timeout late true = refl
  left_named job name timeout late false = left_found job name timeout late (device_at s.devices name)

  left_answered : (job : ℕ) (ask : SharedAsk) (late : Bool) → left_by s (answered s job ask late) ≡ left_by s (answered s job ask true)
  left_answered job (shared_asks.Try names timeout) late = left_tried job names timeout late (outcome_of s.locks job names) (after_try s.locks job names)
  left_answered job (shared_asks.Open name timeout) late = left_named job name timeout late (bytes_eq name principal)
  left_answered job _ late = refl

  left_same : (job : ℕ) (ask : Ask) (late : Bool) → left_by s (served s job ask late) ≡ left_by s (served s job ask true)
  left_same job (asks.Shared ask) late = left_answered job ask late
  left_same job _ late = refl

  pub left : (job : ℕ) (ask : Ask) (late : Bool) (reply : Reply) (t : Shared) → served s job ask late ≡ Some (reply, t) → left_by s (served s job ask true) ≡ t
  left job ask late reply t e = sym (left_same job ask late) ∙ ap (left_by s) e

-- ---- one event more

pub state_with : (s : Shared) (history : History) (e : Event) → state_of s (history ++ e ∷ []) ≡ after (state_of s history) e
state_with s [] e = refl
state_with s (f ∷ history) e = state_with (after s f) history e

pub served_with : (s : Shared) (history : History) (e : Event) → AreServed s history → IsServed (state_of s history) e → AreServed s (history ++ e ∷ [])
served_with s [] e all is = (is, tt)
served_with s (f ∷ history) e all is = (all.0, served_with (after s f) history e all.1 is)

log_if : (b : Bool) (p : Ask × Reply) (log rest tail : List (Ask × Reply)) → rest ≡ log ++ tail
    → (if b then p ∷ rest else rest) ≡ (if b then p ∷ log else log) ++ tail
log_if true p log rest tail e = ap (λ l. p ∷ l) e
log_if false p log rest tail e = e

pub log_with : (job : ℕ) (history : History) (e : Event) → log_of job (history ++ e ∷ []) ≡ log_of job history ++ log_of job (e ∷ [])
log_with job [] e = refl
log_with job (f ∷ history) e = log_if (f.job == job) (f.ask, f.reply) (log_of job history) (log_of job (history ++ e ∷ [])) (log_of job (e ∷ [])) (log_with job history e)

nothing : (one two : List (Ask × Reply)) → one ≡ [] → two ≡ [] → one ++ two ≡ []
nothing one two e f = ap (λ l. l ++ two) e ∙ f

not_of : (job : ℕ) (e : Event) → (e.job ≡ job → ⊥) → log_of job (e ∷ []) ≡ []
not_of job e apart = ap (λ b. if◌then◌else◌ {A = List (Ask × Reply)} b ((e.ask, e.reply) ∷ []) []) (other_job e.job job apart)

-- as many events as the log has
events_if : (b : Bool) (p : Ask × Reply) (log : List (Ask × Reply)) (n : ℕ) → n ≡ length log → cond b 1 0 + n ≡ length (if b then p ∷ log else log)
events_if true p log n e = omega (arith, e)
events_if false p log n e = omega (arith, e)

counted : (job : ℕ) (f : Event) (history : History) → events_of job (f ∷ history) ≡ cond (f.job == job) 1 0 + events_of job history
counted job f history =
    let n = cond (f.job == job) 1 0 in
    let front : 0 + n ≡ n = omega arith in
    sum_by-append (λ (x : Event). cond (x.job == job) 1 0) (f ∷ []) history ∙ ap (λ m. m + events_of job history) front

pub events_log : (job : ℕ) (history : History) → events_of job history ≡ length (log_of job history)
events_log job [] = refl
events_log job (f ∷ history) = counted job f history ∙ events_if (f.job == job) (f.ask, f.reply) (log_of job history) (events_of job history) (events_log job history)

pub no_events : (job : ℕ) (history : History) → log_of job history ≡ [] → events_of job history ≡ 0
no_events job history none = events_log job history ∙ ap (λ l. length l) none

events_with : (job : ℕ) (history : History) (e : Event) → events_of job (history ++ e ∷ []) ≡ events_of job history + events_of job (e ∷ [])
events_with job history e = sum_by-append (λ (x : Event). cond (x.job == job) 1 0) history (e ∷ [])

pub few_events : (job : ℕ) (history : History) → events_of job history ≤ length history
few_events job history = count_by-le-length (λ (e : Event). e.job == job) history

one_of : (job : ℕ) (e : Event) → e.job ≡ job → events_of job (e ∷ []) ≡ 1
one_of job e is = ap (λ b. 0 + cond b 1 0) (same_job e.job job is)

none_of : (job : ℕ) (e : Event) → (e.job ≡ job → ⊥) → events_of job (e ∷ []) ≡ 0
none_of job e apart = ap (λ b. 0 + cond b 1 0) (other_job e.job job apart)

-- ---- what the type of the system keeps

module _ (opening state : Shared) (old : Recorded) (job : ℕ) (ask : Ask) (late : Bool) (reply : Reply) (new : Shared)
    (kept : MatchesHistory opening state old) (live : IsLive state.rows job) (mine : job ≤ old.claimed) (room : length old.history < history_limit)
    (shared : is_shared ask ≡ true) (apart : LocksApart new.locks) (told : served state job ask late ≡ Some (reply, new)) where
  abbrev pub event : Event
  event = record { job = job; ask = ask; reply = reply }

  pub replayed : new ≡ state_of opening (old.history ++ event ∷ [])
  replayed =
      sym (left state job ask late reply new told)
      ∙ ap (λ s. left_by s (served s job ask true)) kept.replay
      ∙ sym (state_with opening old.history event)

  pub kept_on : MatchesHistory opening new (recorded old job ask reply)
  kept_on =
      let here : IsServed state event = (live, shared, (late, told ∙ ap (λ s. Some (reply, s)) (sym (left state job ask late reply new told)))) in
      record {
        replay = replayed;
        served = served_with opening old.history event kept.served (subst (λ s. IsServed s event) kept.replay here);
        global = subst (λ (s : Shared). are_global s.globals ≡ true) (left state job ask late reply new told) (stays_global state kept.global kept.waiting job ask);
        waiting = subst (λ (s : Shared). change_globals s.transactions ≡ true) (left state job ask late reply new told) (stays_waiting state kept.waiting job ask);
        apart = apart;
        unclaimed = λ other above. log_with other old.history event
            ∙ nothing (log_of other old.history) (log_of other (event ∷ [])) (kept.unclaimed other above) (not_of other event (λ same. omega (arith, mine, above, same)));
        within = omega (arith, room, length-append old.history (event ∷ []));
        none_open = kept.none_open;
        none_ended = kept.none_ended;
      }

-- no event is of a job 0
not_none : (job : ℕ) (rows : List Row) → IsLive rows job → job ≡ 0 → ⊥
not_none zero rows live is = none-some live.0 live.1
not_none (suc k) rows live is = let no : ⊥ = omega (arith, is) in no

pub none_of_0 : (s : Shared) (history : History) → AreServed s history → events_of 0 history ≡ 0
none_of_0 s [] all = refl
none_of_0 s (f ∷ history) all =
    let here = other_job f.job 0 (not_none f.job s.rows all.0.0) in
    let rest = none_of_0 (after s f) history all.1 in
    counted 0 f history ∙ ap (λ b. cond b 1 0 + events_of 0 history) here ∙ (let none : 0 + events_of 0 history ≡ 0 = omega (arith, rest) in none)

-- ---- the counts

module _ (counts : List ℕ) (seen : Recorded) (job : ℕ) (ask : Ask) (reply : Reply) (are : AreCounts counts seen) (numbered : 1 ≤ job) (mine : job ≤ seen.claimed) where
  abbrev pub one : Event
  one = record { job = job; ask = ask; reply = reply }

  abbrev pub more : List ℕ
  more = set counts (job - 1) (get_or counts (job - 1) 0 + 1)

  long : length more ≡ length counts
  long = length-set counts (job - 1) (get_or counts (job - 1) 0 + 1)

  each_on : (b : Bool) (k : ℕ) → (k == (job - 1)) ≡ b → k < length counts → get_or more k 0 ≡ events_of (suc k) (seen.history ++ one ∷ [])
  each_on true k e below =
      let is : k ≡ job - 1 = eqb→eq k (job - 1) (subst T (sym e) tt) in
      let at : job ≡ suc k = omega (arith, is, numbered) in
      let here : get_or more k 0 ≡ get_or counts (job - 1) 0 + 1 =
      ap (λ i. get_or more i 0) is ∙ get_or-set_same counts (job - 1) (get_or counts (job - 1) 0 + 1) 0 (subst (λ i. i < length counts) is below) in
      here ∙ ap (λ i. get_or counts i 0 + 1) (sym is) ∙ ap (λ n. n + 1) (are.each k below)
      ∙ ap (λ n. events_of (suc k) seen.history + n) (sym (one_of (suc k) one at)) ∙ sym (events_with (suc k) seen.history one)
  each_on false k e below =
      let apart : k ≡ job - 1 → ⊥ = λ is. yes_no (sym (same_job k (job - 1) is) ∙ e) in
      let other : job ≡ suc k → ⊥ = λ is. apart (let i : k ≡ job - 1 = omega (arith, is) in i) in
      get_or-set_other counts (job - 1) k (get_or counts (job - 1) 0 + 1) 0 apart ∙ are.each k below
      ∙ (let plus : events_of (suc k) seen.history ≡ events_of (suc k) seen.history + 0 = omega arith in plus)
      ∙ ap (λ n. events_of (suc k) seen.history + n) (sym (none_of (suc k) one other)) ∙ sym (events_with (suc k) seen.history one)

  pub counts_on : AreCounts more (recorded seen job ask reply)
  counts_on = record { all = long ∙ are.all; each = λ k below. each_on (k == (job - 1)) k refl (subst (λ n. k < n) long below) }

-- a row more is claimed
module _ (opening state : Shared) (counts : List ℕ) (seen : Recorded) (kept : MatchesHistory opening state seen) (are : AreCounts counts seen) (claimed : ℕ)
    (next : claimed ≡ seen.claimed + 1) where
  abbrev pub wider : Recorded
  wider = record { history = seen.history; claimed = claimed }

  pub kept_wider : (new : Shared) → new ≡ state → MatchesHistory opening new wider
  kept_wider new same = record {
    replay = same ∙ kept.replay;
    served = kept.served;
    global = subst (λ (s : Shared). are_global s.globals ≡ true) (sym same) kept.global;
    waiting = subst (λ (s : Shared). change_globals s.transactions ≡ true) (sym same) kept.waiting;
    apart = subst (λ (s : Shared). LocksApart s.locks) (sym same) kept.apart;
    unclaimed = λ job above. kept.unclaimed job (omega (arith, above, next));
    within = kept.within;
    none_open = kept.none_open;
    none_ended = kept.none_ended;
  }

  each_wider : (b : Bool) (k : ℕ) → nat_lt k (length counts) ≡ b → k < length counts + 1 → get_or (counts ++ 0 ∷ []) k 0 ≡ events_of (suc k) seen.history
  each_wider true k e below =
      let within : k < length counts = grind (arith, e) in
      get_or-append counts (0 ∷ []) 0 k within ∙ are.each k within
  each_wider false k e below =
      let is : k ≡ length counts = let past : length counts ≤ k = grind (arith, e) in omega (arith, past, below) in
      let above : seen.claimed < suc k = let all = are.all in omega (arith, is, all) in
      ap (λ i. get_or (counts ++ 0 ∷ []) i 0) is ∙ get_or-append_seam counts 0 [] 0 ∙ sym (no_events (suc k) seen.history (kept.unclaimed (suc k) above))

  pub counts_wider : AreCounts (counts ++ 0 ∷ []) wider
  counts_wider = record {
    all = length-append counts (0 ∷ []) ∙ ap (λ n. n + 1) are.all ∙ sym next;
    each = λ k below. each_wider (nat_lt k (length counts)) k refl (subst (λ n. k < n) (length-append counts (0 ∷ [])) below);
  }
