-- A job whose run is over has halted: its row stays ended, whatever happens behind.
use Rattle.std.specs.Prelude.{ℤ, T, ◌==◌, nat_lt, slice_get, slice_set, if◌then◌else◌}
use Rattle.std.specs.Str.{bytes_eq}
use Rattle.std.proofs.Common.{◌≡◌, ℕ, zero, suc, ◌+◌, ◌<◌, List, [], ◌∷◌, ◌++◌, length, Bool, true, false, cond, Option, Some, None, refl, sym, ap, ◌∙◌, subst, arith, length-append, eq-eqb, eqb→eq}
use Rattle.std.proofs.Math.ListN.{get_or-append}
use Rattle.std.proofs.lemmas.Bool.{false≢true}
use Rattle.std.proofs.lemmas.Option.{slice_get-get_or, slice_get_within, none-some, same_Some}
use Rattle.std.proofs.lemmas.List.{length-set, get_or-set_same, get_or-set_other}
use Rattle.mj_text.specs.declared.fault.Fault.{Fault}
use Rattle.mj_ask.specs.Started.{Started}
use Rattle.mj_ask.specs.declared.ask.Ask.{Ask}
use Rattle.mj_ask.specs.declared.ask.Ask.TheVariants as asks
use Rattle.mj_ask.specs.declared.ask.SharedAsk.{SharedAsk}
use Rattle.mj_ask.specs.declared.ask.SharedAsk.TheVariants as shared_asks
use Rattle.mj_ask.specs.declared.ask.Reply.{Reply}
use Rattle.mj_ask.specs.declared.ask.Reply.TheVariants as replies
use Rattle.mj_dev.specs.Shelves.{principal}
use Rattle.mj_jobs.specs.Rows.{Row, row_at, opened, with_ended, IsLive}
use Rattle.mj_jobvm.specs.Run.{Log}
use Rattle.mj_jobvm.proofs.Halts.{halt_last}
use Rattle.mj_locktab.specs.declared.taken.Taken.{Taken}
use Rattle.mj_locktab.specs.declared.taken.Taken.TheVariants as takes
use Rattle.mj_locktab.specs.Locks.{Locks}
use Rattle.mj_locktab.specs.Tries.{outcome_of, after_try}
use Rattle.mj_subs.specs.Name.{Name}
use Rattle.mj_sys.specs.declared.event.Event.{Event}
use Rattle.mj_sys.specs.Devices.{Device, device_at, with_device, opened_by}
use Rattle.mj_sys.specs.Shared.{Shared, busy, tried, open_free, open_known, has_room, answered, served}
use Rattle.mj_sys.specs.History.{History, left_by, after, state_of, log_of}
use Rattle.mj_sys.proofs.Replays.{left_busy}
use Rattle.mj_core.specs.Happen.{AllHappen}
use Rattle.mj_core.specs.Runs.{start_in}
use Rattle.mj_core.specs.Ended.{HasHalted}

-- the job's row is that of a job that has ended
abbrev IsOver : List Row → ℕ → Type 0
IsOver rows job = (row : Row) × (row_at rows job ≡ Some row) × (row.ended ≡ true)

-- rows that have ended stay so
record Stays (old new : List Row) : Type 0 where
  over : (job : ℕ) → IsOver old job → IsOver new job

stays_same : (rows : List Row) → Stays rows rows
stays_same rows = record { over = λ job is. is }

-- ---- a row more

stays_added : (rows more : List Row) → Stays rows (rows ++ more)
stays_added rows more = record { over = at } where
  get_on : (k : ℕ) (row : Row) → slice_get rows k ≡ Some row → slice_get (rows ++ more) k ≡ Some row
  get_on k row is =
      let within = slice_get_within rows k row is in
      let long = length-append rows more in
      let inside : k < length (rows ++ more) = omega (arith, within, long) in
      slice_get-get_or (rows ++ more) k row inside ∙ ap Some (get_or-append rows more row k within) ∙ sym (slice_get-get_or rows k row within) ∙ is

  at : (job : ℕ) → IsOver rows job → IsOver (rows ++ more) job
  at zero o = absurd (none-some o.0 o.1)
  at (suc k) o = (o.0, get_on k o.0 o.1, o.2)

-- ---- a row that ends

module _ (rows : List Row) (k : ℕ) (r : Row) where
  abbrev ending : List Row
  ending = slice_set rows k (record r { ended = true })

  ends_here : (x : Row) → slice_get rows k ≡ Some x → IsOver ending (suc k)
  ends_here x there =
      let within = slice_get_within rows k x there in
      let long = length-set rows k (record r { ended = true }) in
      let inside : k < length ending = omega (arith, long, within) in
      let r' : Row = record r { ended = true } in
      (r', slice_get-get_or ending k r' inside ∙ ap Some (get_or-set_same rows k r' r' within), refl)

  stays_there : (j : ℕ) (b : Bool) → (j == k) ≡ b → IsOver rows (suc j) → IsOver ending (suc j)
  stays_there j true e o =
      let same : j ≡ k = eqb→eq j k (subst T (sym e) tt) in
      subst (λ i. IsOver ending (suc i)) (sym same) (ends_here o.0 (ap (λ i. slice_get rows i) (sym same) ∙ o.1))
  stays_there j false e o =
      let within = slice_get_within rows j o.0 o.1 in
      let long = length-set rows k (record r { ended = true }) in
      let inside : j < length ending = omega (arith, long, within) in
      let other : j ≡ k → ⊥ = (λ same. false≢true (sym e ∙ eq-eqb j k same)) in (
        o.0,
        slice_get-get_or ending j o.0 inside ∙ ap Some (get_or-set_other rows k j (record r { ended = true }) o.0 other) ∙ sym (slice_get-get_or rows j o.0 within) ∙ o.1,
        o.2,
      )

  stays_ending : Stays rows ending
  stays_ending = record { over = at } where
    at : (job : ℕ) → IsOver rows job → IsOver ending job
    at zero o = absurd (none-some o.0 o.1)
    at (suc j) o = stays_there j (j == k) refl o

stays_ended : (rows : List Row) (job : ℕ) → Stays rows (with_ended rows job)
stays_ended rows zero = stays_same rows
stays_ended rows (suc k) = of (slice_get rows k) where
  of : (found : Option Row) → Stays rows (elim found as (λ _. List Row) [ None ↦ rows | Some row ↦ slice_set rows k (record row { ended = true }) ])
  of None = stays_same rows
  of (Some row) = stays_ending rows k row

has_ended : (rows : List Row) (job : ℕ) (row : Row) → row_at rows job ≡ Some row → IsOver (with_ended rows job) job
has_ended rows zero row is = absurd (none-some row is)
has_ended rows (suc k) row is =
    subst (λ (o : Option Row). IsOver (elim o as (λ _. List Row) [ None ↦ rows | Some row ↦ slice_set rows k (record row { ended = true }) ]) (suc k)) (sym is) (ends_here rows k row row is)

-- ---- one ask

module _ (s : Shared) where
  abbrev Left : Option (Reply × Shared) → Type 0
  Left o = Stays s.rows (left_by s o).rows

  by_busy : (timeout : Option ℤ) → Left (busy s timeout true)
  by_busy timeout = subst (λ (x : Shared). Stays s.rows x.rows) (sym (left_busy s timeout true)) (stays_same s.rows)

  by_try : (job : ℕ) (names : List Name) (timeout : Option ℤ) (taken : Taken) (locks : Locks) → Left (tried s job names timeout true taken locks)
  by_try job names timeout takes.Got locks = stays_same s.rows
  by_try job names timeout (takes.Busy holder name) locks = by_busy timeout
  by_try job names timeout takes.Limit locks = stays_same s.rows

  by_free : (b : Bool) (job : ℕ) (name : List ℕ)
      → Left (Some (cond b (replies.Got, record s { devices = with_device s.devices name (opened_by job) }) (replies.NoSession, s)))
  by_free true job name = stays_same s.rows
  by_free false job name = stays_same s.rows

  by_held : (b : Bool) (timeout : Option ℤ) → Left (cond b (Some (replies.Got, s)) (busy s timeout true))
  by_held true timeout = stays_same s.rows
  by_held false timeout = by_busy timeout

  by_known : (job : ℕ) (name : List ℕ) (timeout : Option ℤ) (d : Device) (holder : Option ℕ)
      → Left (elim holder [ None ↦ Some (open_free s job name d) | Some h ↦ cond (h == job) (Some (replies.Got, s)) (busy s timeout true) ])
  by_known job name timeout d None = by_free (nat_lt d.taken d.sessions) job name
  by_known job name timeout d (Some h) = by_held (h == job) timeout

  by_found : (job : ℕ) (name : List ℕ) (timeout : Option ℤ) (found : Option Device)
      → Left (elim found [ None ↦ Some (replies.NoSession, s) | Some d ↦ open_known s job name timeout true d ])
  by_found job name timeout None = stays_same s.rows
  by_found job name timeout (Some d) = by_known job name timeout d d.holder

  by_name : (job : ℕ) (name : List ℕ) (timeout : Option ℤ) (b : Bool)
      → Left (cond b (Some (replies.Got, s)) (elim (device_at s.devices name) [ None ↦ Some (replies.NoSession, s) | Some d ↦ open_known s job name timeout true d ]))
  by_name job name timeout true = stays_same s.rows
  by_name job name timeout false = by_found job name timeout (device_at s.devices name)

  by_start : (b : Bool) (start : Started)
      → Left (Some (cond b (replies.Job (length s.rows + 1), record s { rows = s.rows ++ opened start ∷ []; transactions = s.transactions ++ None ∷ [] }) (replies.Limit, s)))
  by_start true start = stays_added s.rows (opened start ∷ [])
  by_start false start = stays_same s.rows

  by_shared : (job : ℕ) (ask : SharedAsk) → Left (answered s job ask true)
  by_shared job (shared_asks.Try names timeout) = by_try job names timeout (outcome_of s.locks job names) (after_try s.locks job names)
  by_shared job (shared_asks.Open name timeout) = by_name job name timeout (bytes_eq name principal)
  by_shared job (shared_asks.Start start timeout) = by_start (has_room s) start
  by_shared job (shared_asks.Halt fault) = stays_ended s.rows job
  by_shared job _ = stays_same s.rows

  by_ask : (job : ℕ) (ask : Ask) → Left (served s job ask true)
  by_ask job (asks.Shared ask) = by_shared job ask
  by_ask job _ = stays_same s.rows

-- ---- a history

stays_over : (s : Shared) (history : History) (job : ℕ) → IsOver s.rows job → IsOver (state_of s history).rows job
stays_over s [] job is = is
stays_over s (e ∷ history) job is = stays_over (after s e) history job ((by_ask s e.job e.ask).over job is)

-- behind the halt of a job its row has ended
over_at : (s : Shared) (e : Event) (fault : Option Fault) → IsLive s.rows e.job → e.ask ≡ asks.Shared (shared_asks.Halt fault) → IsOver (after s e).rows e.job
over_at s e fault live is =
    subst (λ a. IsOver (left_by s (served s e.job a true)).rows e.job) (sym is) (has_ended s.rows e.job live.0 live.1)

-- so it has where its events end in its halt
over_behind : (s : Shared) (job : ℕ) (history : History) → AllHappen s history
    → (earlier : Log) (fault : Option Fault) (r : Reply) → log_of job history ≡ earlier ++ (asks.Shared (shared_asks.Halt fault), r) ∷ [] → IsOver (state_of s history).rows job
over_behind s job [] happen [] fault r is = absurd cc
over_behind s job [] happen (x ∷ earlier) fault r is = absurd cc
over_behind s job (e ∷ history) happen earlier fault r is =
    by (e.job == job) refl earlier is (λ earlier is. over_behind (after s e) job history happen.1 earlier fault r is)
  where
    by : (b : Bool) → (e.job == job) ≡ b → (earlier : Log)
        → (if b then (e.ask, e.reply) ∷ log_of job history else log_of job history) ≡ earlier ++ (asks.Shared (shared_asks.Halt fault), r) ∷ []
        → ((earlier : Log) → log_of job history ≡ earlier ++ (asks.Shared (shared_asks.Halt fault), r) ∷ [] → IsOver (state_of (after s e) history).rows job)
        → IsOver (state_of (after s e) history).rows job
    by false same earlier is rest = rest earlier is
    by true same [] is rest =
        let first : (e.ask, e.reply) ≡ (asks.Shared (shared_asks.Halt fault), r) = cc in
        let asked : e.ask ≡ asks.Shared (shared_asks.Halt fault) = ap (λ (p : Ask × Reply). p.0) first in
        let here : IsOver (after s e).rows e.job = over_at s e fault happen.0.0 asked in
        let mine : e.job ≡ job = eqb→eq e.job job (subst T (sym same) tt) in
        stays_over (after s e) history job (subst (λ j. IsOver (after s e).rows j) mine here)
    by true same (x ∷ earlier) is rest = rest earlier (let tail : log_of job history ≡ earlier ++ (asks.Shared (shared_asks.Halt fault), r) ∷ [] = cc in tail)

-- a row that has ended isn't that of a job that goes on
not_live : (rows : List Row) (job : ℕ) → IsOver rows job → IsLive rows job → ⊥
not_live rows job over live =
    let one : live.0 ≡ over.0 = same_Some live.0 over.0 (sym live.1 ∙ over.1) in
    false≢true (sym live.2 ∙ ap (λ (r : Row). r.ended) one ∙ over.2)

pub has_halted : HasHalted
has_halted program opening history run job row there over =
    let last = halt_last program (start_in job row.start) (log_of job history) (run.traces job row there) over in
    (last, not_live (state_of opening history).rows job (over_behind opening job history run.happen last.0 last.1 last.2 last.3))
