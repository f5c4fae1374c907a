-- Rows that an event leaves.
use Rattle.std.specs.Prelude.{ℤ, ◌==◌, if◌then◌else◌, nat_lt, slice_get, slice_set}
use Rattle.std.specs.Str.{bytes_eq}
use Rattle.std.proofs.Common.{◌≡◌, ℕ, zero, suc, ◌+◌, ◌≤◌, List, [], ◌∷◌, ◌++◌, length, Bool, true, false, Option, Some, None, refl, sym, ap, ◌∙◌, subst, arith, length-append}
use Rattle.std.proofs.lemmas.List.{length-set}
use Rattle.std.proofs.lemmas.Option.{slice_get_within, none-some}
use Rattle.mj_ask.specs.Fits.{is_shared}
use Rattle.mj_ask.specs.Late.{is_timed_out}
use Rattle.mj_ask.specs.Started.{Started}
use Rattle.mj_ask.specs.declared.ask.Ask.{Ask}
use Rattle.mj_ask.specs.declared.ask.Ask.TheVariants as asks
use Rattle.mj_ask.specs.declared.ask.SharedAsk.{SharedAsk}
use Rattle.mj_ask.specs.declared.ask.SharedAsk.TheVariants as shared_asks
use Rattle.mj_ask.specs.declared.ask.Reply.{Reply}
use Rattle.mj_ask.specs.declared.ask.Reply.TheVariants as replies
use Rattle.mj_dev.specs.Shelves.{principal}
use Rattle.mj_jobs.specs.Rows.{Row, row_at, opened, with_ended, IsLive}
use Rattle.mj_locktab.specs.declared.taken.Taken.{Taken}
use Rattle.mj_locktab.specs.declared.taken.Taken.TheVariants as takes
use Rattle.mj_locktab.specs.Locks.{Locks}
use Rattle.mj_locktab.specs.Tries.{outcome_of, after_try}
use Rattle.mj_subs.specs.Name.{Name}
use Rattle.mj_sys.specs.declared.event.Event.{Event}
use Rattle.mj_sys.specs.Devices.{Device, device_at, with_device, opened_by}
use Rattle.mj_sys.specs.Shared.{Shared, busy, tried, open_free, open_known, has_room, answered, served}
use Rattle.mj_sys.specs.History.{History, after, state_of, IsServed, AreServed, log_of}
use Rattle.mj_core.proofs.Logs.{other_job}
use Rattle.mj_gather.specs.Rans.{is_halt}
use Rattle.mj_gather.specs.Merged.{made}
use Rattle.mj_gather.specs.Found.{more_if, made_in}

-- what a served ask does to the rows: it makes that row, or ends one, or leaves them
abbrev pub Goes : Option ℕ → Bool → List Row → List Row → Type 0
Goes None halts old new = (length new ≡ length old) × (halts ≡ false → new ≡ old)
Goes (Some job) halts old new = (job ≡ length old + 1) × (halts ≡ false) × ((start : Started) × (new ≡ old ++ opened start ∷ []))

abbrev Told : Type 0
Told = Option (Reply × Shared)

-- what is told leaves the rows
abbrev Same : Shared → Told → Type 0
Same s None = Unit {0}
Same s (Some x) = x.1.rows ≡ s.rows

module _ (s : Shared) where
  by_late : (b : Bool) → Same s (if b then Some (replies.Late, s) else None)
  by_late true = refl
  by_late false = tt

  by_busy : (timeout : Option ℤ) (late : Bool) → Same s (busy s timeout late)
  by_busy timeout late = by_late (is_timed_out timeout late)

  by_try : (job : ℕ) (names : List Name) (timeout : Option ℤ) (late : Bool) (taken : Taken) (locks : Locks) → Same s (tried s job names timeout late taken locks)
  by_try job names timeout late takes.Got locks = refl
  by_try job names timeout late (takes.Busy holder name) locks = by_busy timeout late
  by_try job names timeout late takes.Limit locks = refl

  by_free : (b : Bool) (job : ℕ) (name : List ℕ)
      → Same s (Some (if b then (replies.Got, record s { devices = with_device s.devices name (opened_by job) }) else (replies.NoSession, s)))
  by_free true job name = refl
  by_free false job name = refl

  by_held : (b : Bool) (timeout : Option ℤ) (late : Bool) → Same s (if b then Some (replies.Got, s) else busy s timeout late)
  by_held true timeout late = refl
  by_held false timeout late = by_busy timeout late

  by_known : (job : ℕ) (name : List ℕ) (timeout : Option ℤ) (late : Bool) (d : Device) (holder : Option ℕ)
      → Same s (elim holder [ None ↦ Some (open_free s job name d) | Some h ↦ if h == job then Some (replies.Got, s) else busy s timeout late ])
  by_known job name timeout late d None = by_free (nat_lt d.taken d.sessions) job name
  by_known job name timeout late d (Some h) = by_held (h == job) timeout late

  by_found : (job : ℕ) (name : List ℕ) (timeout : Option ℤ) (late : Bool) (found : Option Device)
      → Same s (elim found [ None ↦ Some (replies.NoSession, s) | Some d ↦ open_known s job name timeout late d ])
  by_found job name timeout late None = refl
  by_found job name timeout late (Some d) = by_known job name timeout late d d.holder

  by_name : (job : ℕ) (name : List ℕ) (timeout : Option ℤ) (late b : Bool)
      → Same s (if b then Some (replies.Got, s) else elim (device_at s.devices name) [ None ↦ Some (replies.NoSession, s) | Some d ↦ open_known s job name timeout late d ])
  by_name job name timeout late true = refl
  by_name job name timeout late false = by_found job name timeout late (device_at s.devices name)

-- what is told so leaves the rows
told_same : (s : Shared) (a : Ask) (o : Told) (r : Reply) (t : Shared) → made a r ≡ None → Same s o → o ≡ Some (r, t) → Goes (made a r) (is_halt a) s.rows t.rows
told_same s a o r t none same is =
    let e : t.rows ≡ s.rows = subst (λ x. Same s x) is same in
    let P : Option ℕ → Type 0 = λ m. Goes m (is_halt a) s.rows t.rows in
    subst P (sym none) (ap length e, λ h. e)

-- the reply and the rows of what is told
abbrev reply_in : Reply → Told → Reply
reply_in r None = r
reply_in r (Some x) = x.0

abbrev rows_in : List Row → Told → List Row
rows_in rows None = rows
rows_in rows (Some x) = x.1.rows

start_rows : (b : Bool) (s u t : Shared) (r : Reply) (start : Started) (timeout : Option ℤ) → u.rows ≡ s.rows ++ opened start ∷ []
    → Some (if◌then◌else◌ {A = Reply × Shared} b (replies.Job (length s.rows + 1), u) (replies.Limit, s)) ≡ Some (r, t)
    → Goes (made (asks.Shared (shared_asks.Start start timeout)) r) false s.rows t.rows
start_rows true s u t r start timeout rows e =
    let g : replies.Job (length s.rows + 1) ≡ r = ap (reply_in r) e in
    let P : Reply → Type 0 = λ x. Goes (made (asks.Shared (shared_asks.Start start timeout)) x) false s.rows t.rows in
    subst P g (refl, refl, (start, ap (rows_in s.rows) (sym e) ∙ rows))
start_rows false s u t r start timeout rows e =
    let g : replies.Limit ≡ r = ap (reply_in r) e in
    let P : Reply → Type 0 = λ x. Goes (made (asks.Shared (shared_asks.Start start timeout)) x) false s.rows t.rows in
    let h : t.rows ≡ s.rows = ap (rows_in s.rows) (sym e) in
    subst P g (ap length h, λ q. h)

ended_length : (rows : List Row) (job : ℕ) → length (with_ended rows job) ≡ length rows
ended_length rows zero = refl
ended_length rows (suc k) = of (slice_get rows k) where
  of : (found : Option Row) → length (elim found as (λ _. List Row) [ None ↦ rows | Some row ↦ slice_set rows k (record row { ended = true }) ]) ≡ length rows
  of None = refl
  of (Some row) = length-set rows k (record row { ended = true })

goes : (s : Shared) (job : ℕ) (a : SharedAsk) (late : Bool) (r : Reply) (t : Shared) → answered s job a late ≡ Some (r, t)
    → Goes (made (asks.Shared a) r) (is_halt (asks.Shared a)) s.rows t.rows
goes s job (shared_asks.Try names timeout) late r t e =
    told_same s (asks.Shared (shared_asks.Try names timeout)) (answered s job (shared_asks.Try names timeout) late) r t refl
    (by_try s job names timeout late (outcome_of s.locks job names) (after_try s.locks job names)) e
goes s job (shared_asks.Open name timeout) late r t e =
    told_same s (asks.Shared (shared_asks.Open name timeout)) (answered s job (shared_asks.Open name timeout) late) r t refl
    (by_name s job name timeout late (bytes_eq name principal)) e
goes s job (shared_asks.Start start timeout) late r t e =
    start_rows (has_room s) s (record s { rows = s.rows ++ opened start ∷ []; transactions = s.transactions ++ None ∷ [] }) t r start timeout refl e
goes s job (shared_asks.Halt fault) late r t e =
    let f : t.rows ≡ with_ended s.rows job = ap (rows_in s.rows) (sym e) in
    (ap length f ∙ ended_length s.rows job, λ h. absurd (let no : true ≡ false = h in cc))
goes s job a late r t e = told_same s (asks.Shared a) (answered s job a late) r t refl refl e

-- what an event does to them
pub goes_after : (s : Shared) (e : Event) → IsServed s e → Goes (made e.ask e.reply) (is_halt e.ask) s.rows (after s e).rows
goes_after s e is = by e.ask is.1 is.2.1 where
  by : (a : Ask) → is_shared a ≡ true → served s e.job a is.2.0 ≡ Some (e.reply, after s e) → Goes (made a e.reply) (is_halt a) s.rows (after s e).rows
  by (asks.Shared a) shared told = goes s e.job a is.2.0 e.reply (after s e) told
  by (asks.Device name a) shared told = absurd (none-some (e.reply, after s e) told)
  by (asks.Rest time) shared told = absurd (none-some (e.reply, after s e) told)

-- ---- jobs with a row

-- a row that is there stays, where one more is made
get_more : (rows more : List Row) (k : ℕ) (row : Row) → slice_get rows k ≡ Some row → slice_get (rows ++ more) k ≡ Some row
get_more [] more k row is = absurd (none-some row is)
get_more (r ∷ rows) more zero row is = is
get_more (r ∷ rows) more (suc k) row is = get_more rows more k row is

row_more : (rows more : List Row) (job : ℕ) (row : Row) → row_at rows job ≡ Some row → row_at (rows ++ more) job ≡ Some row
row_more rows more zero row is = absurd (none-some row is)
row_more rows more (suc k) row is = get_more rows more k row is

get_last : (rows : List Row) (row : Row) → slice_get (rows ++ row ∷ []) (length rows) ≡ Some row
get_last [] row = refl
get_last (r ∷ rows) row = get_last rows row

-- a job with a row is one of so many
pub within : (rows : List Row) (job : ℕ) (row : Row) → row_at rows job ≡ Some row → (1 ≤ job) × (job ≤ length rows)
within rows zero row is = absurd (none-some row is)
within rows (suc k) row is = let w = slice_get_within rows k row is in (omega arith, omega (arith, w))

-- and each of so many has one
pub row_there : (rows : List Row) (job : ℕ) → 1 ≤ job → job ≤ length rows → (row : Row) × (row_at rows job ≡ Some row)
row_there rows zero some below = absurd (omega (arith, some))
row_there rows (suc k) some below = by rows k (omega (arith, below)) where
  by : (rows : List Row) (k : ℕ) → suc k ≤ length rows → (row : Row) × (slice_get rows k ≡ Some row)
  by [] k below = absurd (omega (arith, below))
  by (r ∷ rows) zero below = (r, refl)
  by (r ∷ rows) (suc k) below = by rows k (omega (arith, below))

-- the job whose ask was served is live still, if it didn't halt
pub live_still : (s t : Shared) (job : ℕ) (m : Option ℕ) → IsLive s.rows job → Goes m false s.rows t.rows → IsLive t.rows job
live_still s t job None live goes = subst (λ rows. IsLive rows job) (sym (goes.1 refl)) live
live_still s t job (Some other) live goes =
    subst (λ rows. IsLive rows job) (sym goes.2.1) (live.0, row_more s.rows (opened goes.2.0 ∷ []) job live.0 live.1, live.2)

-- and the job whose row it made is live
pub live_made : (s t : Shared) (job : ℕ) (halts : Bool) → Goes (Some job) halts s.rows t.rows → IsLive t.rows job
live_made s t job halts goes =
    let n : job ≡ suc (length s.rows) = goes.0 ∙ (let p : length s.rows + 1 ≡ suc (length s.rows) = omega arith in p) in
    subst (λ rows. IsLive rows job) (sym goes.2.1)
    (subst (λ k. IsLive (s.rows ++ opened goes.2.0 ∷ []) k) (sym n) (opened goes.2.0, get_last s.rows (opened goes.2.0), refl))

-- ---- how many there are

goes_length : (m : Option ℕ) (halts : Bool) (old new : List Row) (n : ℕ) → Goes m halts old new → length new + n ≡ length old + more_if m n
goes_length None halts old new n goes = ap (λ k. k + n) goes.0
goes_length (Some job) halts old new n goes =
    let e : length new ≡ length old + 1 = ap length goes.2.1 ∙ length-append old (opened goes.2.0 ∷ []) in
    omega (arith, e)

-- a history has as many rows more as it made
pub rows_grow : (s : Shared) (history : History) → AreServed s history → length (state_of s history).rows ≡ length s.rows + made_in history
rows_grow s [] all = omega arith
rows_grow s (e ∷ history) all =
    rows_grow (after s e) history all.1 ∙ goes_length (made e.ask e.reply) (is_halt e.ask) s.rows (after s e).rows (made_in history) (goes_after s e all.0)

-- a job without a row has no event
pub none_past : (s : Shared) (history : History) → AreServed s history → (job : ℕ) → (1 ≤ job → job ≤ length (state_of s history).rows → ⊥) → log_of job history ≡ []
none_past s [] all job none = refl
none_past s (e ∷ history) all job none =
    let grow = rows_grow s (e ∷ history) all in
    let mine = within s.rows e.job all.0.0.0 all.0.0.1 in
    ap (λ b. if◌then◌else◌ {A = List (Ask × Reply)} b ((e.ask, e.reply) ∷ log_of job history) (log_of job history))
    (other_job e.job job (λ q. none (omega (arith, mine.0, q)) (omega (arith, grow, mine.1, q))))
    ∙ none_past (after s e) history all.1 job none
