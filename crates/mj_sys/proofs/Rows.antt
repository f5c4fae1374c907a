-- Rows keep their starts, whatever is served; and what is left, logged and counted of two histories that are joined.
use Rattle.std.proofs.Common.{◌≡◌, ℕ, zero, suc, ◌+◌, ◌<◌, List, [], ◌∷◌, ◌++◌, length, get_or, Bool, true, false, cond, Option, Some, None, refl, sym, ap, ◌∙◌, subst, arith, length-append, eqb→eq}
use Rattle.std.specs.Prelude.{ℤ, T, ◌==◌, slice_get, slice_set, if◌then◌else◌}
use Rattle.std.specs.Str.{bytes_eq}
use Rattle.std.proofs.Math.ListN.{get_or-append}
use Rattle.std.proofs.lemmas.Option.{slice_get-get_or, slice_get_within, none-some, same_Some}
use Rattle.std.proofs.lemmas.List.{length-set, get_or-set_same, get_or-set_other}
use Rattle.std.proofs.lemmas.List.Sums.{sum_by-append}
use Rattle.mj_ask.specs.Started.{Started}
use Rattle.mj_ask.specs.declared.ask.Ask.{Ask}
use Rattle.mj_ask.specs.declared.ask.Ask.TheVariants as asks
use Rattle.mj_ask.specs.declared.ask.SharedAsk.{SharedAsk}
use Rattle.mj_ask.specs.declared.ask.SharedAsk.TheVariants as shared_asks
use Rattle.mj_ask.specs.declared.ask.Reply.{Reply}
use Rattle.mj_ask.specs.declared.ask.Reply.TheVariants as replies
use Rattle.mj_dev.specs.Shelves.{principal}
use Rattle.mj_jobs.specs.Rows.{Row, row_at, opened, with_ended}
use Rattle.mj_locktab.specs.declared.taken.Taken.{Taken}
use Rattle.mj_locktab.specs.declared.taken.Taken.TheVariants as takes
use Rattle.mj_locktab.specs.Locks.{Locks}
use Rattle.mj_locktab.specs.Tries.{outcome_of, after_try}
use Rattle.mj_subs.specs.Name.{Name}
use Rattle.mj_sys.specs.declared.event.Event.{Event}
use Rattle.mj_sys.specs.Devices.{Device, device_at, with_device, opened_by}
use Rattle.mj_sys.specs.Shared.{Shared, busy, tried, open_free, open_known, has_room, answered, served}
use Rattle.mj_sys.specs.History.{History, left_by, after, state_of, AreServed, events_of, log_of}
use Rattle.mj_sys.specs.System.{KeepsRows}
use Rattle.mj_sys.proofs.Opens.{same_job}
use Rattle.mj_sys.proofs.Replays.{left_busy, yes_no}
use Rattle.std.specs.Prelude.{nat_lt}

keeps_same : (rows : List Row) → KeepsRows rows rows
keeps_same rows = record { more = omega arith; starts = λ job row is. (row, is, refl) }

keeps_on : (old mid new : List Row) → KeepsRows old mid → KeepsRows mid new → KeepsRows old new
keeps_on old mid new one two = record {
  more = let a = one.more in let b = two.more in omega (arith, a, b);
  starts = λ job row is.
      let m = one.starts job row is in
      let n = two.starts job m.0 m.1 in
      (n.0, n.1, n.2 ∙ m.2);
}

-- ---- a row more

get_on : {X : Type 0} (xs ys : List X) (k : ℕ) (x : X) → slice_get xs k ≡ Some x → slice_get (xs ++ ys) k ≡ Some x
get_on xs ys k x is =
    let within = slice_get_within xs k x is in
    let long = length-append xs ys in
    let inside : k < length (xs ++ ys) = omega (arith, within, long) in
    slice_get-get_or (xs ++ ys) k x inside ∙ ap Some (get_or-append xs ys x k within) ∙ sym (slice_get-get_or xs k x within) ∙ is

added : (rows more : List Row) → KeepsRows rows (rows ++ more)
added rows more = record {
  more = let long = length-append rows more in omega (arith, long);
  starts = λ job row is. (row, at job row is, refl);
} where
  at : (job : ℕ) (row : Row) → row_at rows job ≡ Some row → row_at (rows ++ more) job ≡ Some row
  at zero row is = absurd (none-some row is)
  at (suc k) row is = get_on rows more k row is

-- ---- a row that ends

differ : (i k : ℕ) → (i == k) ≡ false → i ≡ k → ⊥
differ i k e same = yes_no (sym (same_job i k same) ∙ e)

module _ (rows : List Row) (k : ℕ) (r : Row) (there : slice_get rows k ≡ Some r) where
  abbrev ending : List Row
  ending = slice_set rows k (record r { ended = true })

  read : (j : ℕ) (row : Row) (b : Bool) → (j == k) ≡ b → slice_get rows j ≡ Some row
      → (row' : Row) × (slice_get ending j ≡ Some row') × (row'.start ≡ row.start)
  read j row true e is =
      let within = slice_get_within rows j row is in
      let long = length-set rows k (record r { ended = true }) in
      let inside : j < length ending = omega (arith, long, within) in
      let same : j ≡ k = eqb→eq j k (subst T (sym e) tt) in
      let r' : Row = record r { ended = true } in
      let one : row ≡ r = same_Some row r (sym is ∙ ap (λ i. slice_get rows i) same ∙ there) in (
        r',
        slice_get-get_or ending j r' inside ∙ ap Some (ap (λ i. get_or ending i r') same ∙ get_or-set_same rows k r' r' (subst (λ i. i < length rows) same within)),
        ap (λ (x : Row). x.start) (sym one),
      )
  read j row false e is =
      let within = slice_get_within rows j row is in
      let long = length-set rows k (record r { ended = true }) in
      let inside : j < length ending = omega (arith, long, within) in (
        row,
        slice_get-get_or ending j row inside
            ∙ ap Some (get_or-set_other rows k j (record r { ended = true }) row (differ j k e)) ∙ sym (slice_get-get_or rows j row within) ∙ is,
        refl,
      )

  read_row : (job : ℕ) (row : Row) → row_at rows job ≡ Some row → (row' : Row) × (row_at ending job ≡ Some row') × (row'.start ≡ row.start)
  read_row zero row is = absurd (none-some row is)
  read_row (suc j) row is = read j row (j == k) refl is

  ended_row : KeepsRows rows ending
  ended_row = record {
    more = let long = length-set rows k (record r { ended = true }) in omega (arith, long);
    starts = read_row;
  }

ended : (rows : List Row) (job : ℕ) → KeepsRows rows (with_ended rows job)
ended rows zero = keeps_same rows
ended rows (suc k) = of (slice_get rows k) refl where
  of : (found : Option Row) → slice_get rows k ≡ found
      → KeepsRows rows (elim found as (λ _. List Row) [ None ↦ rows | Some row ↦ slice_set rows k (record row { ended = true }) ])
  of None is = keeps_same rows
  of (Some row) is = ended_row rows k row is

-- ---- one ask

module _ (s : Shared) where
  abbrev Left : Option (Reply × Shared) → Type 0
  Left o = KeepsRows s.rows (left_by s o).rows

  by_busy : (timeout : Option ℤ) → Left (busy s timeout true)
  by_busy timeout = subst (λ (x : Shared). KeepsRows s.rows x.rows) (sym (left_busy s timeout true)) (keeps_same s.rows)

  by_try : (job : ℕ) (names : List Name) (timeout : Option ℤ) (taken : Taken) (locks : Locks) → Left (tried s job names timeout true taken locks)
  by_try job names timeout takes.Got locks = keeps_same s.rows
  by_try job names timeout (takes.Busy holder name) locks = by_busy timeout
  by_try job names timeout takes.Limit locks = keeps_same s.rows

  by_free : (b : Bool) (job : ℕ) (name : List ℕ)
      → Left (Some (cond b (replies.Got, record s { devices = with_device s.devices name (opened_by job) }) (replies.NoSession, s)))
  by_free true job name = keeps_same s.rows
  by_free false job name = keeps_same s.rows

  by_held : (b : Bool) (timeout : Option ℤ) → Left (cond b (Some (replies.Got, s)) (busy s timeout true))
  by_held true timeout = keeps_same s.rows
  by_held false timeout = by_busy timeout

  by_known : (job : ℕ) (name : List ℕ) (timeout : Option ℤ) (d : Device) (holder : Option ℕ)
      → Left (elim holder [ None ↦ Some (open_free s job name d) | Some h ↦ cond (h == job) (Some (replies.Got, s)) (busy s timeout true) ])
  by_known job name timeout d None = by_free (nat_lt d.taken d.sessions) job name
  by_known job name timeout d (Some h) = by_held (h == job) timeout

  by_found : (job : ℕ) (name : List ℕ) (timeout : Option ℤ) (found : Option Device)
      → Left (elim found [ None ↦ Some (replies.NoSession, s) | Some d ↦ open_known s job name timeout true d ])
  by_found job name timeout None = keeps_same s.rows
  by_found job name timeout (Some d) = by_known job name timeout d d.holder

  by_name : (job : ℕ) (name : List ℕ) (timeout : Option ℤ) (b : Bool)
      → Left (cond b (Some (replies.Got, s)) (elim (device_at s.devices name) [ None ↦ Some (replies.NoSession, s) | Some d ↦ open_known s job name timeout true d ]))
  by_name job name timeout true = keeps_same s.rows
  by_name job name timeout false = by_found job name timeout (device_at s.devices name)

  by_start : (b : Bool) (start : Started)
      → Left (Some (cond b (replies.Job (length s.rows + 1), record s { rows = s.rows ++ opened start ∷ []; transactions = s.transactions ++ None ∷ [] })
      (replies.Limit, s)))
  by_start true start = added s.rows (opened start ∷ [])
  by_start false start = keeps_same s.rows

  by_shared : (job : ℕ) (ask : SharedAsk) → Left (answered s job ask true)
  by_shared job (shared_asks.Try names timeout) = by_try job names timeout (outcome_of s.locks job names) (after_try s.locks job names)
  by_shared job (shared_asks.Open name timeout) = by_name job name timeout (bytes_eq name principal)
  by_shared job (shared_asks.Start start timeout) = by_start (has_room s) start
  by_shared job (shared_asks.Halt fault) = ended s.rows job
  by_shared job _ = keeps_same s.rows

  by_ask : (job : ℕ) (ask : Ask) → Left (served s job ask true)
  by_ask job (asks.Shared ask) = by_shared job ask
  by_ask job _ = keeps_same s.rows

-- ---- a history

-- rows keep their starts, whatever happens
pub rows_kept : (s : Shared) (history : History) → KeepsRows s.rows (state_of s history).rows
rows_kept s [] = keeps_same s.rows
rows_kept s (e ∷ history) = keeps_on s.rows (after s e).rows (state_of (after s e) history).rows (by_ask s e.job e.ask) (rows_kept (after s e) history)

-- what a history leaves, and another after it
pub state_of_append : (s : Shared) (history more : History) → state_of s (history ++ more) ≡ state_of (state_of s history) more
state_of_append s [] more = refl
state_of_append s (e ∷ history) more = state_of_append (after s e) history more

-- what a job's log is of both
pub log_of_append : (job : ℕ) (history more : History) → log_of job (history ++ more) ≡ log_of job history ++ log_of job more
log_of_append job [] more = refl
log_of_append job (e ∷ history) more = by (e.job == job) (log_of_append job history more) where
  by : (b : Bool) → log_of job (history ++ more) ≡ log_of job history ++ log_of job more
      → (if b then (e.ask, e.reply) ∷ log_of job (history ++ more) else log_of job (history ++ more))
      ≡ (if b then (e.ask, e.reply) ∷ log_of job history else log_of job history) ++ log_of job more
  by true rest = ap (λ l. (e.ask, e.reply) ∷ l) rest
  by false rest = rest

-- how many events it has in both
pub events_of_append : (job : ℕ) (history more : History) → events_of job (history ++ more) ≡ events_of job history + events_of job more
events_of_append job history more = sum_by-append (λ (x : Event). cond (x.job == job) 1 0) history more

-- both are served where the one is, and the other after it
pub are_served_append : (s : Shared) (history more : History) → AreServed s history → AreServed (state_of s history) more → AreServed s (history ++ more)
are_served_append s [] more one two = two
are_served_append s (e ∷ history) more one two = (one.0, are_served_append (after s e) history more one.1 two)
