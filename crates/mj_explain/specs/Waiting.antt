-- Jobs that wait for each other.
use Rattle.std.specs.Prelude.{ℕ, Bool, true, false, not, ◌&&◌, ◌==◌, List, [], ◌∷◌, slice_get, Option, Some, None}
use Rattle.std.specs.List.{list_any}
use Rattle.mj_subs.specs.Name.{Name, overlaps}
use Rattle.mj_ask.specs.declared.ask.Ask.{Ask}
use Rattle.mj_ask.specs.declared.ask.Ask.TheVariants as asks
use Rattle.mj_ask.specs.declared.ask.SharedAsk.TheVariants as shared_asks
use Rattle.mj_explain.specs.declared.cycles.Wait.{Wait}

-- what a job asks for that goes on, and has no reply yet
abbrev pub Asked : Type 0
Asked = ℕ × Ask

-- a name that a job holds, and the place of the event by which it came to hold it
abbrev pub Hold : Type 0
Hold = ℕ × Name × ℕ

-- the name of this number among those that an ask wants to lock, where it waits for ever
abbrev pub wanted : Ask → ℕ → Option Name
wanted (asks.Shared (shared_asks.Try names None)) k = slice_get names k
wanted _ k = None

abbrev pub wanted_by : Option Asked → ℕ → Option Name
wanted_by None k = None
wanted_by (Some a) k = wanted a.1 k

-- a name overlaps one that another job holds
abbrev pub is_held : ℕ → Option Name → Option Hold → Bool
is_held job (Some n) (Some h) = not (h.0 == job) && overlaps h.1 n
is_held job _ _ = false

-- the job that asks
abbrev pub job_of : Option Asked → Option ℕ
job_of None = None
job_of (Some a) = Some a.0

abbrev pub asker : List Asked → Wait → Option ℕ
asker asked w = job_of (slice_get asked w.ask)

-- the job that holds
abbrev pub holder_of : Option Hold → Option ℕ
holder_of None = None
holder_of (Some h) = Some h.0

abbrev pub holder : List Hold → Wait → Option ℕ
holder holds w = holder_of (slice_get holds w.hold)

-- whether two are there and are the same job
abbrev pub is_same_job : Option ℕ → Option ℕ → Bool
is_same_job (Some a) (Some b) = a == b
is_same_job _ _ = false

-- whether the job of an ask waits for a name that another holds
abbrev pub is_kept_by : Option Asked → ℕ → Option Hold → Bool
is_kept_by None name h = false
is_kept_by (Some a) name h = is_held a.0 (wanted a.1 name) h

abbrev pub is_wait : List Asked → List Hold → Wait → Bool
is_wait asked holds w = is_kept_by (slice_get asked w.ask) w.name (slice_get holds w.hold)

-- whether each waits, the first for the second and so on, and the last for the job of this wait
abbrev pub are_round : List Asked → List Hold → Wait → List Wait → Bool
are_round asked holds first [] = false
are_round asked holds first (w ∷ []) = is_wait asked holds w && is_same_job (holder holds w) (asker asked first)
are_round asked holds first (w ∷ v ∷ ws) = is_wait asked holds w && is_same_job (holder holds w) (asker asked v) && are_round asked holds first (v ∷ ws)

-- whether the job of a wait is one of those of others
abbrev pub is_among : List Asked → Wait → List Wait → Bool
is_among asked w ws = list_any (λ v. is_same_job (asker asked v) (asker asked w)) ws

-- whether no job waits twice
abbrev pub are_apart : List Asked → List Wait → Bool
are_apart asked [] = true
are_apart asked (w ∷ ws) = not (is_among asked w ws) && are_apart asked ws

-- whether these waits are a deadlock: each job waits for the next, and the last for the first, so that none of them goes on. No job is in it twice
abbrev pub is_deadlock : List Asked → List Hold → List Wait → Bool
is_deadlock asked holds [] = false
is_deadlock asked holds (w ∷ ws) = are_round asked holds w (w ∷ ws) && are_apart asked (w ∷ ws)
