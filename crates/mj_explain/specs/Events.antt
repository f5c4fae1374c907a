-- What the events of a trace are: which begin and end transactions, which read, and which write.
use Rattle.std.specs.Prelude.{◌≡◌, ℕ, suc, ◌==◌, Bool, true, false, not, ◌&&◌, ◌||◌, List, [], ◌∷◌, length, take, slice_get, Option, Some, None, if◌then◌else◌}
use Rattle.std.specs.Option.{is_some}
use Rattle.mj_subs.specs.Name.{Name, names_eq}
use Rattle.mj_store.specs.Questions.{rest_of, same_word}
use Rattle.mj_store.specs.Runs.{name_of}
use Rattle.mj_store.specs.declared.access.Access.{Access}
use Rattle.mj_store.specs.declared.access.Access.TheVariants as accesses
use Rattle.mj_ask.specs.Fits.{gives_up, is_done}
use Rattle.mj_ask.specs.Keeping.{is_limit}
use Rattle.mj_ask.specs.declared.ask.Ask.{Ask}
use Rattle.mj_ask.specs.declared.ask.Ask.TheVariants as asks
use Rattle.mj_ask.specs.declared.ask.SharedAsk.TheVariants as shared_asks
use Rattle.mj_ask.specs.declared.ask.Reply.{Reply}
use Rattle.mj_ask.specs.declared.ask.Reply.TheVariants as replies
use Rattle.mj_ask.specs.declared.noted.Noted.{Noted}
use Rattle.mj_txlog.specs.Accesses.{is_write}
use Rattle.mj_explain.specs.Looks.{stands_along}

-- ---- transactions

-- Where the transaction began that a job has open behind an ask of its, by the place of that and by what it had open before. The outermost TSTART begins one;
-- a commit, be it done or not, a rollback and the job's end end it.
abbrev pub began_after : ℕ → Option ℕ → Ask → Option ℕ
began_after place None (asks.Shared (shared_asks.Begin kind)) = Some place
began_after place None _ = None
began_after place (Some b) (asks.Shared shared_asks.Commit) = None
began_after place (Some b) (asks.Shared shared_asks.Rollback) = None
began_after place (Some b) (asks.Shared (shared_asks.Halt fault)) = None
began_after place (Some b) _ = Some b

-- and behind one event of whichever job
abbrev pub began_behind : ℕ → ℕ → Option ℕ → Noted → Option ℕ
began_behind job place began e = if e.job == job then began_after place began e.ask else began

-- and behind all events, of which the first stands at this place
abbrev pub began_from : ℕ → ℕ → Option ℕ → List Noted → Option ℕ
began_from job place began [] = began
began_from job place began (e ∷ es) = began_from job (suc place) (began_behind job place began e) es

-- where the transaction began that a job has open behind these events, if it has one
abbrev pub began_by : ℕ → List Noted → Option ℕ
began_by job es = began_from job 0 None es

-- for each event where the transaction began that its job has open before it, if it has one
pub record AreBegins (es : List Noted) (begins : List (Option ℕ)) : Type 0 where
  pub each : length begins ≡ length es
  pub is : (k : ℕ) (e : Noted) → slice_get es k ≡ Some e → slice_get begins k ≡ Some (began_by e.job (take k es))

-- ---- accesses

-- a change of a global
abbrev pub is_change : Access → Bool
is_change a = is_write a && (name_of a).global

-- the access that an event is, if it is one that passed no limit
abbrev pub access_in : Ask → Reply → Option Access
access_in (asks.Shared (shared_asks.Access a)) (replies.Answer v) = if is_limit v then None else Some a
access_in _ _ = None

-- an access, if there is one that is a change
abbrev pub change_among : Option Access → Option Access
change_among None = None
change_among (Some a) = if is_change a then Some a else None

-- the change of a global that an event is, if it is one
abbrev pub change_in : Ask → Reply → Option Access
change_in ask reply = change_among (access_in ask reply)

-- whether there is an access that a transaction counts: a read, or a change of a global
abbrev pub is_counted_access : Option Access → Bool
is_counted_access None = false
is_counted_access (Some a) = is_change a || not (is_write a)

-- whether an unlock was done, which waits for the commit of a transaction
abbrev pub is_unlock : Ask → Reply → Bool
is_unlock ask reply = is_some (gives_up ask) && is_done reply

-- whether an event is one of the accesses of a transaction, which counts reads, changes and unlocks
abbrev pub is_counted : Ask → Reply → Bool
is_counted ask reply = is_counted_access (access_in ask reply) || is_unlock ask reply

-- whether a commit was done
abbrev pub is_commit : Ask → Reply → Bool
is_commit (asks.Shared shared_asks.Commit) replies.Done = true
is_commit _ _ = false

-- whether an access, if there is one, gives a name a text
abbrev pub sets : Name → Option Access → Bool
sets n (Some (accesses.Set m text)) = names_eq m n
sets n _ = false

-- Whether an access may tell of the text that a name has, or change it. `$ORDER` may tell of the names along which it looks, and of those below them, `$QUERY` of
-- each name with the same word; all others but the reading and the setting of a text tell of a name or change it only where they are of it, or of one above it.
abbrev pub touches : Name → Access → Bool
touches n (accesses.Value m) = names_eq m n
touches n (accesses.Set m text) = names_eq m n
touches n (accesses.Order m way) = stands_along n m m.subscripts
touches n (accesses.Query m) = same_word m n
touches n a = is_some (rest_of (name_of a) n)

-- whether what is asked is such an access, be it answered as it may
abbrev pub asks_of : Name → Ask → Bool
asks_of n (asks.Shared (shared_asks.Access a)) = touches n a
asks_of n _ = false

-- ---- at a place

-- the change of a global that the event at a place is, if it is one
abbrev pub change_of : Option Noted → Option Access
change_of None = None
change_of (Some e) = change_in e.ask e.reply

abbrev pub change_at : List Noted → ℕ → Option Access
change_at es k = change_of (slice_get es k)

-- whether it is one of a job
abbrev pub is_change_of : ℕ → Option Noted → Bool
is_change_of job None = false
is_change_of job (Some e) = (e.job == job) && is_some (change_in e.ask e.reply)

-- whether it is one of the accesses that a transaction of a job counts
abbrev pub is_counted_of : ℕ → Option Noted → Bool
is_counted_of job None = false
is_counted_of job (Some e) = (e.job == job) && is_counted e.ask e.reply

-- whether a job gives a name a text there
abbrev pub is_set_of : ℕ → Name → Option Noted → Bool
is_set_of job n None = false
is_set_of job n (Some e) = (e.job == job) && sets n (change_in e.ask e.reply)

-- whether a job has an access there that may tell of the text of a name, or change it
abbrev pub is_touch_of : ℕ → Name → Option Noted → Bool
is_touch_of job n None = false
is_touch_of job n (Some e) = (e.job == job) && asks_of n e.ask
