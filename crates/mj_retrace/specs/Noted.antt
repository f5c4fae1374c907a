-- What is noted of an event: who holds which names behind it, and who held which before.
use Rattle.std.specs.Prelude.{ℕ, nat_lt, ◌==◌, Bool, true, false, not, ◌&&◌, List, [], ◌∷◌, ◌++◌, if◌then◌else◌}
use Rattle.std.specs.List.{filter, list_any}
use Rattle.mj_subs.specs.Name.{Name, names_eq}
use Rattle.mj_ask.specs.declared.ask.Ask.{Ask}
use Rattle.mj_ask.specs.declared.ask.Ask.TheVariants as asks
use Rattle.mj_ask.specs.declared.ask.SharedAsk.TheVariants as shared_asks
use Rattle.mj_ask.specs.declared.ask.Reply.{Reply}
use Rattle.mj_locktab.specs.Locks.{Locks, count_of}
use Rattle.mj_retrace.specs.Retraced.{locked_by}

-- a job, a name that it holds, and the place of the event by which it came to hold it; and that of the event behind which it doesn't hold it
abbrev pub Note : Type 0
Note = ℕ × Name × ℕ

abbrev pub Gone : Type 0
Gone = ℕ × Name × ℕ × ℕ

-- whether an ask may change who holds what: any that all jobs share, but those of which it is known that they don't
abbrev pub changes_locks : Ask → Bool
changes_locks (asks.Shared (shared_asks.Access access)) = false
changes_locks (asks.Shared (shared_asks.Begin kind)) = false
changes_locks (asks.Shared (shared_asks.Open name timeout)) = false
changes_locks (asks.Shared (shared_asks.Close name)) = false
changes_locks (asks.Shared (shared_asks.Start start timeout)) = false
changes_locks (asks.Shared _) = true
changes_locks _ = false

-- whether what is noted is held still
abbrev pub is_held : Locks → Note → Bool
is_held locks h = nat_lt 0 (count_of locks h.0 h.1)

-- whether it is noted that a job holds a name
abbrev pub is_noted : List Note → ℕ → Name → Bool
is_noted holds job name = list_any (λ h. (h.0 == job) && names_eq h.1 name) holds

-- a name is noted that a job holds, if it wasn't
abbrev pub with_name : Locks → ℕ → ℕ → Name → List Note → List Note
with_name locks job place name holds =
    if nat_lt 0 (count_of locks job name) && not (is_noted holds job name) then holds ++ (job, name, place) ∷ [] else holds

-- and each of these names
abbrev pub with_names : Locks → ℕ → ℕ → List Name → List Note → List Note
with_names locks job place [] holds = holds
with_names locks job place (name ∷ names) holds = with_names locks job place names (with_name locks job place name holds)

-- what is noted behind an event of a job: what is held of what was noted, and the names that were locked by it, where it may change who holds what
abbrev pub noted : Locks → ℕ → Ask → Reply → ℕ → List Note → List Note
noted locks job ask reply place holds =
    if changes_locks ask then with_names locks job place (locked_by ask reply) (filter (is_held locks) holds) else holds

-- what isn't held any more behind the event at a place
abbrev pub gone_of : Bool → ℕ → Note → List Gone
gone_of true place h = []
gone_of false place h = (h.0, h.1, h.2, place) ∷ []

abbrev pub gone : Locks → ℕ → List Note → List Gone
gone locks place [] = []
gone locks place (h ∷ holds) = gone_of (is_held locks h) place h ++ gone locks place holds
