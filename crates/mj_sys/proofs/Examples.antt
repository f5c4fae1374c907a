-- What asks of two jobs are told, and what they leave.
use Rattle.std.proofs.Common.{◌≡◌, ℕ, zero, suc, Bool, true, false, List, [], ◌∷◌, Option, Some, None, refl}
use Rattle.std.specs.Prelude.{ℤ, pos, codes}
use Rattle.mj_subs.specs.Name.{Name}
use Rattle.mj_store.specs.declared.access.Access.TheVariants as accesses
use Rattle.mj_store.specs.declared.access.Answer.TheVariants as answers
use Rattle.mj_store.specs.declared.store.Direction.TheVariants as directions
use Rattle.mj_ask.specs.Started.{Started}
use Rattle.mj_ask.specs.declared.ask.Ask.TheVariants as asks
use Rattle.mj_ask.specs.declared.ask.SharedAsk.{SharedAsk}
use Rattle.mj_ask.specs.declared.ask.SharedAsk.TheVariants as shared_asks
use Rattle.mj_ask.specs.declared.ask.Kind.TheVariants as kinds
use Rattle.mj_ask.specs.declared.clash.Kept.TheVariants as kepts
use Rattle.mj_ask.specs.declared.ask.Reply.{Reply}
use Rattle.mj_ask.specs.declared.ask.Reply.TheVariants as replies
use Rattle.mj_locktab.specs.Locks.{count_of}
use Rattle.mj_jobs.specs.Rows.{Row}
use Rattle.mj_dev.specs.Shelves.{principal}
use Rattle.mj_sys.specs.Devices.{Device, holder_of}
use Rattle.mj_sys.specs.Shared.{Shared, answered}
use Rattle.mj_sys.specs.declared.event.Event.{Event}
use Rattle.mj_sys.specs.History.{History, left_by, state_of, AreServed, log_of, events_of}

-- a global of the word w with subscripts p
abbrev global : List ℕ → List (List ℕ) → Name
global w p = record { global = true; word = w; subscripts = p }

abbrev a : Name
a = global (codes "A") []

abbrev a1 : Name
a1 = global (codes "A") (codes "1" ∷ [])

abbrev b : Name
b = global (codes "B") []

abbrev x : Name
x = record { global = false; word = codes "X"; subscripts = [] }

-- a job that starts at the first line of MAIN
abbrev main : Started
main = record { entry = record { label = None; routine = codes "MAIN" }; values = [] }

abbrev running : Row
running = record { start = main; ended = false }

abbrev device : List ℕ → ℕ → Device
device name sessions = record { name = name; sessions = sessions; taken = 0; holder = None }

-- two jobs, three principal sessions, and two sessions of a device
abbrev first : Shared
first = record { globals = []; locks = []; devices = device principal 3 ∷ device (codes "9") 2 ∷ []; rows = running ∷ running ∷ []; transactions = None ∷ None ∷ [] }

-- what a job is told
abbrev told : Shared → ℕ → SharedAsk → Bool → Option Reply
told s job ask late = elim (answered s job ask late) [ None ↦ None | Some r ↦ Some r.0 ]

-- what is left where the ask comes late
abbrev then : Shared → ℕ → SharedAsk → Shared
then s job ask = left_by s (answered s job ask true)

abbrev lock : Name → Option ℤ → SharedAsk
lock n timeout = shared_asks.Try (n ∷ []) timeout

abbrev unlock : Name → SharedAsk
unlock n = shared_asks.Unlock (n ∷ [])

abbrev at_once : Option ℤ
at_once = Some (pos 0)

abbrev nine : Option ℤ
nine = Some (pos 9)

-- job 1 holds ^A
abbrev locked : Shared
locked = then first 1 (lock a None)

is_locked : count_of locked.locks 1 a ≡ 1
is_locked = refl

-- a timeout of 0 is over at once
late_at_once : told locked 2 (lock a1 at_once) false ≡ Some replies.Late
late_at_once = refl

waits : answered locked 2 (lock a1 nine) false ≡ None
waits = refl

late_after : told locked 2 (lock a1 nine) true ≡ Some replies.Late
late_after = refl

waits_for_ever : answered locked 2 (lock a1 None) true ≡ None
waits_for_ever = refl

-- a name that doesn't overlap is got, even late
another : told locked 2 (lock b at_once) true ≡ Some replies.Got
another = refl

-- the holder itself takes it again, and a name below it
again : told locked 1 (lock a1 at_once) true ≡ Some replies.Got
again = refl

-- LOCK +^A,+^A LOCK -^A
twice_and_back : count_of (then (then locked 1 (lock a None)) 1 (unlock a)).locks 1 a ≡ 1
twice_and_back = refl

-- and once more: job 2 gets the name below it
freed_by_unlock : told (then locked 1 (unlock a)) 2 (lock a1 at_once) true ≡ Some replies.Got
freed_by_unlock = refl

-- giving up a name that isn't held
not_held : answered locked 2 (unlock a) false ≡ Some (replies.Done, locked)
not_held = refl

abbrev open_9 : Option ℤ → SharedAsk
open_9 timeout = shared_asks.Open (codes "9") timeout

-- job 1 has the device
abbrev taken : Shared
taken = then first 1 (open_9 None)

device_got : told first 1 (open_9 at_once) true ≡ Some replies.Got
device_got = refl

device_waits : answered taken 2 (open_9 nine) false ≡ None
device_waits = refl

device_late : told taken 2 (open_9 at_once) false ≡ Some replies.Late
device_late = refl

-- its holder gets it once more, without a session
device_again : answered taken 1 (open_9 None) false ≡ Some (replies.Got, taken)
device_again = refl

device_unknown : answered first 1 (shared_asks.Open (codes "8") None) false ≡ Some (replies.NoSession, first)
device_unknown = refl

device_principal : answered taken 2 (shared_asks.Open principal None) false ≡ Some (replies.Got, taken)
device_principal = refl

-- CLOSE frees it, and the next OPEN takes the next session
abbrev passed : Shared
passed = then (then taken 1 (shared_asks.Close (codes "9"))) 2 (open_9 None)

device_passed : passed.devices ≡ device principal 3 ∷ record { name = codes "9"; sessions = 2; taken = 2; holder = Some 2 } ∷ []
device_passed = refl

-- a CLOSE by another job changes nothing
close_of_another : answered taken 2 (shared_asks.Close (codes "9")) false ≡ Some (replies.Done, taken)
close_of_another = refl

-- where all sessions were taken there is none, also for the job that had the last
device_used_up : told (then passed 2 (shared_asks.Close (codes "9"))) 2 (open_9 None) false ≡ Some replies.NoSession
device_used_up = refl

-- a third job starts, and has no principal session left after it
abbrev started : Shared
started = then first 1 (shared_asks.Start main None)

third : told first 1 (shared_asks.Start main None) false ≡ Some (replies.Job 3)
third = refl

no_session_for_a_job : answered started 1 (shared_asks.Start main None) false ≡ Some (replies.Limit, started)
no_session_for_a_job = refl

-- rows of so many jobs
abbrev many : ℕ → List Row
many zero = []
many (suc n) = running ∷ many n

-- there are 255 jobs, and sessions for more
abbrev crowd : ℕ → Shared
crowd n = record { globals = []; locks = []; devices = device principal 300 ∷ []; rows = many n; transactions = [] }

last_job : told (crowd 254) 1 (shared_asks.Start main None) false ≡ Some (replies.Job 255)
last_job = refl

too_many_jobs : told (crowd 255) 1 (shared_asks.Start main None) false ≡ Some replies.Limit
too_many_jobs = refl

-- a halt gives all up and ends the row
abbrev halted_both : Shared
halted_both = then (then locked 1 (open_9 None)) 1 (shared_asks.Halt None)

halt_ends : halted_both.rows ≡ record { start = main; ended = true } ∷ running ∷ []
halt_ends = refl

halt_unlocks : halted_both.locks ≡ []
halt_unlocks = refl

halt_closes : holder_of halted_both.devices (codes "9") ≡ None
halt_closes = refl

-- SET ^A=1, read by the other job
abbrev written : Shared
written = then first 1 (shared_asks.Access (accesses.Set a (codes "1")))

write_done : told first 1 (shared_asks.Access (accesses.Set a (codes "1"))) false ≡ Some (replies.Answer answers.Done)
write_done = refl

read_by_another : answered written 2 (shared_asks.Access (accesses.Value a)) false ≡ Some (replies.Answer (answers.Value (Some (codes "1"))), written)
read_by_another = refl

-- a local name has no place in what is shared
local_changes_nothing : then first 1 (shared_asks.Access (accesses.Set x (codes "1"))) ≡ first
local_changes_nothing = refl

abbrev event : ℕ → SharedAsk → Reply → Event
event job ask reply = record { job = job; ask = asks.Shared ask; reply = reply }

-- job 1 locks ^A, job 2 tries ^A(1) and is late, job 1 halts, and job 2 gets it
abbrev story : History
story = event 1 (lock a None) replies.Got ∷ event 2 (lock a1 at_once) replies.Late ∷ event 1 (shared_asks.Halt None) replies.Done ∷ event 2 (lock a1 None) replies.Got ∷ []

story_served : AreServed first story
story_served = (
  ((running, refl, refl), refl, (false, refl)),
  (
    ((running, refl, refl), refl, (false, refl)),
    (((running, refl, refl), refl, (false, refl)), (((running, refl, refl), refl, (false, refl)), tt)),
  ),
)

story_left : count_of (state_of first story).locks 2 a1 ∷ count_of (state_of first story).locks 1 a ∷ [] ≡ 1 ∷ 0 ∷ []
story_left = refl

story_told : log_of 2 story ≡ (asks.Shared (lock a1 at_once), replies.Late) ∷ (asks.Shared (lock a1 None), replies.Got) ∷ []
story_told = refl

story_counted : events_of 1 story ≡ 2
story_counted = refl

-- ---- transactions

abbrev set : Name → List ℕ → SharedAsk
set n text = shared_asks.Access (accesses.Set n text)

abbrev get : Name → SharedAsk
get n = shared_asks.Access (accesses.Value n)

abbrev is : Option (List ℕ) → Option Reply
is text = Some (replies.Answer (answers.Value text))

-- job 1 begins and sets ^A: it sees that itself, and nobody else does
abbrev begun : Shared
begun = then first 1 (shared_asks.Begin kinds.Serial)

abbrev changed : Shared
changed = then begun 1 (set a (codes "1"))

change_done : told begun 1 (set a (codes "1")) false ≡ Some (replies.Answer answers.Done)
change_done = refl

seen_by_itself : told changed 1 (get a) false ≡ is (Some (codes "1"))
seen_by_itself = refl

unseen_by_another : told changed 2 (get a) false ≡ is None
unseen_by_another = refl

-- until it is committed, and never where it is rolled back, as a halt does too
seen_when_committed : told (then changed 1 shared_asks.Commit) 2 (get a) false ≡ is (Some (codes "1"))
seen_when_committed = refl

committed_once : answered (then changed 1 shared_asks.Commit) 1 shared_asks.Commit false ≡ Some (replies.Done, then changed 1 shared_asks.Commit)
committed_once = refl

forgotten : then changed 1 shared_asks.Rollback ≡ first
forgotten = refl

halt_forgets : (then changed 1 (shared_asks.Halt None)).globals ≡ []
halt_forgets = refl

-- the other job's changes are made at once, and seen in the transaction
seen_in_it : told (then begun 2 (set a (codes "2"))) 1 (get a) false ≡ is (Some (codes "2"))
seen_in_it = refl

-- a SERIAL transaction read ^A, which is another by its commit: it clashes, and its changes are forgotten
abbrev outdated : Shared
outdated = then (then (then begun 1 (get a)) 1 (set b (codes "1"))) 2 (set a (codes "2"))

clashes : told outdated 1 shared_asks.Commit false ≡ Some (replies.Clash (record { place = 1; then = kepts.Nothing; now = kepts.Text (codes "2") }))
clashes = refl

clash_forgets : told (then outdated 1 shared_asks.Commit) 1 (get b) false ≡ is None
clash_forgets = refl

-- one that isn't SERIAL is committed
committed_plain : told (then (then (then (then (then first 1 (shared_asks.Begin kinds.Plain)) 1 (get a)) 1 (set b (codes "1"))) 2 (set a (codes "2"))) 1 shared_asks.Commit) 2 (get b) false
    ≡ is (Some (codes "1"))
committed_plain = refl

-- what was locked is given back by a rollback, and stays by a commit
abbrev gained : Shared
gained = then begun 1 (lock a None)

gained_at_once : told gained 2 (lock a at_once) false ≡ Some replies.Late
gained_at_once = refl

given_back : (then gained 1 shared_asks.Rollback).locks ≡ []
given_back = refl

kept_by_commit : count_of (then gained 1 shared_asks.Commit).locks 1 a ≡ 1
kept_by_commit = refl

-- an unlock waits for the commit, and a rollback forgets it
abbrev waiting : Shared
waiting = then (then locked 1 (shared_asks.Begin kinds.Serial)) 1 (unlock a)

unlock_done : told (then locked 1 (shared_asks.Begin kinds.Serial)) 1 (unlock a) false ≡ Some replies.Done
unlock_done = refl

held_still : count_of waiting.locks 1 a ≡ 1
held_still = refl

unlocked_by_commit : count_of (then waiting 1 shared_asks.Commit).locks 1 a ≡ 0
unlocked_by_commit = refl

held_by_rollback : count_of (then waiting 1 shared_asks.Rollback).locks 1 a ≡ 1
held_by_rollback = refl

-- a second beginning changes nothing
begun_once : answered changed 1 (shared_asks.Begin kinds.Plain) false ≡ Some (replies.Done, changed)
begun_once = refl

-- a change of a local name is no access of the transaction
local_is_no_access : then begun 1 (set x (codes "1")) ≡ begun
local_is_no_access = refl

-- both jobs add one to ^A, which was 5, each in a SERIAL transaction, and both read it first: the second clashes, and adds to 6 then
abbrev five : Shared
five = then first 1 (set a (codes "5"))

abbrev serial : ℕ → Shared → Shared
serial job s = then s job (shared_asks.Begin kinds.Serial)

abbrev both_read : Shared
both_read = then (serial 2 (then (serial 1 five) 1 (get a))) 2 (get a)

abbrev added : Shared
added = then (then (then both_read 1 (set a (codes "6"))) 1 shared_asks.Commit) 2 (set a (codes "6"))

added_clashes : told added 2 shared_asks.Commit false ≡ Some (replies.Clash (record { place = 1; then = kepts.Text (codes "5"); now = kepts.Text (codes "6") }))
added_clashes = refl

abbrev again_read : Shared
again_read = serial 2 (then added 2 shared_asks.Commit)

again_six : told again_read 2 (get a) false ≡ is (Some (codes "6"))
again_six = refl

abbrev added_twice : Shared
added_twice = then (then (then again_read 2 (get a)) 2 (set a (codes "7"))) 2 shared_asks.Commit

added_twice_done : answered (then (then again_read 2 (get a)) 2 (set a (codes "7"))) 2 shared_asks.Commit false ≡ Some (replies.Done, added_twice)
added_twice_done = refl

seven : told added_twice 1 (get a) false ≡ is (Some (codes "7"))
seven = refl

-- write skew: each job reads what the other writes. The second clashes at its first access
abbrev skew : Shared
skew =
    let both = then (then first 1 (set a (codes "0"))) 1 (set b (codes "0")) in
    let one = then (serial 2 (then (serial 1 both) 1 (get b))) 2 (get a) in
    then (then (then (then one 1 (set a (codes "1"))) 1 shared_asks.Commit) 2 (set b (codes "1"))) 1 (get a)

skew_clashes : told skew 2 shared_asks.Commit false ≡ Some (replies.Clash (record { place = 1; then = kepts.Text (codes "0"); now = kepts.Text (codes "1") }))
skew_clashes = refl

-- a subscript that wasn't there when the transaction looked: what is kept of one that is a number is the number
abbrev from_none : Name
from_none = global (codes "A") ([] ∷ [])

abbrev order : Name → SharedAsk
order n = shared_asks.Access (accesses.Order n directions.Forward)

abbrev phantom : Shared
phantom = then (then (serial 1 first) 1 (order from_none)) 2 (set a1 (codes "x"))

phantom_clashes : told phantom 1 shared_asks.Commit false ≡ Some (replies.Clash (record { place = 1; then = kepts.Nothing; now = kepts.Number (pos 1) }))
phantom_clashes = refl

-- the place of an access counts the changes and the unlocks before it
abbrev counted : Shared
counted = then (then (then (serial 1 first) 1 (set b (codes "1"))) 1 (unlock a)) 1 (get a)

counted_clashes : told (then counted 2 (set a (codes "2"))) 1 shared_asks.Commit false ≡ Some (replies.Clash (record { place = 3; then = kepts.Nothing; now = kepts.Text (codes "2") }))
counted_clashes = refl

-- a read of what the transaction itself wrote before can't clash, and one from before it wrote can
abbrev own_first : Shared
own_first = then (then (then (serial 1 first) 1 (set a (codes "1"))) 1 (get a)) 2 (set a (codes "2"))

own_first_done : told own_first 1 shared_asks.Commit false ≡ Some replies.Done
own_first_done = refl

-- its own kill hides what others give below
abbrev killed : Shared
killed = then (then (serial 1 (then first 2 (set a1 (codes "1")))) 1 (shared_asks.Access (accesses.Kill a))) 2 (set a1 (codes "2"))

killed_hides : told killed 1 (order from_none) false ≡ Some (replies.Answer (answers.Order None))
killed_hides = refl
