-- What is told fits what was asked.
use Rattle.std.proofs.Common.{◌≡◌, ℕ, Bool, true, false, ◌||◌, ◌&&◌, not, cond, List, Option, Some, None, refl}
use Rattle.std.specs.Prelude.{⊤, ℤ, pos, int_le, nat_lt, ◌==◌}
use Rattle.mj_ask.specs.Started.{Started}
use Rattle.mj_ask.specs.declared.ask.Ask.{Ask}
use Rattle.mj_ask.specs.declared.ask.Ask.TheVariants as asks
use Rattle.mj_ask.specs.declared.ask.SharedAsk.{SharedAsk}
use Rattle.mj_ask.specs.declared.ask.SharedAsk.TheVariants as shared_asks
use Rattle.mj_ask.specs.declared.ask.Reply.{Reply}
use Rattle.mj_ask.specs.declared.ask.Reply.TheVariants as replies
use Rattle.std.specs.Str.{bytes_eq}
use Rattle.mj_store.specs.Questions.{Content}
use Rattle.mj_store.specs.Runs.{name_of, answer_of}
use Rattle.mj_store.specs.declared.access.Access.{Access}
use Rattle.mj_store.specs.declared.access.Answer.TheVariants as answers_are
use Rattle.mj_ask.specs.Fitting.{IsAnswered}
use Rattle.mj_ask.specs.Fits.{fits, is_shared}
use Rattle.mj_locktab.specs.Tries.{outcome_of, after_try}
use Rattle.mj_subs.specs.Name.{Name}
use Rattle.mj_locktab.specs.Locks.{Locks}
use Rattle.mj_locktab.specs.declared.taken.Taken.{Taken}
use Rattle.mj_locktab.specs.declared.taken.Taken.TheVariants as takes
use Rattle.mj_dev.specs.Shelves.{principal}
use Rattle.mj_sys.specs.Devices.{Device, device_at}
use Rattle.mj_txlog.specs.Accesses.{Transaction, is_write, is_full, seen}
use Rattle.mj_txn.specs.Closing.{commit_closed}
use Rattle.mj_txn.specs.Testing.{outcome_of as commit_of}
use Rattle.mj_txn.specs.declared.committing.Outcome.{Outcome}
use Rattle.mj_txn.specs.declared.committing.Outcome.TheVariants as outcomes
use Rattle.mj_sys.specs.Transactions.{told_to, unlock_told, closed_as}
use Rattle.mj_sys.specs.Shared.{Shared, open_of, tried, busy, has_room, started, open_free, open_known, answered, served}

-- a reply of some service fits
abbrev pub Fit : Ask → Option (Reply × Shared) → Type 0
Fit ask None = ⊤
Fit ask (Some r) = fits ask r.0 ≡ true

-- and one of what all share
abbrev Fits : SharedAsk → Option (Reply × Shared) → Type 0
Fits ask o = Fit (asks.Shared ask) o

abbrev is_fit : SharedAsk → Reply → Bool
is_fit ask reply = fits (asks.Shared ask) reply

try_busy : (s : Shared) (names : List Name) (timeout : Option ℤ) (late : Bool) → Fits (shared_asks.Try names timeout) (busy s timeout late)
try_busy s names None late = tt
try_busy s names (Some t) late = over (late || int_le t (pos 0)) where
  over : (b : Bool) → Fits (shared_asks.Try names (Some t)) (cond b (Some (replies.Late, s)) None)
  over true = refl
  over false = tt

try_fits : (s : Shared) (job : ℕ) (names : List Name) (timeout : Option ℤ) (late : Bool) (taken : Taken) (locks : Locks)
    → Fits (shared_asks.Try names timeout) (tried s job names timeout late taken locks)
try_fits s job names timeout late takes.Got locks = refl
try_fits s job names timeout late (takes.Busy holder name) locks = try_busy s names timeout late
try_fits s job names timeout late takes.Limit locks = refl

start_fits : (s : Shared) (start : Started) (timeout : Option ℤ) → Fits (shared_asks.Start start timeout) (Some (started s start))
start_fits s start timeout = over (has_room s) refl where
  over : (b : Bool) → has_room s ≡ b → Fits (shared_asks.Start start timeout) (Some (started s start))
  over true is = rw is refl
  over false is = rw is refl

free_fits : (s : Shared) (job : ℕ) (name : List ℕ) (timeout : Option ℤ) (d : Device) → Fits (shared_asks.Open name timeout) (Some (open_free s job name d))
free_fits s job name timeout d = over (nat_lt d.taken d.sessions) refl where
  over : (b : Bool) → nat_lt d.taken d.sessions ≡ b → Fits (shared_asks.Open name timeout) (Some (open_free s job name d))
  over true is = rw is refl
  over false is = rw is refl

open_busy : (s : Shared) (name : List ℕ) (timeout : Option ℤ) (late : Bool) → Fits (shared_asks.Open name timeout) (busy s timeout late)
open_busy s name None late = tt
open_busy s name (Some t) late = over (late || int_le t (pos 0)) where
  over : (b : Bool) → Fits (shared_asks.Open name (Some t)) (cond b (Some (replies.Late, s)) None)
  over true = refl
  over false = tt

held_fits : (s : Shared) (job : ℕ) (name : List ℕ) (timeout : Option ℤ) (late : Bool) (b : Bool)
    → Fits (shared_asks.Open name timeout) (cond b (Some (replies.Got, s)) (busy s timeout late))
held_fits s job name timeout late true = refl
held_fits s job name timeout late false = open_busy s name timeout late

known_fits : (s : Shared) (job : ℕ) (name : List ℕ) (timeout : Option ℤ) (late : Bool) (d : Device) (holder : Option ℕ)
    → Fits (shared_asks.Open name timeout)
    (elim holder [ None ↦ Some (open_free s job name d) | Some h ↦ cond (h == job) (Some (replies.Got, s)) (busy s timeout late) ])
known_fits s job name timeout late d None = free_fits s job name timeout d
known_fits s job name timeout late d (Some h) = held_fits s job name timeout late (h == job)

found_fits : (s : Shared) (job : ℕ) (name : List ℕ) (timeout : Option ℤ) (late : Bool) (found : Option Device)
    → Fits (shared_asks.Open name timeout)
    (elim found [ None ↦ Some (replies.NoSession, s) | Some d ↦ open_known s job name timeout late d ])
found_fits s job name timeout late None = refl
found_fits s job name timeout late (Some d) = known_fits s job name timeout late d d.holder

open_fits : (s : Shared) (job : ℕ) (name : List ℕ) (timeout : Option ℤ) (late b : Bool)
    → Fits (shared_asks.Open name timeout)
    (cond b (Some (replies.Got, s)) (elim (device_at s.devices name) [ None ↦ Some (replies.NoSession, s) | Some d ↦ open_known s job name timeout late d ]))
open_fits s job name timeout late true = refl
open_fits s job name timeout late false = found_fits s job name timeout late (device_at s.devices name)

-- ---- in a transaction

limit_fits : (a : Access) → is_fit (shared_asks.Access a) (replies.Answer answers_are.Limit) ≡ true
limit_fits a = refl

told_fits : ((a : Access) → IsAnswered a) → (t : Option Transaction) (globals : Content) (a : Access)
    → is_fit (shared_asks.Access a) (replies.Answer (told_to t globals a)) ≡ true
told_fits answers None globals a = answers a globals
told_fits answers (Some t) globals a = by (is_write a && not (name_of a).global) (is_full t) where
  by : (local full : Bool)
      → is_fit (shared_asks.Access a) (replies.Answer (cond local (answer_of a globals) (cond full answers_are.Limit (answer_of a (seen globals t.accesses)))))
      ≡ true
  by true full = answers a globals
  by false true = limit_fits a
  by false false = answers a (seen globals t.accesses)

-- whatever the ask, to which both replies fit
unlock_fits : (ask : SharedAsk) → is_fit ask replies.Done ≡ true → is_fit ask replies.Limit ≡ true → (t : Option Transaction)
    → is_fit ask (unlock_told t) ≡ true
unlock_fits ask done limit None = done
unlock_fits ask done limit (Some t) = by (is_full t) where
  by : (full : Bool) → is_fit ask (cond full replies.Limit replies.Done) ≡ true
  by true = limit
  by false = done

close_fits : (t : Option Transaction) (job : ℕ) (globals : Content) (locks : Locks) → is_fit shared_asks.Commit (closed_as t job globals locks).reply ≡ true
close_fits None job globals locks = refl
close_fits (Some t) job globals locks = by (commit_of t globals) where
  by : (o : Outcome) → is_fit shared_asks.Commit (commit_closed t job globals locks o).reply ≡ true
  by outcomes.Done = refl
  by (outcomes.Clash c) = refl

-- what is told fits what was asked, where each answer to an access fits it
shared_fits : ((a : Access) → IsAnswered a) → (s : Shared) (job : ℕ) (ask : SharedAsk) (late : Bool) → Fits ask (answered s job ask late)
shared_fits answers s job (shared_asks.Access a) late = told_fits answers (open_of s job) s.globals a
shared_fits answers s job (shared_asks.Try names timeout) late =
    try_fits s job names timeout late (outcome_of s.locks job names) (after_try s.locks job names)
shared_fits answers s job (shared_asks.Unlock names) late = unlock_fits (shared_asks.Unlock names) refl refl (open_of s job)
shared_fits answers s job shared_asks.UnlockAll late = unlock_fits shared_asks.UnlockAll refl refl (open_of s job)
shared_fits answers s job shared_asks.Commit late = close_fits (open_of s job) job s.globals s.locks
shared_fits answers s job (shared_asks.Open name timeout) late = open_fits s job name timeout late (bytes_eq name principal)
shared_fits answers s job (shared_asks.Start start timeout) late = start_fits s start timeout
shared_fits answers s job _ late = refl

pub served_fits : ((a : Access) → IsAnswered a) → (s : Shared) (job : ℕ) (ask : Ask) (late : Bool) → is_shared ask ≡ true → Fit ask (served s job ask late)
served_fits answers s job (asks.Shared ask) late h = shared_fits answers s job ask late
served_fits answers s job _ late h = tt
