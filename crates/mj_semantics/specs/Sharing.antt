-- What a job does among others once its arguments have their values: HANG, JOB and LOCK (ISO/IEC 11756:1999, 8.2.8, 8.2.10, 8.2.12).
use Rattle.std.specs.Prelude.{ℕ, ℤ, pos, int_lt, List, [], ◌∷◌, Option, Some, None, Bool, true, false, not, nat_lt, if◌then◌else◌}
use Rattle.mj_text.specs.declared.fault.Fault.TheVariants.{InTransaction, Limit}
use Rattle.mj_num.specs.Number.{reading}
use Rattle.mj_subs.specs.Name.{Name}
use Rattle.mj_ask.specs.declared.entry.Entry.{Entry}
use Rattle.mj_ask.specs.declared.ask.Ask.TheVariants as asks
use Rattle.mj_ask.specs.declared.ask.SharedAsk.TheVariants as shared_asks
use Rattle.mj_ask.specs.declared.ask.Reply.{Reply}
use Rattle.mj_ask.specs.declared.ask.Reply.TheVariants as replies
use Rattle.mj_ask.specs.Fits.{is_late}
use Rattle.mj_ast.specs.declared.routine.LockMode.{LockMode}
use Rattle.mj_ast.specs.declared.routine.LockMode.TheVariants.{Whole, Plus, Minus}
use Rattle.mj_semantics.specs.State.{State, set_test}
use Rattle.mj_semantics.specs.Outcome.{Timed, turn, look, change, ask, tell, given, fault}

-- a limit would be passed
abbrev pub is_limit : Reply → Bool
is_limit replies.Limit = true
is_limit _ = false

-- `$TEST` tells whether what has a timeout was done before that; what has none leaves it
abbrev pub in_time : Option ℤ → Bool → State → State
in_time None b s = s
in_time (Some n) b s = set_test b s

-- what the reply leads to where there may be a timeout: that a limit is passed is LIMIT, and what came late wasn't done
abbrev pub served : Option ℤ → Reply → Timed → Timed
served timeout r rest = if is_limit r then fault Limit else change (in_time timeout (not (is_late r))) rest

-- the rest outside a transaction; in one it is INTX (this profile)
abbrev pub out_of_transaction : Timed → Timed
out_of_transaction rest = look (λ s. if nat_lt 0 s.level then fault InTransaction else rest)

-- HANG: so many seconds, and none where there are none
abbrev pub hang : List ℕ → Timed → Timed
hang v rest = given (reading v) (λ n. if int_lt (pos 0) n then tell (asks.Rest n) rest else rest)

-- JOB: another job starts at an entry, with these values
abbrev pub start_job : Entry → List (Option (List ℕ)) → Option ℤ → Timed → Timed
start_job entry vs timeout rest =
    out_of_transaction (ask (asks.Shared (shared_asks.Start (record { entry = entry; values = vs }) timeout)) (λ r. served timeout r rest))

-- LOCK: all names are given up
abbrev pub unlock_all : Timed → Timed
unlock_all rest = out_of_transaction (ask (asks.Shared shared_asks.UnlockAll) (λ r. served None r rest))

-- names are taken, all or none; without a name nothing is asked
abbrev pub take_names : List Name → Option ℤ → Timed → Timed
take_names [] timeout rest = rest
take_names (x ∷ xs) timeout rest = ask (asks.Shared (shared_asks.Try (x ∷ xs) timeout)) (λ r. served timeout r rest)

-- names are given up, which is always in time
abbrev pub give_names : List Name → Option ℤ → Timed → Timed
give_names [] timeout rest = rest
give_names (x ∷ xs) timeout rest = ask (asks.Shared (shared_asks.Unlock (x ∷ xs))) (λ r. served timeout r rest)

-- names are taken in the place of all that were held, or beside them, or are given up
abbrev pub lock : LockMode → List Name → Option ℤ → Timed → Timed
lock Whole xs timeout rest = turn (unlock_all (turn (take_names xs timeout rest)))
lock Plus xs timeout rest = turn (take_names xs timeout rest)
lock Minus xs timeout rest = turn (give_names xs timeout rest)
