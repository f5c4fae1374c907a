-- What a job does with transactions: TSTART, TCOMMIT, TROLLBACK and TRESTART (ISO/IEC 11756:1999, 8.2.19 to 8.2.22).
use Rattle.std.specs.Prelude.{ℕ, List, [], ◌∷◌, Option, Some, None, Bool, true, false, nat_eq, nat_lt, if◌then◌else◌}
use Rattle.mj_text.specs.declared.fault.Fault.TheVariants.{NoTransaction, NoRestart, InTransaction, Limit}
use Rattle.mj_ask.specs.declared.ask.Kind.{Kind}
use Rattle.mj_ask.specs.declared.ask.Kind.TheVariants as kinds
use Rattle.mj_ask.specs.declared.ask.Ask.TheVariants as asks
use Rattle.mj_ask.specs.declared.ask.SharedAsk.TheVariants as shared_asks
use Rattle.mj_ask.specs.declared.ask.Reply.{Reply}
use Rattle.mj_ask.specs.declared.ask.Reply.TheVariants as replies
use Rattle.mj_ast.specs.declared.routine.Serial.{Serial}
use Rattle.mj_ast.specs.declared.routine.Serial.TheVariants as serial
use Rattle.mj_ast.specs.Syntax.{Restored, Alone, Listed, Everything, Restartable}
use Rattle.mj_semantics.specs.State.{Words, Only, AllBut, is_in_function, marked, raised, lowered, settled, can_restart, is_serial, restarted}
use Rattle.mj_semantics.specs.Outcome.{Timed, look, change, ask, go_back, fault}

-- how many TSTARTs may be open (this profile)
abbrev pub levels_limit : ℕ
levels_limit = 255

abbrev pub kind_of : Bool → Kind
kind_of true = kinds.Serial
kind_of false = kinds.Plain

-- The locals that an argument of TSTART names: all, or those of some words
abbrev pub words_of : Restored → Words
words_of (Alone word) = Only (word ∷ [])
words_of (Listed words) = Only words
words_of Everything = AllBut []

-- those that a restart restores; without the argument there is none (this profile)
abbrev pub restored_by : Option Restartable → Option Words
restored_by None = None
restored_by (Some r) = Some (words_of r.restored)

-- the names of a list, each of which takes a turn
abbrev pub listed_by : Option Restartable → List (List ℕ)
listed_by None = []
listed_by (Some r) = elim r.restored [ Alone word ↦ [] | Listed words ↦ words | Everything ↦ [] ]

abbrev pub says_serial : Serial → Bool
says_serial serial.No = false
says_serial serial.Bare = true
says_serial serial.Enclosed = true

abbrev pub serial_by : Option Restartable → Bool
serial_by None = false
serial_by (Some r) = says_serial r.serial

-- the rest outside all functions; in one, a transaction would begin in the middle of an expression, which no restart could go on with: it is INTX
-- (this profile)
abbrev pub out_of_functions : Timed → Timed
out_of_functions rest = look (λ s. if is_in_function s then fault InTransaction else rest)

-- TSTART: the outermost one is asked for, and its rest follows; one in it counts, and what it says of a restart is nothing (this profile)
abbrev pub begin_transaction : Option Words → Bool → Timed → Timed → Timed
begin_transaction restored serially inner outermost = look (λ s.
    if nat_eq s.level 0
    then out_of_functions (ask (asks.Shared (shared_asks.Begin (kind_of serially))) (λ r. change (marked restored serially) outermost))
    else if nat_lt s.level levels_limit then change raised inner
    else fault Limit)

-- the rest in a transaction; outside one it is NOTX
abbrev pub in_transaction : Timed → Timed
in_transaction rest = look (λ s. if nat_eq s.level 0 then fault NoTransaction else rest)

-- what was read in the transaction isn't so any more
abbrev pub is_clash : Reply → Bool
is_clash (replies.Clash c) = true
is_clash _ = false

-- TCOMMIT: that of the outermost TSTART is asked for, and one of two rests follows: the first where it clashes, the second where it is done
abbrev pub commit : Timed → Timed → Timed
commit clashed done = in_transaction (look (λ s.
    if nat_lt 1 s.level then change lowered done
    else ask (asks.Shared shared_asks.Commit) (λ r. if is_clash r then clashed else change settled done)))

-- TROLLBACK: whatever `$TLEVEL` is
abbrev pub roll_back : Timed → Timed
roll_back rest = in_transaction (ask (asks.Shared shared_asks.Rollback) (λ r. change settled rest))

-- TRESTART gives up what was done, if the outermost TSTART says that it can be restarted; else it is NORESTART
abbrev pub roll_back_for_restart : Timed → Timed
roll_back_for_restart rest = in_transaction (look (λ s. if can_restart s then ask (asks.Shared shared_asks.Rollback) (λ r. rest) else fault NoRestart))

-- behind a TRESTART and a clash: the transaction begins once more, as all stood behind its outermost TSTART, and there the job goes on
abbrev pub begin_restart : Timed
begin_restart = look (λ s. ask (asks.Shared (shared_asks.Begin (kind_of (is_serial s)))) (λ r. change restarted go_back))
