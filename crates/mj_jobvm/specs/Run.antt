-- That a job is at a point of its program's run.
use Rattle.std.specs.Prelude.{◌≡◌, ℕ, suc, ◌+◌, ◌≤◌, List, [], ◌∷◌, ◌++◌, Option, None, true, IfSome, IsTrue, ◌⊎◌, map}
use Rattle.mj_ask.specs.declared.ask.Ask.{Ask}
use Rattle.mj_ask.specs.declared.ask.Reply.{Reply}
use Rattle.mj_ask.specs.Fits.{fits}
use Rattle.mj_ask.specs.Within.{is_reply_within}
use Rattle.mj_semantics.specs.State.{Locals, Place, places}
use Rattle.mj_semantics.specs.Outcome.{Needs, Ended, More}
use Rattle.mj_semantics.specs.Program.{Program}
use Rattle.mj_semantics.specs.Job.{Start, next}
use Rattle.mj_machine.specs.Standing.{Standing, Code, onward}
use Rattle.mj_turn.specs.Sound.{IsSound}
use Rattle.mj_jobvm.specs.Places.{ArePlaces}

-- the asks of a job and their replies, in order
abbrev pub Log : Type 0
Log = List (Ask × Reply)

-- the replies of a log
abbrev pub replies_of : Log → List Reply
replies_of log = map (λ e. e.1) log

-- the turns that were over when the last reply of the log was taken, after which the run asked for it; none where there was
-- no reply yet. Without that reply the run goes on for as many turns and for each fewer, and needs it with each more: so
-- there is only one such number
abbrev pub TurnsBefore : Program → Start → Log → ℕ → Type 0
TurnsBefore program start log m =
    ((log ≡ []) × (m ≡ 0))
    ⊎ ((earlier : Log) × (a : Ask) × (r : Reply) × (locals : Locals) × (at : List Place) × (log ≡ earlier ++ (a, r) ∷ [])
    × ((n : ℕ) → n ≤ m → next program start n (replies_of earlier) ≡ More)
    × ((n : ℕ) → next program start (m + suc n) (replies_of earlier) ≡ Needs a locals at))

-- for as many turns after those before the last reply, and for each fewer, the run over the log is still going; and the turns
-- before the last reply are the only ones
abbrev pub GoesOn : Program → Start → Log → ℕ → Type 0
GoesOn program start log turns =
    (m : ℕ) × TurnsBefore program start log m × ((k : ℕ) → TurnsBefore program start log k → k ≡ m)
    × ((n : ℕ) → n ≤ m + turns → next program start n (replies_of log) ≡ More)

-- each entry's ask is the one that the job makes after the replies before it, and its reply fits it, with texts that the program may have
pub data IsTrace (program : Program) (start : Start) : Log → Type 0 where
  begins : IsTrace program start []
  goes_on : (log : Log) (a : Ask) (r : Reply) (n : ℕ) (locals : Locals) (at : List Place)
      → IsTrace program start log → next program start n (replies_of log) ≡ Needs a locals at → IsTrue (fits a r)
      → is_reply_within program.bounds.limit r ≡ true → IsTrace program start (log ++ (a, r) ∷ [])

-- with the replies of this log the run is over
abbrev pub HasEnded : Program → Start → Log → Type 0
HasEnded program start log = (n : ℕ) × (next program start n (replies_of log) ≡ Ended)

-- what a caller may know of a job: its log, where the asks in it came from, what it asks, the turns that it counted since the last
-- reply, and where it stands
pub record Run : Type 0 where
  pub log : Log
  pub places : List (Option Place)
  pub pending : Option Ask
  pub spent : ℕ
  pub at : Standing

-- the job is at a point of the run of its program from its start, by this code, with the replies of its log, so many turns after
-- the last reply
pub record IsRunAfter (program : Program) (start : Start) (code : Code) (turns : ℕ) (job : Run) : Type 0 where
  pub before : ℕ
  pub counted : TurnsBefore program start job.log before
  pub trace : IsTrace program start job.log
  -- and each ask in it came from the place that is kept for it
  pub placed : ArePlaces program start (replies_of job.log) job.places
  -- the turns that are over since the last reply are at least those that it counted
  pub within : job.spent ≤ turns
  -- at none of all turns the run was over, or asked for more than the log's replies, whatever is told next
  pub going : (n : ℕ) → n ≤ before + turns → (replies : List Reply) → next program start n (replies_of job.log ++ replies) ≡ More
  -- what is left of the run is what the program means after as many turns
  pub rest : (n : ℕ) (replies : List Reply) → onward code n job.at replies ≡ next program start (before + turns + n) (replies_of job.log ++ replies)
  -- it stands where no operand and no FOR is missing
  pub sound : IsSound code.units job.at
  -- and with an ask pending, the run needs its reply
  pub asks : IfSome job.pending (λ a. (job.at.given ≡ None) × ((n : ℕ) → onward code (suc n) job.at [] ≡ Needs a job.at.state.locals (places job.at.state)))

-- the same after any number of turns
abbrev pub IsJobRun : Program → Start → Code → Run → Type 0
IsJobRun program start code job = (turns : ℕ) × IsRunAfter program start code turns job
