-- What comes of a job that makes its next event again, and what is seen of one that asks.
use Rattle.std.specs.Prelude.{◌≡◌, ℕ, [], ◌∷◌, ◌++◌, slice_get, Bool, true, false, Option, Some, None, if◌then◌else◌}
use Rattle.std.specs.Option.{is_some}
use Rattle.mj_ask.specs.declared.ask.Ask.{Ask}
use Rattle.mj_ask.specs.declared.ask.Reply.{Reply}
use Rattle.mj_ask.specs.declared.ask.Reply.TheVariants as replies
use Rattle.mj_ask.specs.Fits.{is_shared, timeout_of}
use Rattle.mj_semantics.specs.State.{places}
use Rattle.mj_load.specs.Image.{Loaded, program_of}
use Rattle.mj_jobvm.specs.Run.{Run}
use Rattle.mj_steps.specs.declared.step.Way.{Way}
use Rattle.mj_steps.specs.declared.step.Way.TheVariants as ways
use Rattle.mj_sys.specs.declared.event.Event.{Event}
use Rattle.mj_sys.specs.Shared.{Shared, served}
use Rattle.mj_sys.specs.History.{History, state_of}
use Rattle.mj_core.specs.Shown.{AtAsk, Shown, stand_at}
use Rattle.mj_retrace.specs.Retraced.{Spot, innermost, AsksFrom}

-- the event that a job makes which asks this and is told that
abbrev pub event_by : ℕ → Ask → Reply → Event
event_by job ask reply = record { job = job; ask = ask; reply = reply }

-- whether a job has to be late to be told this
abbrev pub is_due : Ask → Reply → Bool
is_due ask replies.Late = is_some (timeout_of ask)
is_due ask _ = false

-- how a job is stepped that is told it
abbrev pub way_of : Ask → Reply → Way
way_of ask reply = if is_due ask reply then ways.Late else ways.Go

-- the event at a place of the history is this, of whichever job
abbrev pub IsThere : History → ℕ → Ask → Reply → Type 0
IsThere history place ask reply = (job : ℕ) × (slice_get history place ≡ Some (event_by job ask reply))

-- Behind the history the job asks this, and is told that; it is shown as it stands there; and what all jobs share has served it so, if that serves it.
pub record MakesAgain (image : Loaded) (opening : Shared) (history : History) (job : ℕ) (ask : Ask) (reply : Reply) (new : Shown) : Type 0 where
  pub more : new.history ≡ history ++ event_by job ask reply ∷ []
  pub at : AtAsk
  pub stands : stand_at new.stands job ≡ Some at
  pub asks : AsksFrom (program_of image) opening history job ask (innermost at.places)
  pub told : is_shared ask ≡ true → (late : Bool) × (served (state_of opening history) job ask late ≡ Some (reply, state_of opening new.history))

-- what a job asks that waits, and the line of its innermost frame; or it doesn't wait
abbrev pub SeesAsk : Run → Option (Ask × Spot) → Type 0
SeesAsk run None = run.pending ≡ None
SeesAsk run (Some next) = (run.pending ≡ Some next.0) × (next.1 ≡ innermost (places run.at.state))
