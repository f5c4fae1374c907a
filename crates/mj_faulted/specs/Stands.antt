-- Where the private run of a job stands, and where it comes to its fault.
use Rattle.std.specs.Prelude.{◌≡◌, ℕ, ◌+◌, List, ◌++◌, drop}
use Rattle.mj_text.specs.declared.fault.Fault.{Fault}
use Rattle.mj_ask.specs.declared.ask.Reply.{Reply}
use Rattle.mj_semantics.specs.Job.{Start, next}
use Rattle.mj_load.specs.Image.{Loaded, program_of}
use Rattle.mj_machine.specs.declared.control.Control.TheVariants.{Faulted}
use Rattle.mj_machine.specs.Standing.{Standing, onward}
use Rattle.mj_turn.specs.Sound.{IsSound}
use Rattle.mj_jobvm.specs.Jobs.{code_in}

-- After so many turns of the run that gets these replies, what is left of it, whatever is told behind them, is what is left where it stands here, with the
-- replies that were not taken yet. It stands where no operand and no FOR is missing.
pub record Stands (image : Loaded) (start : Start) (replies : List Reply) (turns taken : ℕ) (at : Standing) : Type 0 where
  pub rest : (n : ℕ) (behind : List Reply)
      → onward (code_in image start) n at (drop taken replies ++ behind) ≡ next (program_of image) start (turns + n) (replies ++ behind)
  pub sound : IsSound image.units at

-- after so many turns the run has come to this fault, and stands there
pub record ComesTo (image : Loaded) (start : Start) (replies : List Reply) (fault : Fault) (turns : ℕ) (at : Standing) : Type 0 where
  pub taken : ℕ
  pub stands : Stands image start replies turns taken at
  pub which : at.control ≡ Faulted fault

-- the run stands there, and its next turn comes to this fault, where it stands then
pub record FaultsAt (image : Loaded) (start : Start) (replies : List Reply) (fault : Fault) (at fallen : Standing) : Type 0 where
  pub turns : ℕ
  pub taken : ℕ
  pub stands : Stands image start replies turns taken at
  pub comes : ComesTo image start replies fault (turns + 1) fallen
