-- How far the run of a job was made that is made once more.
use Rattle.std.specs.Prelude.{◌≤◌, List, map, None}
use Rattle.std.specs.Borrow.{Bor}
use Rattle.mj_ask.specs.declared.ask.Reply.{Reply}
use Rattle.mj_semantics.specs.Job.{Start}
use Rattle.mj_load.specs.Image.{Loaded}
use Rattle.mj_machine.specs.Kept.{standing}
use Rattle.mj_faulted.specs.Stands.{Stands}
use Rattle.mj_faulted.specs.declared.walk.Walk.{Walk}

-- replies that are lent
abbrev pub lent : List (Bor Reply) → List Reply
lent list = map (λ (b : Bor Reply). b.now) list

-- the machine stands where the run does that gets these replies, behind as many turns and with as many replies taken as are counted
pub record IsWalk (image : Loaded) (start : Start) (replies : List Reply) (w : Walk) : Type 0 where
  pub stands : Stands image start replies w.turns w.taken (standing w.machine None)
  pub few : w.taken ≤ w.turns
