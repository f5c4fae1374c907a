use Rattle.mj_load.specs.Image.{program_of}
use Rattle.mj_core.proofs.Placed.{ArePlacedTo}
use Rattle.mj_core.proofs.together.Core.all_places.Given as goal

-- those of the jobs up to here
abbrev pub invariant-loop-at : goal.invariant-loop-at
invariant-loop-at g l = ArePlacedTo (program_of l.self.image) g.O.Opening.opening l.self.history l.at l.list.items
