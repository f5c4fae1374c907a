use Rattle.std.proofs.Common.{length}
use Rattle.mj_steps.proofs.Spelled.{Goes}
use Rattle.mj_steps.proofs.file.read.Given as goal

-- the lines that were read are those of the steps, and the rest is left
abbrev pub invariant-lines : goal.invariant-lines
invariant-lines l = Goes l.bytes l.rest l.steps.items

abbrev pub decreases-lines : goal.decreases-lines
decreases-lines l = length l.rest
