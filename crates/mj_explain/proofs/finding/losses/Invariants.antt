use Rattle.mj_explain.specs.Losses.{AreLosses, AreBefore}
use Rattle.mj_explain.proofs.finding.losses.Given as goal

abbrev pub invariant-loop-place : goal.invariant-loop-place
invariant-loop-place l = AreLosses l.events l.losses.items × AreBefore l.place l.losses.items
