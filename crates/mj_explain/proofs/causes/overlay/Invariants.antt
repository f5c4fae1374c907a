use Rattle.std.proofs.Common.{take}
use Rattle.mj_txlog.specs.Laid.{IsLaid}
use Rattle.mj_explain.proofs.causes.overlay.Given as goal

abbrev pub invariant-loop-entry : goal.invariant-loop-entry
invariant-loop-entry l = IsLaid l.over (take l.entry-index l.own)
