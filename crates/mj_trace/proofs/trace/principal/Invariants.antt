use Rattle.std.proofs.Common.{◌≡◌, drop}
use Rattle.mj_trace.specs.Lines.{principal}
use Rattle.mj_trace.proofs.trace.principal.Given as goal

abbrev pub invariant-loop-name : goal.invariant-loop-name
invariant-loop-name l = record { same : principal l.pool ≡ principal (drop l.name-index l.pool) }
