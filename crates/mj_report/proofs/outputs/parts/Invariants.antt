use Rattle.std.proofs.Common.{◌≡◌}
use Rattle.mj_dev.specs.Shelves.{principal}
use Rattle.mj_core.specs.Runs.{out_of}
use Rattle.mj_report.specs.Printed.{parts}
use Rattle.mj_report.proofs.outputs.parts.Given as goal

-- the parts of the jobs that are done
abbrev pub invariant-jobs : goal.invariant-jobs
invariant-jobs g l = l.bytes.items ≡ parts (λ job. out_of (g.H.Events.history l.fn.told) job principal 1) l.done
