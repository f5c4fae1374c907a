use Rattle.std.proofs.Common.{◌≡◌, ◌++◌}
use Rattle.mj_dev.specs.Shelves.{principal}
use Rattle.mj_core.specs.Runs.{out_of}
use Rattle.mj_explore.specs.Ends.{outputs_of}
use Rattle.mj_explore.proofs.ends.put_outputs.Given as goal

-- what the jobs that are done wrote
abbrev pub invariant-jobs : goal.invariant-jobs
invariant-jobs g l = l.text.items ≡ l.fn.text.items ++ outputs_of (λ job. out_of l.core.history job principal 1) l.done
