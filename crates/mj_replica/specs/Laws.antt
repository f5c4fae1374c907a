-- What holds of all runs.
use Rattle.std.specs.Prelude.{List, ◌++◌}
use Rattle.mj_semantics.specs.Program.{Program}
use Rattle.mj_sys.specs.Shared.{Shared}
use Rattle.mj_sys.specs.History.{History}
use Rattle.mj_core.specs.Runs.{IsRun}

-- a front of a run is a run
abbrev pub AreFrontsRuns : Type 0
AreFrontsRuns = (program : Program) (opening : Shared) (history more : History) → IsRun program opening (history ++ more) → IsRun program opening history
