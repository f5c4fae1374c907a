use Rattle.std.proofs.Common.{◌≢◌, All}
use Rattle.mj_dev.specs.Shelves.{principal}
use Rattle.mj_script.specs.Scripts.{supply_names}
use Rattle.mj_search.proofs.searching.supplies.Given as goal

-- none has the name of the principal devices
abbrev pub invariant-loop-word : goal.invariant-loop-word
invariant-loop-word g l = All (λ name. name ≢ principal) (supply_names l.supplies.items)
