use Rattle.std.proofs.Common.{◌≡◌, drop}
use Rattle.mj_files.specs.Named.{with_principals, with_devices}
use Rattle.mj_jobs.specs.Rows.{rows_limit}
use Rattle.mj_script.specs.Scripts.{supply_names}
use Rattle.mj_script.proofs.script.Script.pool.Given as goal

-- those that are left to add
abbrev pub invariant-supplies : goal.invariant-supplies
invariant-supplies l =
    with_devices (supply_names (drop l.supply-index l.supply-items)) l.pool
    ≡ with_devices (supply_names l.supply-items) (with_principals rows_limit)
