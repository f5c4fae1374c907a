use Rattle.std.proofs.Common.{◌≡◌, drop}
use Rattle.mj_files.specs.Named.{names_of, with_principals, with_devices}
use Rattle.mj_files.proofs.devices.pool_of.Given as goal

-- those that are left to add
abbrev pub invariant-devices : goal.invariant-devices
invariant-devices g l = with_devices (names_of (drop l.device-index l.devices)) l.pool ≡ with_devices (names_of l.devices) (with_principals l.principals)
