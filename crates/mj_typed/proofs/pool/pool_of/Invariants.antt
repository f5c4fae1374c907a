use Rattle.std.proofs.Common.{◌≡◌, drop}
use Rattle.mj_files.specs.Named.{with_principals, with_devices}
use Rattle.mj_typed.specs.Named.{names_in}
use Rattle.mj_typed.proofs.pool.pool_of.Given as goal

-- those that are left to add
abbrev pub invariant-words : goal.invariant-words
invariant-words g l = with_devices (names_in (drop l.word-index l.words)) l.pool ≡ with_devices (names_in l.words) (with_principals l.principals)
