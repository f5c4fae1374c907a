use Rattle.std.proofs.Common.{◌≡◌}
use Rattle.mj_locktab.specs.Tries.{conflict_with}
use Rattle.mj_locktab.specs.Parts.{held_by}
use Rattle.mj_locktab.proofs.part.first_conflict.Given as goal

-- among the names that are left the first conflict is that of all
abbrev pub invariant-loop-held : goal.invariant-loop-held
invariant-loop-held l = conflict_with (held_by l.holder l.held-iterator) l.job l.name ≡ conflict_with (held_by l.holder l.part.entries) l.job l.name
