-- What was told on the way, as the exit status says it.
use Rattle.std.specs.Prelude.{ℕ, if◌then◌else◌}
use Rattle.mj_remade.specs.declared.said.Said.{Said}

-- the exit status of what was told
abbrev pub status_said : Said → ℕ
status_said said = if said.full then 4 else if said.differs then 1 else 0
