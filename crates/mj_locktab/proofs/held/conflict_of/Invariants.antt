use Rattle.std.proofs.Common.{◌≡◌, ◌+◌, ◌-◌, ◌^◌, min, ◌≤◌, drop}
use Rattle.mj_locktab.specs.Tries.{conflict_of}
use Rattle.mj_locktab.specs.Told.{visits_limit}
use Rattle.mj_locktab.specs.Parts.{holds_of}
use Rattle.mj_locktab.proofs.held.conflict_of.Given as goal

-- of the names that are left the first conflict is that of all, and the nodes that they may take are left
abbrev pub invariant-loop-name : goal.invariant-loop-name
invariant-loop-name l = record {
  conflict : conflict_of (holds_of l.parts.entries) l.job (drop l.name-index l.names) ≡ conflict_of (holds_of l.parts.entries) l.job l.names;
  looked : min (l.fn.visits + l.name-index) (2 ^ 64 - 1) ≤ l.visits;
  visits : l.visits + visits_limit (drop l.name-index l.names) ≤ l.fn.visits + visits_limit l.names;
}
