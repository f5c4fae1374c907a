use Rattle.std.proofs.Common.{◌≡◌, drop}
use Rattle.mj_inspect.specs.Spots.{entry_line}
use Rattle.mj_inspect.proofs.spots.line_of_entry.Given as goal

-- the routines that are left decide
abbrev pub invariant-loop-routine : goal.invariant-loop-routine
invariant-loop-routine l = entry_line (drop l.routine-index l.routine-items) l.entry ≡ entry_line l.fn.image.routines l.fn.entry
