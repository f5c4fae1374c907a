use Rattle.std.proofs.Common.{length}
use Rattle.mj_locktab.specs.Told.{Tell, stands_of}
use Rattle.mj_locktab.specs.Parts.{holds_of, held_by, with_left}
use Rattle.mj_locktab.proofs.Left.{IsRest}
use Rattle.mj_locktab.proofs.held.give_all.Given as goal

-- what is left of the job's holds is its own, and of all holds the trees tell those that are left
abbrev pub invariant-loop-name : goal.invariant-loop-name
invariant-loop-name l = record {
  rest : IsRest (holds_of l.fn.parts.entries) l.job (held_by l.job l.part.entries);
  told : Tell (stands_of l.index) (with_left (holds_of l.fn.parts.entries) l.job (held_by l.job l.part.entries));
}

abbrev pub decreases-loop-name : goal.decreases-loop-name
decreases-loop-name l = length l.part.entries
