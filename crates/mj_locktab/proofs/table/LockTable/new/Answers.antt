use Rattle.std.proofs.Common.{◌≡◌, [], sym, ap, subst}
use Rattle.mj_locktab.specs.Locks.{IsLockTable}
use Rattle.mj_locktab.specs.Told.{Tell, stands_of}
use Rattle.mj_locktab.specs.Parts.{Parts, holds_of, part_at, IsPart}
use Rattle.mj_locktab.proofs.Kept.{kept-none}
use Rattle.mj_locktab.proofs.Follows.{told_none}
use Rattle.mj_locktab.proofs.Parts.{no_part}
use Rattle.mj_locktab.proofs.table.LockTable.new.Goals as goal

pub invariant_of-result : goal.invariant_of-result
invariant_of-result c =
    let empty : holds_of c.new.result.entries ≡ [] = ap holds_of c.new.ensures.empty in (
      subst IsLockTable (sym empty) kept-none,
      record { rises = c.new.ensures.ordered; each = λ j. subst (λ (es : Parts). IsPart j (part_at es j)) (sym c.new.ensures.empty) (no_part j) },
      subst (Tell (stands_of c.new-2.result)) (sym empty) (told_none (stands_of c.new-2.result) c.new-2.ensures),
    )
