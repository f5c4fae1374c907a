use Rattle.std.proofs.Common.{Some, None, sym, ap, ◌∙◌}
use Rattle.mj_locktab.specs.Locks.{Locks}
use Rattle.mj_locktab.specs.Tries.{conflict_with}
use Rattle.mj_locktab.specs.Told.{stands_of}
use Rattle.mj_locktab.specs.Parts.{holds_of}
use Rattle.mj_locktab.proofs.Conflicts.{no_conflict}
use Rattle.mj_locktab.proofs.Least.{conflict_of_least}
use Rattle.mj_locktab.proofs.Parts.{counted_parts}
use Rattle.mj_locktab.proofs.Refilled.{part_found}
use Rattle.mj_locktab.proofs.held.conflict_with.Goals as goal

-- no other job is in the way
pub returns-in-None-clause-conflict : goal.returns-in-None-clause-conflict
returns-in-None-clause-conflict c =
    let parts = c.args.parts.now.entries in
    sym (no_conflict (stands_of c.args.index.now) (holds_of parts) c.args.job c.args.name.now c.requires.told (counted_parts parts c.requires.parts) c.in-None.ensures.least)

-- one is, and the first of its holds in the way is the first of all
pub returns-in-None-get-clause-conflict : goal.returns-in-None-get-clause-conflict
returns-in-None-get-clause-conflict c =
    let parts = c.args.parts.now.entries in
    let n = c.args.name.now in
    let found = part_found parts c.in-Some.least None c.in-None-get.ensures.value in
    sym (conflict_of_least (stands_of c.args.index.now) parts c.args.job n c.requires.parts c.requires.told c.in-Some.least c.in-Some.ensures.least
    ∙ ap (λ (l : Locks). conflict_with l c.args.job n) found)

pub returns-in-Some-get-clause-conflict : goal.returns-in-Some-get-clause-conflict
returns-in-Some-get-clause-conflict c =
    let parts = c.args.parts.now.entries in
    let n = c.args.name.now in
    let found = part_found parts c.in-Some.least (Some c.in-Some-get.part.now) c.in-Some-get.ensures.value in
    c.first_conflict.ensures
    ∙ sym (conflict_of_least (stands_of c.args.index.now) parts c.args.job n c.requires.parts c.requires.told c.in-Some.least c.in-Some.ensures.least
    ∙ ap (λ (l : Locks). conflict_with l c.args.job n) found)
