use Rattle.std.proofs.Common.{◌≡◌, drop}
use Rattle.mj_ask.specs.declared.entry.Entry.{Entry}
use Rattle.mj_pcode.specs.Found.{found_from}
use Rattle.mj_pcode.proofs.find.find_in.Given as goal

-- those before it have other names
abbrev pub invariant-loop-at : goal.invariant-loop-at
invariant-loop-at l =
    let entry : Entry = record { label = l.label; routine = l.routine } in
    found_from l.at (drop l.at l.units) entry ≡ found_from 0 l.units entry
