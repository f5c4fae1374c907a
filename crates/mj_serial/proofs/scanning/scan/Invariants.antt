use Rattle.std.proofs.Common.{◌≡◌, ◌+◌, ◌++◌, drop}
use Rattle.mj_serial.specs.Shown.{shown_from}
use Rattle.mj_serial.proofs.Tables.{at}
use Rattle.mj_serial.proofs.scanning.scan.Given as goal

abbrev pub invariant-loop-place : goal.invariant-loop-place
invariant-loop-place l =
    l.done.items ++ shown_from (l.place + 1) (at l.table.items) (drop l.place l.history) ≡ l.fn.done.items ++ shown_from 1 (at l.fn.table.items) l.history
