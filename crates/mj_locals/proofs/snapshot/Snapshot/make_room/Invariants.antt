use Rattle.std.proofs.Common.{◌≡◌, ℕ, List, take}
use Rattle.mj_locals.specs.Trees.{at}
use Rattle.mj_locals.specs.Hiding.{Grows}
use Rattle.mj_locals.specs.Snapshots.{HaveRoom}
use Rattle.mj_locals.proofs.snapshot.Snapshot.make_room.Given as goal

-- the words so far have rows
abbrev pub invariant-loop-row : goal.invariant-loop-row
invariant-loop-row l = record {
  room : HaveRoom l.table (take l.row-index l.row-items);
  grows : Grows l.fn.table l.table;
  same : (v : List ℕ) → at l.table v ≡ at l.fn.table v;
}
