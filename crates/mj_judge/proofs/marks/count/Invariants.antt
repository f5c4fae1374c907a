use Rattle.std.proofs.Common.{◌≡◌, ◌≤◌, take}
use Rattle.std.specs.List.{count_by}
use Rattle.mj_judge.specs.Marks.{bears}
use Rattle.mj_judge.proofs.marks.count.Given as goal

-- how many there are up to here, which are no more than events
abbrev pub invariant-events : goal.invariant-events
invariant-events g l = record {
  counted : l.count ≡ count_by (bears l.mark) (take l.at l.core.history);
  few : l.count ≤ l.at;
}
