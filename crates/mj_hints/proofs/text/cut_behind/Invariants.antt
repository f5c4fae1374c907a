use Rattle.std.proofs.Common.{ℕ, List, ◌≤◌, ◌-◌, length}
use Rattle.mj_hints.specs.Refusals.{IsCutBehind}
use Rattle.mj_hints.proofs.text.cut_behind.Given as goal

-- the rest stands behind so many lines
abbrev pub invariant-lines : goal.invariant-lines
invariant-lines l = record {
  count : l.count ≤ l.place;
  short : length l.rest ≤ length l.bytes;
  behind : (front : List ℕ) × IsCutBehind l.count l.bytes front l.rest;
}

abbrev pub decreases-lines : goal.decreases-lines
decreases-lines l = l.place - l.count
