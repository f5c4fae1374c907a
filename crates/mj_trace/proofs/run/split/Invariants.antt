use Rattle.std.proofs.Common.{◌≡◌, ◌++◌, take, drop}
use Rattle.mj_trace.specs.Reading.{front, behind_bytes}
use Rattle.mj_trace.proofs.run.split.Given as goal

abbrev pub invariant-loop-place : goal.invariant-loop-place
invariant-loop-place l =
    (front l.run l.bytes ≡ take l.place l.bytes ++ front l.run (drop l.place l.bytes))
    × (behind_bytes l.run l.bytes ≡ behind_bytes l.run (drop l.place l.bytes))
