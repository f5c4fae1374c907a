use Rattle.std.proofs.Common.{◌≡◌, ◌++◌, take, drop}
use Rattle.mj_nref.specs.Reading.{front_of, rest_of}
use Rattle.mj_nref.proofs.read.split_front.Given as goal

abbrev pub invariant-loop-place : goal.invariant-loop-place
invariant-loop-place l =
    (front_of l.bytes ≡ take l.place l.bytes ++ front_of (drop l.place l.bytes)) × (rest_of l.bytes ≡ rest_of (drop l.place l.bytes))
