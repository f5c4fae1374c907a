use Rattle.std.proofs.Common.{◌≡◌, [], drop, take}
use Rattle.mj_load.specs.Image.{repeated, names_of}
use Rattle.mj_load.proofs.loading.second.Given as goal

-- none so far has the name of one before it
abbrev pub invariant-loop-k : goal.invariant-loop-k
invariant-loop-k l = repeated (names_of (take l.k l.routines)) (names_of (drop l.k l.routines)) ≡ repeated [] (names_of l.routines)
