use Rattle.std.proofs.Common.{All, ◌≤◌, length, take}
use Rattle.mj_load.specs.Image.{IsWithinLimits}
use Rattle.mj_begin.specs.Words.{WereRead}
use Rattle.mj_begin.proofs.routines.loaded.Given as goal

-- what was read is within the limits of an image, and of the files up to here
abbrev pub invariant-loop-file : goal.invariant-loop-file
invariant-loop-file g l = record {
  within : All IsWithinLimits l.routines.items;
  were : WereRead (take l.file-index l.files) l.routines.items;
  up : l.file-index ≤ length l.files;
}
