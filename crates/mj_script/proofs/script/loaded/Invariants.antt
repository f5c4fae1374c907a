use Rattle.std.proofs.Common.{All, ◌≤◌, length, take}
use Rattle.std.specs.List.{AllZip}
use Rattle.mj_load.specs.Image.{IsWithinLimits}
use Rattle.mj_script.specs.Scripts.{IsReadFrom, source_of}
use Rattle.mj_script.proofs.script.loaded.Given as goal

-- what was read is within the limits of an image, and of the sources up to here
abbrev pub invariant-sources : goal.invariant-sources
invariant-sources l = record {
  within : All IsWithinLimits l.routines.items;
  read : AllZip (λ source routine. IsReadFrom (source_of source) routine) (take l.source-index l.sources) l.routines.items;
  up : l.source-index ≤ length l.sources;
}
