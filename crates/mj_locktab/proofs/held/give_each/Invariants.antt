use Rattle.std.proofs.Common.{◌≡◌, drop}
use Rattle.mj_locktab.specs.Changes.{after_give}
use Rattle.mj_locktab.specs.Told.{Tell, stands_of}
use Rattle.mj_locktab.specs.Parts.{holds_of, AreParts}
use Rattle.mj_locktab.proofs.held.give_each.Given as goal

abbrev pub invariant-loop-name : goal.invariant-loop-name
invariant-loop-name l = record {
  parts : AreParts l.parts.entries;
  same : after_give (holds_of l.parts.entries) l.job (drop l.name-index l.names) ≡ after_give (holds_of l.fn.parts.entries) l.job l.names;
  told : Tell (stands_of l.index) (holds_of l.parts.entries);
}
