use Rattle.std.proofs.Common.{◌≡◌, take, false}
use Rattle.mj_locktab.specs.Locks.{is_past_limit}
use Rattle.mj_locktab.specs.Changes.{after_take}
use Rattle.mj_locktab.specs.Told.{Tell, stands_of}
use Rattle.mj_locktab.specs.Parts.{holds_of, AreParts}
use Rattle.mj_locktab.proofs.held.take_each.Given as goal

-- so far each name is taken, and no limit is passed
abbrev pub invariant-loop-i : goal.invariant-loop-i
invariant-loop-i l = record {
  parts : AreParts l.parts.entries;
  same : holds_of l.parts.entries ≡ after_take (holds_of l.fn.parts.entries) l.job (take l.i l.names);
  within : is_past_limit (holds_of l.parts.entries) l.job ≡ false;
  told : Tell (stands_of l.index) (holds_of l.parts.entries);
}
