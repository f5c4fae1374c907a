use Rattle.std.proofs.Common.{◌≡◌, drop}
use Rattle.mj_store.specs.Questions.{value_at}
use Rattle.mj_store.proofs.flat.value.Given as goal

abbrev pub invariant-loop-entry : goal.invariant-loop-entry
invariant-loop-entry l = value_at (drop l.entry-index l.entries) l.name ≡ value_at l.entries l.name
