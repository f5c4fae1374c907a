use Rattle.std.specs.Prelude.{◌≡◌, true, All}
use Rattle.mj_explain.specs.Waiting.{is_deadlock}
use Rattle.mj_explain.proofs.search.deadlocks.Given as goal

abbrev pub invariant-loop : goal.invariant-loop
invariant-loop l = All (λ waits. is_deadlock l.asked l.holds waits.items ≡ true) l.found.items
