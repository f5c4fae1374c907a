use Rattle.std.proofs.Common.{◌≡◌}
use Rattle.mj_explain.specs.Landings.{globals_to}
use Rattle.mj_explain.proofs.causes.go_to.Given as goal

abbrev pub invariant-loop-place : goal.invariant-loop-place
invariant-loop-place l = l.globals.content ≡ globals_to l.events l.fn.globals.content l.place
