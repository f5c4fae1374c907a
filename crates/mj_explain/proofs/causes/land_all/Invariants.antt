use Rattle.std.proofs.Common.{◌≡◌}
use Rattle.mj_explain.specs.Landings.{globals_behind}
use Rattle.mj_explain.proofs.causes.land_all.Given as goal

abbrev pub invariant-loop-landing : goal.invariant-loop-landing
invariant-loop-landing l = l.globals.content ≡ globals_behind l.events l.made l.fn.globals.content l.landing-index
