use Rattle.std.proofs.Common.{◌≡◌}
use Rattle.mj_explain.specs.Landings.{globals_behind}
use Rattle.mj_explain.specs.Clashes.{told_on, IsLast}
use Rattle.mj_explain.proofs.causes.turn.Given as goal

abbrev pub invariant-loop-landing : goal.invariant-loop-landing
invariant-loop-landing l =
    (l.globals.content ≡ globals_behind l.events l.made l.fn.globals.content l.landing-index)
    × (l.told ≡ told_on l.read l.own l.globals.content)
    × IsLast l.events l.made l.fn.globals.content l.read l.own l.landing-index l.found
