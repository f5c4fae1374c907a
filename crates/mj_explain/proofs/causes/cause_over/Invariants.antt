use Rattle.std.proofs.Common.{◌≡◌}
use Rattle.mj_explain.specs.Landings.{globals_to}
use Rattle.mj_explain.specs.Clashes.{told_on, IsCause}
use Rattle.mj_explain.proofs.causes.cause_over.Given as goal

abbrev pub invariant-loop-place : goal.invariant-loop-place
invariant-loop-place l =
    (l.globals.content ≡ globals_to l.events l.fn.globals.content l.place)
    × (l.told ≡ told_on l.read l.own l.globals.content)
    × IsCause l.events l.fn.globals.content l.read l.own l.from l.place l.found
