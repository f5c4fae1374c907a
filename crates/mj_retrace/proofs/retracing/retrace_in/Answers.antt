use Rattle.std.proofs.Common.{◌≤◌, length, sym, ap, subst}
use Rattle.mj_sys.specs.Shared.{Shared}
use Rattle.mj_core.specs.Shown.{Shown}
use Rattle.mj_retrace.proofs.retracing.retrace_in.Goals as goal

pub through-told-requires-clause-none : goal.through-told-requires-clause-none
through-told-requires-clause-none g c = ap (λ (s : Shown). s.history) c.in-Ok.ensures.ok

pub through-told-requires-clause-over : goal.through-told-requires-clause-over
through-told-requires-clause-over g c = ap (λ (s : Shown). s.over) c.in-Ok.ensures.ok

-- nobody holds a name at an opening
pub through-told-requires-clause-free : goal.through-told-requires-clause-free
through-told-requires-clause-free g c = ap (λ (s : Shared). s.locks) (sym c.requires.opening)

-- the core has the image that it was given
pub through-told-requires-clause-short : goal.through-told-requires-clause-short
through-told-requires-clause-short g c = subst (λ (s : Shown). length c.args.events.now ≤ s.image.bounds.events) (sym c.in-Ok.ensures.ok) c.requires.room
