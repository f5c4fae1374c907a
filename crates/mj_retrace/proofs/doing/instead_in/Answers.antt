use Rattle.std.proofs.Common.{◌≤◌, length, sym, ap, subst}
use Rattle.mj_core.specs.Shown.{Shown}
use Rattle.mj_retrace.proofs.doing.instead_in.Goals as goal

pub instead_of-found-requires-clause-none : goal.instead_of-found-requires-clause-none
instead_of-found-requires-clause-none g c = ap (λ (s : Shown). s.history) c.in-Ok.ensures.ok

pub instead_of-found-requires-clause-over : goal.instead_of-found-requires-clause-over
instead_of-found-requires-clause-over g c = ap (λ (s : Shown). s.over) c.in-Ok.ensures.ok

-- the core has the image that it was given
pub instead_of-found-requires-clause-short : goal.instead_of-found-requires-clause-short
instead_of-found-requires-clause-short g c = subst (λ (s : Shown). length c.args.events.now ≤ s.image.bounds.events) (sym c.in-Ok.ensures.ok) c.requires.room
