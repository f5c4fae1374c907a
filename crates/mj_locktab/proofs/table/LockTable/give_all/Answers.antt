use Rattle.std.proofs.Common.{sym, subst, ap}
use Rattle.mj_locktab.specs.Locks.{Locks, IsLockTable}
use Rattle.mj_locktab.specs.Visits.{Visited}
use Rattle.mj_locktab.specs.Changes.{IsWithout}
use Rattle.mj_locktab.specs.Parts.{holds_of}
use Rattle.mj_locktab.proofs.Counts.{without}
use Rattle.mj_locktab.proofs.Kept.{kept-after_give_all}
use Rattle.mj_locktab.proofs.table.LockTable.give_all.Goals as goal

pub invariant_of-self : goal.invariant_of-self
invariant_of-self c = (
  subst IsLockTable (sym c.give_all.ensures.after) (kept-after_give_all (holds_of c.self.inside.held.entries) c.args.job c.self.invariant.0),
  c.give_all.ensures.parts,
  c.give_all.ensures.told,
)

pub returns-clause-counts : goal.returns-clause-counts
returns-clause-counts c =
    let locks = holds_of c.self.inside.held.entries in
    subst (λ (v : Visited). IsWithout v.holds c.args.job (holds_of c.give_all.new.parts.entries)) c.self.view_is
    (subst (λ (l : Locks). IsWithout locks c.args.job l) (sym c.give_all.ensures.after) (without locks c.args.job))

pub returns-clause-visits : goal.returns-clause-visits
returns-clause-visits c = ap (λ (v : Visited). v.visits) c.self.view_is
