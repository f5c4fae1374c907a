use Rattle.std.proofs.Common.{sym, subst, ap}
use Rattle.mj_locktab.specs.Locks.{Locks, IsLockTable}
use Rattle.mj_locktab.specs.Visits.{Visited}
use Rattle.mj_locktab.specs.Changes.{FallsBy}
use Rattle.mj_locktab.specs.Parts.{holds_of}
use Rattle.mj_locktab.proofs.Counts.{falls}
use Rattle.mj_locktab.proofs.Kept.{kept-after_give}
use Rattle.mj_locktab.proofs.table.LockTable.give.Goals as goal

pub invariant_of-self : goal.invariant_of-self
invariant_of-self c = (
  subst IsLockTable (sym c.give_each.ensures.after) (kept-after_give (holds_of c.self.inside.held.entries) c.args.job c.args.names.now c.self.invariant.0),
  c.give_each.ensures.parts,
  c.give_each.ensures.told,
)

pub returns-clause-counts : goal.returns-clause-counts
returns-clause-counts c =
    let locks = holds_of c.self.inside.held.entries in
    subst (λ (v : Visited). FallsBy v.holds c.args.job c.args.names.now (holds_of c.give_each.new.parts.entries)) c.self.view_is
    (subst (λ (l : Locks). FallsBy locks c.args.job c.args.names.now l) (sym c.give_each.ensures.after) (falls locks c.args.job c.args.names.now))

pub returns-clause-visits : goal.returns-clause-visits
returns-clause-visits c = ap (λ (v : Visited). v.visits) c.self.view_is
