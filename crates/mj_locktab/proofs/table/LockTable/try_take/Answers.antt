use Rattle.std.proofs.Common.{◌≡◌, Bool, None, sym, ap, subst}
use Rattle.mj_locktab.specs.declared.taken.Taken.TheVariants as takes
use Rattle.mj_locktab.specs.Locks.{Locks, IsLockTable}
use Rattle.mj_locktab.specs.Visits.{Visited}
use Rattle.mj_locktab.specs.Changes.{after_take}
use Rattle.mj_locktab.specs.Parts.{holds_of}
use Rattle.mj_locktab.specs.Tries.{conflict_of, IsInTheWay, TryGives, TakeLeaves}
use Rattle.mj_locktab.proofs.Apart.{in_the_way, all_free}
use Rattle.mj_locktab.proofs.Kept.{kept-after_take, got_try, limit_try}
use Rattle.mj_locktab.proofs.table.LockTable.try_take.Goals as goal

-- another job's hold is in the way, and nothing changes
pub returns-in_ok-name-in-Some-clause-meaning : goal.returns-in_ok-name-in-Some-clause-meaning
returns-in_ok-name-in-Some-clause-meaning c =
    let locks = holds_of c.self.inside.held.entries in
    let there = in_the_way locks c.args.job c.args.names.now _ c.self.invariant.0.counted (sym c.in-Some.ensures.conflict) in
    let named = subst (IsInTheWay locks c.args.job c.args.names.now c.in-Some.holder) (sym c.in_ok-name-in-Some.ensures) there in
    (subst (λ (v : Visited). IsInTheWay v.holds c.args.job c.args.names.now c.in-Some.holder c.in_ok-name-in-Some.name) c.self.view_is named, ap (λ (v : Visited). v.holds) c.self.view_is)

-- a limit would be passed, and nothing changes
pub returns-then-not-branch-clause-meaning : goal.returns-then-not-branch-clause-meaning
returns-then-not-branch-clause-meaning c =
    let locks = holds_of c.self.inside.held.entries in
    let new = holds_of c.take_each.new.parts.entries in
    let none : conflict_of locks c.args.job c.args.names.now ≡ None = sym c.in-None.ensures.conflict in
    let t = subst (λ (b : Bool). TakeLeaves locks (after_take locks c.args.job c.args.names.now) c.args.job b new) c.if-not-branch.true c.in_ok-take_each-in-None.ensures.ok in
    let told = (limit_try locks c.args.job c.args.names.now none t.1).2 in
    subst (λ (v : Visited). TryGives v.holds c.args.job c.args.names.now takes.Limit new) c.self.view_is
    (subst (λ (l : Locks). TryGives locks c.args.job c.args.names.now takes.Limit l) (sym t.0) told)

-- the names are got
pub returns-else-not-branch-clause-meaning : goal.returns-else-not-branch-clause-meaning
returns-else-not-branch-clause-meaning c =
    let locks = holds_of c.self.inside.held.entries in
    let new = holds_of c.take_each.new.parts.entries in
    let none : conflict_of locks c.args.job c.args.names.now ≡ None = sym c.in-None.ensures.conflict in
    let t = subst (λ (b : Bool). TakeLeaves locks (after_take locks c.args.job c.args.names.now) c.args.job b new) c.if-not-branch.false c.in_ok-take_each-in-None.ensures.ok in
    let told = (got_try locks c.args.job c.args.names.now none t.1).2 in
    subst (λ (v : Visited). TryGives v.holds c.args.job c.args.names.now takes.Got new) c.self.view_is
    (subst (λ (l : Locks). TryGives locks c.args.job c.args.names.now takes.Got l) (sym t.0) told)

-- what is asked for is free where nothing is in the way
pub take_each-requires-clause-free : goal.take_each-requires-clause-free
take_each-requires-clause-free c = all_free (holds_of c.self.inside.held.entries) c.args.job c.args.names.now (sym c.in-None.ensures.conflict)

pub invariant_of-self-in-None : goal.invariant_of-self-in-None
invariant_of-self-in-None c =
    let locks = holds_of c.self.inside.held.entries in
    let new = holds_of c.take_each.new.parts.entries in
    let none : conflict_of locks c.args.job c.args.names.now ≡ None = sym c.in-None.ensures.conflict in
    let t = subst (λ (b : Bool). TakeLeaves locks (after_take locks c.args.job c.args.names.now) c.args.job b new) c.if-not-branch.false c.in_ok-take_each-in-None.ensures.ok in (
      subst IsLockTable (sym t.0) (kept-after_take locks c.args.job c.args.names.now c.self.invariant.0 (all_free locks c.args.job c.args.names.now none) t.1),
      c.take_each.ensures.parts,
      c.take_each.ensures.told,
    )
