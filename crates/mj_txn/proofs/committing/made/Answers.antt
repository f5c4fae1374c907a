use Rattle.std.proofs.Common.{◌≡◌, [], Some, None, refl, sym}
use Rattle.mj_txn.specs.declared.changed.Changed.{Changed}
use Rattle.mj_txn.specs.declared.committing.Outcome.TheVariants as outcome
use Rattle.mj_txn.specs.Commits.{Hold, Differs}
use Rattle.mj_txn.proofs.Replies.{told_some, exact}
use Rattle.mj_txn.proofs.committing.made.Goals as goal

pub returns-in-Some-clause-exactly : goal.returns-in-Some-clause-exactly
returns-in-Some-clause-exactly c =
    let g = c.args.globals.now.content in
    let es = c.args.log.now.transaction.accesses in
    exact c.args.log.now.transaction g (outcome.Clash c.in-Some.changed) (
      sym c.if-is_serial.ensures,
      told_some (Hold g [] es) (λ (d : Changed). Differs g es d.place d.«then» d.now) c.in_ok-changed.field-0 c.in-Some.changed c.in_ok-changed.ensures.first c.in-Some.is,
    )

pub returns-in-Some-clause-fresh : goal.returns-in-Some-clause-fresh
returns-in-Some-clause-fresh c none =
    let is : c.in_ok-changed.field-0 ≡ None = c.in_ok-changed.ensures.fresh none in
    let other : c.in_ok-changed.field-0 ≡ Some c.in-Some.changed = c.in-Some.is in
    absurd (let no : ⊥ = cc (is, other) in no)

pub returns-in-Some-clause-others : goal.returns-in-Some-clause-others
returns-in-Some-clause-others c n e = refl
