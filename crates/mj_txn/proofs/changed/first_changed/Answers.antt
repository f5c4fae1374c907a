use Rattle.std.proofs.Common.{◌≡◌, ℕ, List, length, sym, ap, ◌∙◌, subst}
use Rattle.mj_txlog.specs.Accesses.{Accesses}
use Rattle.mj_txlog.specs.Follows.{AreFollowing, stale_among}
use Rattle.mj_txn.proofs.Replies.{all_hold}
use Rattle.mj_txn.proofs.changed.first_changed.Goals as goal

pub returns-then-stale-eq0-clause-first : goal.returns-then-stale-eq0-clause-first
returns-then-stale-eq0-clause-first c =
    let g = c.args.globals.now in
    let log = c.args.log.now in
    let each : length log.stamps ≡ length log.transaction.accesses = ap length (sym c.stamps-stamps.ensures.value) ∙ c.stamps-stamps.ensures.each in
    let none : stale_among g.stamps log.transaction.accesses log.stamps ≡ 0 = sym c.stale.ensures ∙ c.if-stale-eq0.true in
    all_hold g log.transaction.accesses log.stamps each c.requires none

pub first_over-found-requires-clause-follow : goal.first_over-found-requires-clause-follow
first_over-found-requires-clause-follow c =
    let g = c.args.globals.now in
    let log = c.args.log.now in
    subst (λ (xs : Accesses). AreFollowing g xs c.stamps-stamps.result.now) (sym c.entries.ensures.value)
    (subst (λ (ss : List ℕ). AreFollowing g log.transaction.accesses ss) (sym c.stamps-stamps.ensures.value) c.requires)
