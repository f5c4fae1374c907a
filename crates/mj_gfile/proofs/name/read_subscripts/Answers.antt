-- The loop reads one subscript after the other, as the definition does.
use Rattle.std.proofs.Common.{◌-◌, ◌∙◌, ◌+◌, ◌++◌, [], ◌∷◌, refl, length, Some, ap, arith}
use Rattle.mj_gfile.specs.Reading.{item_at}
use Rattle.mj_gfile.proofs.Joined.{item_inverted, no_item, last_item, next_item, none_left}
use Rattle.mj_gfile.proofs.name.read_subscripts.Goals as goal

pub returns : goal.returns
returns c = none_left c.args.limit c.loop-place.invariant.0 _ c.loop-place.rest.now _ c.loop-place.invariant.1.0 (omega arith)

pub returns-in_default : goal.returns-in_default
returns-in_default c =
    no_item c.args.limit c.loop-place.invariant.0 (length c.args.list.now - (c.loop-place._place + 1)) (length c.args.list.now - c.loop-place._place) c.loop-place.rest.now _
    c.loop-place.invariant.1.0 (omega arith) (rw c.in_default.is at c.in_ok-sub.ensures)

pub returns-then-not-more : goal.returns-then-not-more
returns-then-not-more c =
    let it = item_inverted c.args.limit c.in-Some.sub c.in-Some.more c.in-Some.behind.now (item_at c.loop-place.rest.now) (rw c.in-Some.is at c.in_ok-sub.ensures) in
    last_item c.args.limit c.loop-place.invariant.0 (length c.args.list.now - (c.loop-place._place + 1)) (length c.args.list.now - c.loop-place._place) c.loop-place.rest.now _
    c.loop-place.invariant.1.0 (omega arith) it.0 c.in-Some.behind.now (it.1.0 ∙ ap (λ more. Some (it.0, more, c.in-Some.behind.now)) c.if-not-more.true)
    _ (c.in_ok-subs.ensures c.args.limit c.loop-place.invariant.0 it.0 c.loop-place.invariant.1.1 it.1.1)

pub loop-place-preserved : goal.loop-place-preserved
loop-place-preserved c =
    let it = item_inverted c.args.limit c.in-Some.sub c.in-Some.more c.in-Some.behind.now (item_at c.loop-place.rest.now) (rw c.in-Some.is at c.in_ok-sub.ensures) in (
      c.loop-place.invariant.0 ++ it.0 ∷ [],
      (
        next_item c.args.limit c.loop-place.invariant.0 (length c.args.list.now - (c.loop-place._place + 1)) (length c.args.list.now - c.loop-place._place) c.loop-place.rest.now _
            c.loop-place.invariant.1.0 (omega arith) it.0 c.in-Some.behind.now (length c.args.list.now - (c.loop-place._place + 1))
            (it.1.0 ∙ ap (λ more. Some (it.0, more, c.in-Some.behind.now)) c.if-not-more.false) refl,
        c.in_ok-subs.ensures c.args.limit c.loop-place.invariant.0 it.0 c.loop-place.invariant.1.1 it.1.1,
      ),
    )
