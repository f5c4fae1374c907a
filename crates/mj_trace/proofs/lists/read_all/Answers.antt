-- The loop reads one thing after the other, as the definition does.
use Rattle.std.proofs.Common.{◌-◌, ◌+◌, ◌∙◌, length, sym, arith}
use Rattle.mj_trace.proofs.Listed.{none_left, no_more, last_one, next_one}
use Rattle.mj_trace.proofs.lists.read_all.Goals as goal

pub returns-in_default : goal.returns-in_default
returns-in_default g c =
    sym (no_more g.L.List.one _ (length c.args.bytes.now + 1 - c.loop-place._place) c.loop-place.list c.loop-place.rest.now c.loop-place.invariant
    (length c.args.bytes.now - c.loop-place._place) (omega arith) (rw c.in_default.is at c.in_ok-behind.ensures))

pub returns-then-not-begins_with : goal.returns-then-not-begins_with
returns-then-not-begins_with g c =
    sym (last_one g.L.List.one _ (length c.args.bytes.now + 1 - c.loop-place._place) c.loop-place.list c.loop-place.rest.now c.loop-place.invariant
    (length c.args.bytes.now - c.loop-place._place) (omega arith) c.more.new.self c.in-Some.behind.now (rw c.in-Some.is at c.in_ok-behind.ensures)
    (sym c.begins_with.ensures ∙ c.if-not-begins_with.true))

pub loop-place-preserved : goal.loop-place-preserved
loop-place-preserved g c =
    next_one g.L.List.one _ (length c.args.bytes.now + 1 - c.loop-place._place) c.loop-place.list c.loop-place.rest.now c.loop-place.invariant (length c.args.bytes.now + 1 - (c.loop-place._place + 1))
    (omega arith) c.more.new.self c.in-Some.behind.now (rw c.in-Some.is at c.in_ok-behind.ensures) (sym c.begins_with.ensures ∙ c.if-not-begins_with.false) c.skip-rest.result.now c.skip-rest.ensures

pub returns : goal.returns
returns g c = sym (none_left g.L.List.one _ (length c.args.bytes.now + 1 - c.loop-place._place) c.loop-place.list c.loop-place.rest.now c.loop-place.invariant (omega arith))
