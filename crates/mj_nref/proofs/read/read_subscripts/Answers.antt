-- The loop reads one subscript after the other, as the definition does.
use Rattle.std.proofs.Common.{◌≡◌, ◌-◌, false, Result, Ok, Err, OnOk, is_err, sym, ◌∙◌, arith}
use Rattle.mj_nref.proofs.Joined.{no_item, last_item, next_item, none_left}
use Rattle.mj_nref.proofs.read.read_subscripts.Goals as goal

pub returns : goal.returns
returns c = none_left c.loop-place.subs (31 - c.loop-place._place) c.loop-place.rest.now _ c.loop-place.invariant (omega arith)

pub returns-in_default : goal.returns-in_default
returns-in_default c =
    let nothing = rw c.in_default.is at c.in_ok-sub.ensures in
    no_item c.loop-place.subs (30 - c.loop-place._place) (31 - c.loop-place._place) c.loop-place.rest.now _ c.loop-place.invariant (omega arith) nothing

-- a call that didn't fail
of_ok : {T E : Type 0} (r : Result T E) (P : Type 0) → OnOk r P → is_err r ≡ false → P
of_ok (Ok x) P h e = h
of_ok (Err x) P h e = absurd cc

pub returns-in-None : goal.returns-in-None
returns-in-None c =
    let read = rw (c.in-Some.is, c.in-None.is) at c.in_ok-sub.ensures in
    let pushed = of_ok c.push.result _ c.push.ensures.ok (sym c.is_err.ensures.value ∙ c.if-is_err.false) in
    last_item c.loop-place.subs (30 - c.loop-place._place) (31 - c.loop-place._place) c.loop-place.rest.now _ c.loop-place.invariant (omega arith) c.in-Some.sub c.push.new.self read pushed

pub loop-place-preserved : goal.loop-place-preserved
loop-place-preserved c =
    let read = rw (c.in-Some.is, c.in-Some-next.is) at c.in_ok-sub.ensures in
    let pushed = of_ok c.push.result _ c.push.ensures.ok (sym c.is_err.ensures.value ∙ c.if-is_err.false) in
    next_item c.loop-place.subs (30 - c.loop-place._place) (31 - c.loop-place._place) c.loop-place.rest.now _ c.loop-place.invariant (omega arith) c.in-Some.sub c.in-Some-next.list.now c.push.new.self
    _ read pushed (omega arith)
