use Rattle.std.proofs.Common.{◌≡◌, ◌∙◌, ◌++◌, ap, arith, append_assoc}
use Rattle.std.specs.List.{repeat}
use Rattle.mj_strfn.proofs.ByteLaws.{made_answers}
use Rattle.mj_strfn.proofs.PieceLaws.{assembled_within, repeat_more, room_more, room_middle, room_back, room_all}
use Rattle.mj_strfn.proofs.pieces.assembled_short.Goals as goal

pub put-requires-in-loop-time : goal.put-requires-in-loop-time
put-requires-in-loop-time c =
    room_more _ c.args.front.now c.args.filling.now c.args.middle.now c.args.back.now c.loop-time._time c.args.times 256 c.loop-time.invariant c.loop-time-test.true c.requires

pub loop-time-preserved : goal.loop-time-preserved
loop-time-preserved c =
    let front = c.args.front.now in
    let filling = c.args.filling.now in
    let n = c.loop-time._time in
    c.put-in-loop-time.ensures ∙ ap (λ l. l ++ filling) c.loop-time.invariant ∙ append_assoc front (repeat n filling) filling ∙ ap (λ l. front ++ l) (repeat_more n filling)

pub put-requires-2 : goal.put-requires-2
put-requires-2 c =
    let past = c.loop-time-test.false in
    let within = c.loop-time.auto._time-end in
    let end : c.loop-time._time ≡ c.args.times = omega arith in
    room_middle _ c.args.front.now c.args.filling.now c.args.middle.now c.args.back.now _ c.args.times 256 c.loop-time.invariant end c.requires

pub put-requires-3 : goal.put-requires-3
put-requires-3 c =
    let past = c.loop-time-test.false in
    let within = c.loop-time.auto._time-end in
    let end : c.loop-time._time ≡ c.args.times = omega arith in
    room_back _ _ c.args.front.now c.args.filling.now c.args.middle.now c.args.back.now _ c.args.times 256 c.put-2.ensures c.loop-time.invariant end c.requires

pub returns : goal.returns
returns c =
    let past = c.loop-time-test.false in
    let within = c.loop-time.auto._time-end in
    let end : c.loop-time._time ≡ c.args.times = omega arith in
    let front = c.args.front.now in
    let filling = c.args.filling.now in
    let middle = c.args.middle.now in
    let back = c.args.back.now in
    let all = room_all _ _ _ front filling middle back _ c.args.times c.put-3.ensures c.put-2.ensures c.loop-time.invariant end in
    made_answers _ _ _ (c.bytes.ensures ∙ all) (assembled_within front filling middle back c.args.times 1048576 (omega (arith, c.requires))) c.from.ensures.ok c.from.ensures.within
