use Rattle.std.proofs.Common.{◌≡◌, ◌∙◌, ◌++◌, ap, arith, append_assoc}
use Rattle.std.specs.List.{repeat}
use Rattle.mj_strfn.proofs.ByteLaws.{made_answers}
use Rattle.mj_strfn.proofs.PieceLaws.{assembled_within, repeat_more, room_all}
use Rattle.mj_strfn.proofs.pieces.assembled_long.Goals as goal

pub loop-time-preserved : goal.loop-time-preserved
loop-time-preserved c =
    let front = c.args.front.now in
    let filling = c.args.filling.now in
    let n = c.loop-time._time in
    c.in_ok-extend_from_slice-2.ensures.items
    ∙ ap (λ l. l ++ filling) c.loop-time.invariant
    ∙ append_assoc front (repeat n filling) filling
    ∙ ap (λ l. front ++ l) (repeat_more n filling)

pub returns : goal.returns
returns c =
    let past = c.loop-time-test.false in
    let within = c.loop-time.auto._time-end in
    let end : c.loop-time._time ≡ c.args.times = omega arith in
    let front = c.args.front.now in
    let filling = c.args.filling.now in
    let middle = c.args.middle.now in
    let back = c.args.back.now in
    let all = room_all _ _ _ front filling middle back _ c.args.times c.in_ok-extend_from_slice-4.ensures.items c.in_ok-extend_from_slice-3.ensures.items c.loop-time.invariant end in
    made_answers _ _ _ (c.as_slice.ensures.value ∙ all) (assembled_within front filling middle back c.args.times 1048576 c.requires) c.from.ensures.ok c.from.ensures.within
