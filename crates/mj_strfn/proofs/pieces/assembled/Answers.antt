use Rattle.std.proofs.Common.{refl}
use Rattle.mj_strfn.proofs.PieceLaws.{answers_as, assembled_fits, assembled_long, not_within}
use Rattle.mj_strfn.proofs.pieces.assembled.Goals as goal

pub returns-then-not-has_room : goal.returns-then-not-has_room
returns-then-not-has_room c =
    assembled_long c.args.limit c.args.front.now c.args.filling.now c.args.middle.now c.args.back.now c.args.times (not_within _ _ c.if-not-has_room.ensures.fits.1)

pub returns-then-len-le-ROOM : goal.returns-then-len-le-ROOM
returns-then-len-le-ROOM c =
    answers_as _ _ _ (assembled_fits c.args.limit c.args.front.now c.args.filling.now c.args.middle.now c.args.back.now c.args.times (c.if-not-has_room.ensures.fits.0 refl)) c.assembled_short.ensures

pub returns : goal.returns
returns c =
    answers_as _ _ _ (assembled_fits c.args.limit c.args.front.now c.args.filling.now c.args.middle.now c.args.back.now c.args.times (c.if-not-has_room.ensures.fits.0 refl)) c.assembled_long.ensures
