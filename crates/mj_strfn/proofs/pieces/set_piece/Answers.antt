use Rattle.mj_strfn.proofs.PieceLaws.{set_answers}
use Rattle.mj_strfn.proofs.pieces.set_piece.Goals as goal

pub returns : goal.returns
returns c =
    set_answers c.args.limit _ _ _ _ _ _ _ _ _ c.bytes-old.ensures.value c.bytes-separator.ensures.value c.bytes-value.ensures.value c.range.view_is c.if-is_empty.ensures.1 c.replaced.ensures
