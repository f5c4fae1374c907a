use Rattle.mj_strfn.proofs.PieceLaws.{behind_more}
use Rattle.mj_strfn.proofs.search.behind_by_byte.Goals as goal

pub loop-piece-preserved : goal.loop-piece-preserved
loop-piece-preserved c = behind_more _ _ _ _ _ c.loop-piece.invariant c.in_ok-rest.ensures
