use Rattle.mj_strfn.proofs.PieceLaws.{behind_more}
use Rattle.mj_strfn.proofs.search.behind_by_search.Goals as goal

pub loop-piece-preserved : goal.loop-piece-preserved
loop-piece-preserved c = behind_more _ _ _ _ _ c.loop-piece.invariant (rw c.new-finder.ensures at c.in_ok-rest.ensures)
