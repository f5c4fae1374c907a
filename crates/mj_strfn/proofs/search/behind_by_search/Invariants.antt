use Rattle.mj_strfn.specs.Pieces.{IsBehind}
use Rattle.mj_strfn.proofs.search.behind_by_search.Given as goal

abbrev pub invariant-loop-piece : goal.invariant-loop-piece
invariant-loop-piece l = IsBehind l.separator l.bytes l._piece l.rest
