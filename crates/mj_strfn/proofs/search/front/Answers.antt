use Rattle.std.proofs.Common.{sym, arith}
use Rattle.mj_strfn.proofs.PieceLaws.{front_room, front_is, front_all}
use Rattle.mj_strfn.proofs.search.front.Goals as goal

pub slice_bounds-result-count : goal.slice_bounds-result-count
slice_bounds-result-count c =
    let room = front_room _ _ _ _ c.requires.wanted c.in-Some.ensures in
    omega arith

pub returns-in-Some-clause-value : goal.returns-in-Some-clause-value
returns-in-Some-clause-value c = front_is _ _ _ _ c.requires.wanted c.in-Some.ensures

pub returns-in-None-clause-value : goal.returns-in-None-clause-value
returns-in-None-clause-value c = sym (front_all _ _ _ c.requires.some c.in-None.ensures)
