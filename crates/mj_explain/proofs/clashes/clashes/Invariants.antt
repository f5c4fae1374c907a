use Rattle.std.proofs.Common.{◌≡◌, length, map, take}
use Rattle.std.specs.Prelude.{All}
use Rattle.mj_explain.specs.Clashes.{IsClash, clash_places}
use Rattle.mj_explain.proofs.clashes.clashes.Given as goal

abbrev pub invariant-loop-place : goal.invariant-loop-place
invariant-loop-place l =
    All (IsClash l.globals.content l.events) l.clashes.items
    × (map (λ c. c.commit) l.clashes.items ≡ take l.most (clash_places l.events l.place))
    × (l.count ≡ length (clash_places l.events l.place))
