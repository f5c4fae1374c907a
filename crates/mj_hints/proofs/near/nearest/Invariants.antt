use Rattle.std.proofs.Common.{◌≡◌, length, map}
use Rattle.mj_hints.specs.Near.{near_of}
use Rattle.mj_hints.proofs.near.nearest.Given as goal

-- the names so far aren't near
abbrev pub invariant-names : goal.invariant-names
invariant-names l = near_of l.word (map (λ n. n.now) l.rest) ≡ near_of l.word (map (λ n. n.now) l.names)

abbrev pub decreases-names : goal.decreases-names
decreases-names l = length l.rest
