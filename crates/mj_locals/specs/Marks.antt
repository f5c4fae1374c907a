-- How the groups of what NEWs saved are kept.
use Rattle.std.specs.Prelude.{◌≤◌, List, [], ◌∷◌, reverse, length, take, drop}
use Rattle.std.specs.Option.{option_map}
use Rattle.mj_locals.specs.declared.trail.NewMark.{NewMark}
use Rattle.mj_locals.specs.declared.trail.Trail.TheInside.{Inside}
use Rattle.mj_locals.specs.Groups.{Pairs, Group, AreSorted}

-- the groups, the newest first, of marks with the newest first
abbrev pub divided : List NewMark → Pairs → List Group
divided [] ps = []
divided (m ∷ ms) ps = (option_map (λ v. v.items) m.kept, drop m.start ps) ∷ divided ms (take m.start ps)

-- no mark lies behind the one that follows it
abbrev pub AreWithin : List NewMark → Pairs → Type 0
AreWithin [] ps = Unit {0}
AreWithin (m ∷ ms) ps = (m.start ≤ length ps) × AreWithin ms (take m.start ps)

abbrev pub groups_of : Inside → List Group
groups_of a = divided (reverse a.marks.items) a.pairs.items

abbrev pub AreMarked : Inside → Type 0
AreMarked a = AreWithin (reverse a.marks.items) a.pairs.items × AreSorted (groups_of a)
