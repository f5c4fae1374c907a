use Rattle.std.proofs.Common.{◌≡◌, List, [], ◌∷◌, ◌++◌, map, ap, sym, ◌∙◌, subst}
use Rattle.std.specs.List.{All}
use Rattle.std.proofs.lemmas.Bool.{ltb-true}
use Rattle.std.proofs.lemmas.List.{map-append}
use Rattle.mj_jobvm.specs.Places.{Asked, IsKept, spot_in}
use Rattle.mj_jobvm.proofs.Spots.{kept_also}
use Rattle.mj_jobvm.proofs.places.Places.keep.Goals as goal

pub push_reserved-requires : goal.push_reserved-requires
push_reserved-requires c =
    let s = c.self.inside in
    ltb-true s.spots.len s.spots.cap (ap (λ (a : Asked). a.room) c.self.view_is ∙ c.requires)

pub invariant_of-self : goal.invariant_of-self
invariant_of-self c =
    let s = c.self.inside in (
      subst (All (IsKept s.routines.items)) (sym c.push_reserved.ensures.items) (kept_also s.routines.items s.spots.items s.next c.self.invariant.0 c.self.invariant.1),
      c.self.invariant.1,
    )

pub returns : goal.returns
returns c =
    let s = c.self.inside in
    ap (map (spot_in s.routines.items)) c.push_reserved.ensures.items
    ∙ map-append (spot_in s.routines.items) s.spots.items (s.next ∷ [])
    ∙ ap (λ (a : Asked). a.places ++ a.next ∷ []) c.self.view_is
