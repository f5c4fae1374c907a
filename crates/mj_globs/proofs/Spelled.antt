-- A map by words is the map by their bytes.
use Rattle.std.proofs.Common.{◌≡◌, ℕ, true, false, cond, List, [], ◌∷◌, Option, Some, Vec, Global, refl, ap}
use Rattle.std.specs.declared.cmp.Ordering.{Ordering}
use Rattle.std.specs.declared.cmp.Ordering.TheVariants.{Less, Equal, Greater}
use Rattle.std.specs.Ordering.{is_eq, match_ordering}
use Rattle.std.specs.Prelude.{vec_len}
use Rattle.std.specs.List.{AllZip}
use Rattle.std.specs.Map.{lookup, set_value, remove_entry}
use Rattle.std.specs.BTreeMap.{is_at, insert_entry}
use Rattle.mj_globs.specs.Words.{spelled}
use Rattle.mj_globs.proofs.Groups.{W}

module _ {X : Type 0} (f : List ℕ → Ordering) where
  pub lookup_spelled : (es : List (Vec ℕ Global × X)) → lookup (is_at (λ (k : Vec ℕ Global). f k.items)) es ≡ lookup (is_at f) (spelled es)
  lookup_spelled [] = refl
  lookup_spelled (e ∷ es) = ap (λ (r : Option X). cond (is_eq (f e.0.items)) (Some e.1) r) (lookup_spelled es)

  pub set_spelled : (es : List (Vec ℕ Global × X)) (w : X) → spelled (set_value (is_at (λ (k : Vec ℕ Global). f k.items)) es w) ≡ set_value (is_at f) (spelled es) w
  set_spelled [] w = refl
  set_spelled (e ∷ es) w =
      elim (is_eq (f e.0.items)) as (λ b. spelled (cond b ((e.0, w) ∷ es) (e ∷ set_value (is_at (λ (k : Vec ℕ Global). f k.items)) es w))
      ≡ cond b ((e.0.items, w) ∷ spelled es) ((e.0.items, e.1) ∷ set_value (is_at f) (spelled es) w)) [
        | true ↦ refl
        | false ↦ ap (λ (r : List (List ℕ × X)). (e.0.items, e.1) ∷ r) (set_spelled es w)
      ]

  pub remove_spelled : (es : List (Vec ℕ Global × X)) → spelled (remove_entry (is_at (λ (k : Vec ℕ Global). f k.items)) es) ≡ remove_entry (is_at f) (spelled es)
  remove_spelled [] = refl
  remove_spelled (e ∷ es) =
      elim (is_eq (f e.0.items)) as (λ b. spelled (cond b es (e ∷ remove_entry (is_at (λ (k : Vec ℕ Global). f k.items)) es))
      ≡ cond b (spelled es) ((e.0.items, e.1) ∷ remove_entry (is_at f) (spelled es))) [
        | true ↦ refl
        | false ↦ ap (λ (r : List (List ℕ × X)). (e.0.items, e.1) ∷ r) (remove_spelled es)
      ]

pub insert_spelled : {X : Type 0} (es : List (Vec ℕ Global × X)) (k : Vec ℕ Global) (w : X)
    → spelled (insert_entry (λ (x y : Vec ℕ Global). W x.items y.items) es k w) ≡ insert_entry W (spelled es) k.items w
insert_spelled {X} [] k w = refl
insert_spelled {X} (e ∷ es) k w =
    elim (W k.items e.0.items) as (λ r. spelled (match_ordering r ((k, w) ∷ e ∷ es) ((e.0, w) ∷ es) (e ∷ insert_entry (λ (x y : Vec ℕ Global). W x.items y.items) es k w))
    ≡ match_ordering r ((k.items, w) ∷ (e.0.items, e.1) ∷ spelled es) ((e.0.items, w) ∷ spelled es) ((e.0.items, e.1) ∷ insert_entry W (spelled es) k.items w)) [
      | Less ↦ refl
      | Equal ↦ refl
      | Greater ↦ ap (λ (r : List (List ℕ × X)). (e.0.items, e.1) ∷ r) (insert_spelled es k w)
    ]

same_items : (xs ys : List ℕ) → AllZip (λ (x y : ℕ). y ≡ x) xs ys → ys ≡ xs
same_items [] [] h = refl
same_items [] (y ∷ ys) h = absurd h
same_items (x ∷ xs) [] h = absurd h
same_items (x ∷ xs) (y ∷ ys) h = (λ i. h.0 i ∷ same_items xs ys h.1 i)

-- a copy of each word and of its tree spells the same
pub copy_spelled : {X : Type 0} (es fs : List (Vec ℕ Global × X))
    → AllZip (λ (p q : Vec ℕ Global × X). (AllZip (λ (x y : ℕ). y ≡ x) p.0.items q.0.items × (vec_len q.0 ≡ vec_len p.0)) × (q.1 ≡ p.1)) es
    fs → spelled fs ≡ spelled es
copy_spelled [] [] h = refl
copy_spelled [] (f ∷ fs) h = absurd h
copy_spelled (e ∷ es) [] h = absurd h
copy_spelled (e ∷ es) (f ∷ fs) h = (λ i. (same_items e.0.items f.0.items h.0.0.0 i, h.0.1 i) ∷ copy_spelled es fs h.1 i)
