-- Places as they are kept.
use Rattle.std.specs.Prelude.{slice_get, option_map, nat_lt}
use Rattle.std.specs.List.{All, slice_index_or}
use Rattle.std.proofs.Common.{◌≡◌, ℕ, zero, suc, ◌<◌, ◌≤◌, List, [], ◌∷◌, ◌++◌, Option, Some, None, true, false, length, map, refl, sym, ap, ◌∙◌, subst, arith, append-nil, length-append}
use Rattle.std.proofs.lemmas.Option.{slice_get_within, slice_get_read, slice_get_past}
use Rattle.std.proofs.lemmas.List.Elements.{All-nil, All-cons, All-head, All-tail, All-append}
use Rattle.mj_semantics.specs.State.{Place}
use Rattle.mj_jobvm.specs.Places.{name_in, spot_in, IsKept, AreFront}

-- the names stay, and others come behind
pub same_front : (routines : List (List ℕ)) → AreFront routines routines
same_front routines = ([], sym (append-nil routines))

pub one_behind : (old new : List (List ℕ)) (routine : List ℕ) → new ≡ old ++ routine ∷ [] → AreFront old new
one_behind old new routine is = (routine ∷ [], is)

-- a name that is there is the same among more
there_more : (routines behind : List (List ℕ)) (k : ℕ) → k < length routines → slice_get (routines ++ behind) k ≡ slice_get routines k
there_more [] behind k less = absurd (let no : k < 0 = less in omega (arith, no))
there_more (r ∷ routines) behind zero less = refl
there_more (r ∷ routines) behind (suc k) less = there_more routines behind k (let l : suc k < suc (length routines) = less in omega (arith, l))

name_more : (routines behind : List (List ℕ)) (number : ℕ) → number ≤ length routines → name_in (routines ++ behind) number ≡ name_in routines number
name_more routines behind zero kept = refl
name_more routines behind (suc k) kept = there_more routines behind k (let l : suc k ≤ length routines = kept in omega (arith, l))

-- the place of a name
abbrev pub as_place : ℕ → Option (List ℕ) → Option Place
as_place line name = option_map (λ routine. record { routine = routine; line = line }) name

pub spot_more : (old new : List (List ℕ)) (spot : ℕ × ℕ) → AreFront old new → IsKept old spot → spot_in new spot ≡ spot_in old spot
spot_more old new spot (behind, is) kept =
    ap (λ l. spot_in l spot) is ∙ ap (as_place spot.1) (name_more old behind spot.0 kept)

pub kept_one : (old new : List (List ℕ)) (spot : ℕ × ℕ) → AreFront old new → IsKept old spot → IsKept new spot
kept_one old new spot (behind, is) kept =
    (let k : spot.0 ≤ length old = kept in let long = length-append old behind in let same = ap (λ (l : List (List ℕ)). length l) is in omega (arith, k, long, same))

pub spots_more : (old new : List (List ℕ)) (spots : List (ℕ × ℕ)) → AreFront old new → All (IsKept old) spots
    → map (spot_in new) spots ≡ map (spot_in old) spots
spots_more old new [] front kept = refl
spots_more old new (s ∷ spots) front kept =
    ap (λ p. p ∷ map (spot_in new) spots) (spot_more old new s front (All-head (IsKept old) s spots kept))
    ∙ ap (λ l. spot_in old s ∷ l) (spots_more old new spots front (All-tail (IsKept old) s spots kept))

pub kept_more : (old new : List (List ℕ)) (spots : List (ℕ × ℕ)) → AreFront old new → All (IsKept old) spots → All (IsKept new) spots
kept_more old new [] front kept = All-nil (IsKept new)
kept_more old new (s ∷ spots) front kept =
    All-cons (IsKept new) s spots (kept_one old new s front (All-head (IsKept old) s spots kept))
    (kept_more old new spots front (All-tail (IsKept old) s spots kept))

-- one more is kept
pub kept_also : (routines : List (List ℕ)) (spots : List (ℕ × ℕ)) (s : ℕ × ℕ) → All (IsKept routines) spots → IsKept routines s → All (IsKept routines) (spots ++ s ∷ [])
kept_also routines spots s all one = All-append (IsKept routines) spots (s ∷ []) all (All-cons (IsKept routines) s [] one (All-nil (IsKept routines)))

-- the name that joins the others comes last
last_of : (routines : List (List ℕ)) (routine : List ℕ) → slice_get (routines ++ routine ∷ []) (length routines) ≡ Some routine
last_of [] routine = refl
last_of (r ∷ routines) routine = last_of routines routine

pub name_new : (old new : List (List ℕ)) (routine : List ℕ) (number : ℕ) → new ≡ old ++ routine ∷ [] → number ≡ length new → name_in new number ≡ Some routine
name_new old new routine number is count =
    let n : number ≡ suc (length old) = (let long = length-append old (routine ∷ []) in let same = ap (λ (l : List (List ℕ)). length l) is in omega (arith, long, same, count)) in
    ap (λ k. name_in new k) n ∙ ap (λ l. slice_get l (length old)) is ∙ last_of old routine

-- a number with a name is kept, and its place is that of the name
pub kept_named : (routines : List (List ℕ)) (routine : List ℕ) (number : ℕ) → name_in routines number ≡ Some routine → number ≤ length routines
kept_named routines routine zero is = omega arith
kept_named routines routine (suc k) is = (let within : k < length routines = slice_get_within routines k routine is in omega (arith, within))

pub spot_named : (routines : List (List ℕ)) (routine : List ℕ) (number line : ℕ) → name_in routines number ≡ Some routine
    → spot_in routines (number, line) ≡ Some (record { routine = routine; line = line })
spot_named routines routine number line is = ap (as_place line) is

-- what is read of the spots at a place
seen_at : (routines : List (List ℕ)) (spots : List (ℕ × ℕ)) (at : ℕ) (spot : ℕ × ℕ) → slice_get spots at ≡ Some spot
    → slice_index_or (map (spot_in routines) spots) at None ≡ spot_in routines spot
seen_at routines [] at spot is = absurd (let no : None ≡ Some spot = is in cc)
seen_at routines (s ∷ spots) zero spot is = let same : s ≡ spot = (let i : Some s ≡ Some spot = is in cc) in ap (spot_in routines) same
seen_at routines (s ∷ spots) (suc at) spot is = seen_at routines spots at spot is

not_seen : (routines : List (List ℕ)) (spots : List (ℕ × ℕ)) (at : ℕ) → slice_get spots at ≡ None → slice_index_or (map (spot_in routines) spots) at None ≡ None
not_seen routines [] at is = refl
not_seen routines (s ∷ spots) zero is = absurd (let no : Some s ≡ None = is in cc)
not_seen routines (s ∷ spots) (suc at) is = not_seen routines spots at is

pub spot_got : (routines : List (List ℕ)) (slice spots : List (ℕ × ℕ)) (at : ℕ) (spot : ℕ × ℕ) → slice ≡ spots → true ≡ nat_lt at (length slice)
    → spot ≡ slice_index_or slice at spot → spot_in routines spot ≡ slice_index_or (map (spot_in routines) spots) at None
spot_got routines slice spots at spot same less read =
    let within : at < length slice = (grind (arith, less)) in
    sym (seen_at routines spots at spot (ap (λ l. slice_get l at) (sym same) ∙ slice_get_read slice (length slice) at spot refl within read))

pub spot_missed : (routines : List (List ℕ)) (slice spots : List (ℕ × ℕ)) (at : ℕ) → slice ≡ spots → false ≡ nat_lt at (length slice)
    → None ≡ slice_index_or (map (spot_in routines) spots) at None
spot_missed routines slice spots at same less =
    let past : length slice ≤ at = (grind (arith, less)) in
    sym (not_seen routines spots at (ap (λ l. slice_get l at) (sym same) ∙ slice_get_past slice at past))
