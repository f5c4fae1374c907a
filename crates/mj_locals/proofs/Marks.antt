-- What becomes of the groups where a tree comes, goes, or the newest group ends.
use Rattle.std.proofs.Common.{◌≡◌, ℕ, ◌<◌, ◌≤◌, suc, Bool, true, false, if◌then◌else◌, List, [], ◌∷◌, ◌++◌, length, take, drop, reverse, Option, Some, None, refl, sym, ap, ◌∙◌, subst, arith, length-append, length-drop}
use Rattle.std.specs.Prelude.{T, option_to_list, MatchOption, IfNone}
use Rattle.std.specs.Option.{option_map}
use Rattle.std.specs.FinMap.{is_sorted}
use Rattle.std.proofs.lemmas.List.{take-append-le, drop-append-le, take_all, reverse-append}
use Rattle.mj_store.specs.Questions.{Subtree}
use Rattle.mj_globs.proofs.Groups.{S, append_nil}
use Rattle.mj_locals.specs.declared.trail.NewMark.{NewMark}
use Rattle.mj_locals.specs.Groups.{Pairs, Group, newest, rest, saved, reduced, AreTreesOf, AreSorted}
use Rattle.mj_locals.specs.Marks.{divided, AreWithin}

pub length_divided : (ms : List NewMark) (ps : Pairs) → length (divided ms ps) ≡ length ms
length_divided [] ps = refl
length_divided (m ∷ ms) ps = ap suc (length_divided ms (take m.start ps))

-- ---- a tree comes

within_pushed : (ms : List NewMark) (ps : Pairs) (x : ℕ × Subtree) → AreWithin ms ps → AreWithin ms (ps ++ x ∷ [])
within_pushed [] ps x h = tt
within_pushed (m ∷ ms) ps x h =
    (omega (arith, length-append ps (x ∷ []), h.0), subst (AreWithin ms) (sym (take-append-le m.start ps (x ∷ []) h.0)) h.1)

divided_pushed : (ms : List NewMark) (ps : Pairs) (x : ℕ × Subtree) → AreWithin ms ps → divided ms (ps ++ x ∷ []) ≡ saved x (divided ms ps)
divided_pushed [] ps x h = refl
divided_pushed (m ∷ ms) ps x h = λ i. (option_map (λ v. v.items) m.kept, drop-append-le m.start ps (x ∷ []) h.0 i) ∷ divided ms (take-append-le m.start ps (x ∷ []) h.0 i)

trees_of_pushed : (ps : Pairs) (x : ℕ × Subtree) → AreTreesOf ps → T (is_sorted S x.1) → AreTreesOf (ps ++ x ∷ [])
trees_of_pushed [] x h s = (s, tt)
trees_of_pushed (p ∷ ps) x h s = (h.0, trees_of_pushed ps x h.1 s)

sorted_saved : (gs : List Group) (x : ℕ × Subtree) → AreSorted gs → T (is_sorted S x.1) → AreSorted (saved x gs)
sorted_saved [] x h s = tt
sorted_saved (g ∷ gs) x h s = (trees_of_pushed g.1 x h.0 s, h.1)

-- what a trail keeps of its fields
abbrev pub AreDivided : List NewMark → Pairs → Type 0
AreDivided ms ps = AreWithin ms ps × AreSorted (divided ms ps)

pub pushed_keeps : (ms : List NewMark) (ps qs : Pairs) (x : ℕ × Subtree) (b : Bool) → qs ≡ (if b then ps ++ x ∷ [] else ps) → AreDivided ms ps → T (is_sorted S x.1) → AreDivided ms qs
pushed_keeps ms ps qs x true e h s =
    subst (AreDivided ms) (sym e) (within_pushed ms ps x h.0, subst AreSorted (sym (divided_pushed ms ps x h.0)) (sorted_saved (divided ms ps) x h.1 s))
pushed_keeps ms ps qs x false e h s = subst (AreDivided ms) (sym e) h

pub pushed_is : (ms : List NewMark) (ps qs : Pairs) (x : ℕ × Subtree) → qs ≡ ps ++ x ∷ [] → AreDivided ms ps → divided ms qs ≡ saved x (divided ms ps)
pushed_is ms ps qs x e h = ap (divided ms) e ∙ divided_pushed ms ps x h.0

-- ---- a tree goes

within_popped : (ms : List NewMark) (qs : Pairs) (x : ℕ × Subtree) → AreWithin ms (qs ++ x ∷ []) → 0 < length (newest (divided ms (qs ++ x ∷ []))) → AreWithin ms qs
within_popped [] qs x h n = tt
within_popped (m ∷ ms) qs x h n =
    let less : m.start ≤ length qs = omega (arith, length-append qs (x ∷ []), length-drop m.start (qs ++ x ∷ []), n) in
    (less, subst (AreWithin ms) (take-append-le m.start qs (x ∷ []) less) h.1)

trees_of_popped : (ps : Pairs) (x : ℕ × Subtree) → AreTreesOf (ps ++ x ∷ []) → AreTreesOf ps
trees_of_popped [] x h = tt
trees_of_popped (p ∷ ps) x h = (h.0, trees_of_popped ps x h.1)

sorted_popped : (gs : List Group) (x : ℕ × Subtree) → AreSorted (saved x gs) → AreSorted gs
sorted_popped [] x h = tt
sorted_popped (g ∷ gs) x h = (trees_of_popped g.1 x h.0, h.1)

pub popped_keeps : (ms : List NewMark) (ps qs : Pairs) (r : Option (ℕ × Subtree)) → ps ≡ qs ++ option_to_list r → AreDivided ms ps → 0 < length (newest (divided ms ps)) → AreDivided ms qs
popped_keeps ms ps qs None e h n = subst (AreDivided ms) (e ∙ append_nil qs) h
popped_keeps ms ps qs (Some x) e h n =
    let g : AreDivided ms (qs ++ x ∷ []) = subst (AreDivided ms) e h in
    let within : AreWithin ms qs = within_popped ms qs x g.0 (subst (λ (xs : Pairs). 0 < length (newest (divided ms xs))) e n) in
    (within, sorted_popped (divided ms qs) x (subst AreSorted (divided_pushed ms qs x within) g.1))

newest_saved : (gs : List Group) (x : ℕ × Subtree) → 0 < length (newest (saved x gs)) → newest (saved x gs) ≡ newest gs ++ x ∷ []
newest_saved [] x n = absurd (omega arith)
newest_saved (g ∷ gs) x n = refl

reduced_saved : (gs : List Group) (x : ℕ × Subtree) → gs ≡ reduced (newest gs) (saved x gs)
reduced_saved [] x = refl
reduced_saved (g ∷ gs) x = refl

reduced_same : (gs : List Group) → gs ≡ reduced (newest gs) gs
reduced_same [] = refl
reduced_same (g ∷ gs) = refl

pub popped_newest : (ms : List NewMark) (ps qs : Pairs) (r : Option (ℕ × Subtree))
    → ps ≡ qs ++ option_to_list r → AreDivided ms ps → 0 < length (newest (divided ms ps)) → newest (divided ms ps) ≡ newest (divided ms qs) ++ option_to_list r
popped_newest ms ps qs None e h n = ap (λ (xs : Pairs). newest (divided ms xs)) (e ∙ append_nil qs) ∙ sym (append_nil (newest (divided ms qs)))
popped_newest ms ps qs (Some x) e h n =
    let k = popped_keeps ms ps qs (Some x) e h n in
    let is : divided ms ps ≡ saved x (divided ms qs) = ap (divided ms) e ∙ divided_pushed ms qs x k.0 in
    ap newest is ∙ newest_saved (divided ms qs) x (subst (λ (gs : List Group). 0 < length (newest gs)) is n)

pub popped_rest : (ms : List NewMark) (ps qs : Pairs) (r : Option (ℕ × Subtree))
    → ps ≡ qs ++ option_to_list r → AreDivided ms ps → 0 < length (newest (divided ms ps)) → divided ms qs ≡ reduced (newest (divided ms qs)) (divided ms ps)
popped_rest ms ps qs None e h n = reduced_same (divided ms qs) ∙ ap (λ (xs : Pairs). reduced (newest (divided ms qs)) (divided ms xs)) (sym (e ∙ append_nil qs))
popped_rest ms ps qs (Some x) e h n =
    let k = popped_keeps ms ps qs (Some x) e h n in
    let is : divided ms ps ≡ saved x (divided ms qs) = ap (divided ms) e ∙ divided_pushed ms qs x k.0 in
    reduced_saved (divided ms qs) x ∙ ap (reduced (newest (divided ms qs))) (sym is)

newest_short : (ms : List NewMark) (ps : Pairs) → length (newest (divided ms ps)) ≤ length ps
newest_short [] ps = omega arith
newest_short (m ∷ ms) ps = omega (arith, length-drop m.start ps)

-- where nothing goes the newest group has no tree
pub popped_none : (r : Option (ℕ × Subtree)) (n : ℕ) (P : Type 0) (Q : ℕ × Subtree → Type 0) (ms : List NewMark) (ps : Pairs) (X : Type 0)
    → MatchOption r ((n ≡ 0) × P) Q → n ≡ length ps → 0 < length (newest (divided ms ps)) → IfNone r X
popped_none None n P Q ms ps X h e some = absurd (omega (arith, h.0, newest_short ms ps))
popped_none (Some x) n P Q ms ps X h e some = tt

-- ---- the newest group ends

last_first : (xs : List NewMark) (m : NewMark) → reverse (xs ++ m ∷ []) ≡ m ∷ reverse xs
last_first xs m = reverse-append xs (m ∷ [])

all_taken : (n : ℕ) (ps : Pairs) → drop n ps ≡ [] → take n ps ≡ ps
all_taken n ps e = take_all n ps (omega (arith, length-drop n ps, ap (λ (xs : Pairs). length xs) e))

no_marks : (xs : List NewMark) → length xs ≡ 0 → xs ≡ []
no_marks [] e = refl
no_marks (x ∷ xs) e = absurd (omega arith)

pub ended : (xs ys : List NewMark) (ps : Pairs) (r : Option NewMark) → xs ≡ ys ++ option_to_list r → (r ≡ None → length xs ≡ 0) → newest (divided (reverse xs) ps) ≡ []
    → divided (reverse ys) ps ≡ rest (divided (reverse xs) ps)
ended xs ys ps None e none n =
    let ex : xs ≡ [] = no_marks xs (none refl) in
    let ey : ys ≡ [] = sym (append_nil ys) ∙ sym e ∙ ex in
    ap (λ (zs : List NewMark). divided (reverse zs) ps) ey ∙ sym (ap (λ (zs : List NewMark). rest (divided (reverse zs) ps)) ex)
ended xs ys ps (Some m) e none n =
    let turned : reverse xs ≡ m ∷ reverse ys = ap (λ (zs : List NewMark). reverse zs) e ∙ last_first ys m in
    let all : take m.start ps ≡ ps = all_taken m.start ps (ap (λ (zs : List NewMark). newest (divided zs ps)) (sym turned) ∙ n) in
    ap (divided (reverse ys)) (sym all) ∙ sym (ap (λ (zs : List NewMark). rest (divided zs ps)) turned)

pub ended_keeps : (xs ys : List NewMark) (ps : Pairs) (r : Option NewMark) → xs ≡ ys ++ option_to_list r
    → newest (divided (reverse xs) ps) ≡ [] → AreDivided (reverse xs) ps → AreDivided (reverse ys) ps
ended_keeps xs ys ps None e n h = subst (λ (zs : List NewMark). AreDivided (reverse zs) ps) (e ∙ append_nil ys) h
ended_keeps xs ys ps (Some m) e n h =
    let turned : reverse xs ≡ m ∷ reverse ys = ap (λ (zs : List NewMark). reverse zs) e ∙ last_first ys m in
    let all : take m.start ps ≡ ps = all_taken m.start ps (ap (λ (zs : List NewMark). newest (divided zs ps)) (sym turned) ∙ n) in
    let k : AreDivided (m ∷ reverse ys) ps = subst (λ (zs : List NewMark). AreDivided zs ps) turned h in
    subst (AreDivided (reverse ys)) all (k.0.1, k.1.1)
