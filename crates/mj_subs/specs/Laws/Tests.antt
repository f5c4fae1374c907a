-- The tests of `Name` say what the facts beside them say.
use Rattle.std.proofs.Common.{◌<◌, ◌≤◌, arith, min, take, zero, suc, length, sym, ap, ◌∙◌, ◌≡◌, ℕ, Bool, true, false, ◌&&◌, ◌⊎◌, List, [], ◌∷◌, refl, inl, inr}
use Rattle.std.specs.Bool.{Decides}
use Rattle.std.specs.Str.{bytes_eq}
use Rattle.std.specs.Cmp.Lexicographic.{pointwise, pointwise_decides, bytes_decides}
use Rattle.std.proofs.lemmas.Bool.Decides.{Decides-and, Decides-like}
use Rattle.std.specs.List.{starts_with}
use Rattle.mj_subs.specs.Name.{are_in_line, Name, IsProperFront, IsAbove, Overlaps, is_proper_front, kinds_eq, names_eq, is_above, overlaps}

kinds_eq-Decides : (a b : Bool) → Decides (kinds_eq a b) (a ≡ b)
kinds_eq-Decides true true = (λ _. refl, λ _. refl)
kinds_eq-Decides true false = (λ e. cc, λ e. cc)
kinds_eq-Decides false true = (λ e. cc, λ e. cc)
kinds_eq-Decides false false = (λ _. refl, λ _. refl)

pub lists_eq-Decides : (ss ts : List (List ℕ)) → Decides (pointwise bytes_eq ss ts) (ss ≡ ts)
lists_eq-Decides = pointwise_decides bytes_decides

pub is_proper_front-Decides : (ss ts : List (List ℕ)) → Decides (is_proper_front ss ts) (IsProperFront ss ts)
is_proper_front-Decides [] [] = (λ e. absurd cc, λ h. absurd h)
is_proper_front-Decides (s ∷ ss) [] = (λ e. absurd cc, λ h. absurd h)
is_proper_front-Decides [] (t ∷ ts) = (λ _. tt, λ _. refl)
is_proper_front-Decides (s ∷ ss) (t ∷ ts) = Decides-and _ _ (bytes_decides s t) (is_proper_front-Decides ss ts)

-- three parts, each decided
Decides-three : {P Q R : Type 0} (a b c : Bool) → Decides a P → Decides b Q → Decides c R → Decides (a && b && c) ((P × Q) × R)
Decides-three a b c p q r = Decides-and (a && b) c (Decides-and a b p q) r

pub names_eq-Decides : (m n : Name) → Decides (names_eq m n) (m ≡ n)
names_eq-Decides m n =
    Decides-like _ (λ h i. record { global = h.0.0 i; word = h.0.1 i; subscripts = h.1 i })
    (λ e. ((λ i. (e i).global, λ i. (e i).word), λ i. (e i).subscripts))
    (Decides-three _ _ _ (kinds_eq-Decides m.global n.global) (bytes_decides m.word n.word) (lists_eq-Decides m.subscripts n.subscripts))

pub is_above-Decides : (m n : Name) → Decides (is_above m n) (IsAbove m n)
is_above-Decides m n =
    Decides-like _ (λ h. record { same_kind = h.0.0; same_word = h.0.1; front = h.1 }) (λ a. ((a.same_kind, a.same_word), a.front))
    (Decides-three _ _ _ (kinds_eq-Decides m.global n.global) (bytes_decides m.word n.word) (is_proper_front-Decides m.subscripts n.subscripts))

-- lists that agree as far as both go
AreInLine : List (List ℕ) → List (List ℕ) → Type 0
AreInLine ss ts = (ss ≡ ts) ⊎ (IsProperFront ss ts ⊎ IsProperFront ts ss)

-- a subscript before both
longer : (s t : List ℕ) (ss ts : List (List ℕ)) → s ≡ t → AreInLine ss ts → AreInLine (s ∷ ss) (t ∷ ts)
unfolding AreInLine
longer s t ss ts e (inl h) = inl (λ i. e i ∷ h i)
longer s t ss ts e (inr (inl h)) = inr (inl (e, h))
longer s t ss ts e (inr (inr h)) = inr (inr (sym e, h))

-- the first subscripts are equal, and the rests agree
shorter : (s t : List ℕ) (ss ts : List (List ℕ)) → AreInLine (s ∷ ss) (t ∷ ts) → (s ≡ t) × AreInLine ss ts
unfolding AreInLine
shorter s t ss ts (inl h) = (cc, inl cc)
shorter s t ss ts (inr (inl h)) = (h.0, inr (inl h.1))
shorter s t ss ts (inr (inr h)) = (sym h.0, inr (inr h.1))

are_in_line-Decides : (ss ts : List (List ℕ)) → Decides (are_in_line ss ts) (AreInLine ss ts)
unfolding AreInLine
are_in_line-Decides [] [] = (λ _. inl refl, λ _. refl)
are_in_line-Decides [] (t ∷ ts) = (λ _. inr (inl tt), λ _. refl)
are_in_line-Decides (s ∷ ss) [] = (λ _. inr (inr tt), λ _. refl)
are_in_line-Decides (s ∷ ss) (t ∷ ts) =
    Decides-like _ (λ h. longer s t ss ts h.0 h.1) (shorter s t ss ts) (Decides-and _ _ (bytes_decides s t) (are_in_line-Decides ss ts))

-- names of one kind and word overlap where their lists agree
overlap_of : (m n : Name) → m.global ≡ n.global → m.word ≡ n.word → AreInLine m.subscripts n.subscripts → Overlaps m n
unfolding AreInLine
overlap_of m n k w (inl e) = inl (λ i. record { global = k i; word = w i; subscripts = e i })
overlap_of m n k w (inr (inl f)) = inr (inl (record { same_kind = k; same_word = w; front = f }))
overlap_of m n k w (inr (inr f)) = inr (inr (record { same_kind = sym k; same_word = sym w; front = f }))

of_overlap : (m n : Name) → Overlaps m n → ((m.global ≡ n.global) × (m.word ≡ n.word)) × AreInLine m.subscripts n.subscripts
unfolding AreInLine
of_overlap m n (inl e) = ((λ i. (e i).global, λ i. (e i).word), inl (λ i. (e i).subscripts))
of_overlap m n (inr (inl a)) = ((a.same_kind, a.same_word), inr (inl a.front))
of_overlap m n (inr (inr a)) = ((sym a.same_kind, sym a.same_word), inr (inr a.front))

pub overlaps-Decides : (m n : Name) → Decides (overlaps m n) (Overlaps m n)
overlaps-Decides m n =
    Decides-like _ (λ h. overlap_of m n h.0.0 h.0.1 h.1) (of_overlap m n)
    (Decides-three _ _ _ (kinds_eq-Decides m.global n.global) (bytes_decides m.word n.word) (are_in_line-Decides m.subscripts n.subscripts))

-- a shorter list with which the other starts is a proper front
pub starts_with-shorter : (ss ts : List (List ℕ)) → length ss < length ts → starts_with bytes_eq ts ss ≡ is_proper_front ss ts
starts_with-shorter ss [] h = absurd (omega arith)
starts_with-shorter [] (t ∷ ts) h = refl
starts_with-shorter (s ∷ ss) (t ∷ ts) h = ap (λ b. bytes_eq s t && b) (starts_with-shorter ss ts (omega arith))

-- a list is no proper front of one that isn't longer
pub is_proper_front-longer : (ss ts : List (List ℕ)) → length ts ≤ length ss → is_proper_front ss ts ≡ false
is_proper_front-longer ss [] h = refl
is_proper_front-longer [] (t ∷ ts) h = absurd (omega arith)
is_proper_front-longer (s ∷ ss) (t ∷ ts) h = ap (λ b. bytes_eq s t && b) (is_proper_front-longer ss ts (omega arith)) ∙ never (bytes_eq s t)
  where
    never : (b : Bool) → (b && false) ≡ false
    never true = refl
    never false = refl

-- lists that are alike as far as both go
pub pointwise-common : (ss ts : List (List ℕ)) (n : ℕ) → n ≡ min (length ss) (length ts) → pointwise bytes_eq (take n ss) (take n ts) ≡ are_in_line ss ts
pointwise-common [] ts zero h = refl
pointwise-common (s ∷ ss) [] zero h = refl
pointwise-common (s ∷ ss) (t ∷ ts) zero h = absurd (omega arith)
pointwise-common [] ts (suc n) h = absurd (omega arith)
pointwise-common (s ∷ ss) [] (suc n) h = absurd (omega arith)
pointwise-common (s ∷ ss) (t ∷ ts) (suc n) h = ap (λ b. bytes_eq s t && b) (pointwise-common ss ts n (omega arith))
