-- How far two numbers are apart.
use Rattle.std.proofs.Common.{◌≡◌, true, ℕ, ◌+◌, ◌-◌, ◌<◌, ◌≤◌, ℤ, pos, ◌+ℤ◌, ◌-ℤ◌, to_z, of_z, w64, List, [], ◌∷◌, length, Option, Some, None, refl, sym, ap, ◌∙◌, subst, arith}
use Rattle.std.specs.Prelude.{T, ◌<ℤ◌, ◌≤ℤ◌, IfSome}
use Rattle.std.specs.declared.cmp.Ordering.TheVariants.{Less}
use Rattle.std.specs.Ordering.{is_lt, int_cmp}
use Rattle.std.proofs.lemmas.Cmp.{int_ranked}
use Rattle.std.specs.Int.RustNames.{FitsSigned, unsigned_abs}
use Rattle.std.proofs.lemmas.Int.{ints, to_z-of_z, fits_signed_from_abs}
use Rattle.mj_num.specs.Number.{number_of, IsInRange}
use Rattle.mj_store.specs.Questions.{Subtree}
use Rattle.mj_subs.specs.Collation.{subscript_cmp}
use Rattle.mj_tree.specs.Maps.{is_less}
use Rattle.mj_tree.specs.Rows.{IsNumber, AreNumbers, IsEnd, IsPast, IsAhead, is_ahead}
use Rattle.mj_tree.proofs.Numbers.{cmp_numbers}

-- what the code has for the difference of two numbers that is no less than 0
abbrev pub offset : ℤ → ℤ → ℕ
offset x y = unsigned_abs (to_z w64 (of_z w64 (to_z w64 (of_z w64 x) -ℤ to_z w64 (of_z w64 y))))

pub in_words : (a : ℤ) → IsInRange a → to_z w64 (of_z w64 a) ≡ a
in_words a h = to_z-of_z w64 a (fits_signed_from_abs w64 a (omega (arith, h)))

pub offset_is : (a b x y : ℤ) → IsInRange a → IsInRange b → b ≤ℤ a → x ≡ a → y ≡ b → a ≡ b +ℤ pos (offset x y)
offset_is a b x y h k le p q = apart (sym ((λ i. offset (p i) (q i)) ∙ same))
  where
    whole : to_z w64 (of_z w64 (a -ℤ b)) ≡ a -ℤ b
    whole = omega (arith, ints)

    same : offset a b ≡ unsigned_abs (a -ℤ b)
    same = ap (λ z. unsigned_abs (to_z w64 (of_z w64 z))) (λ i. in_words a h i -ℤ in_words b k i) ∙ ap unsigned_abs whole

    apart : {n : ℕ} → unsigned_abs (a -ℤ b) ≡ n → a ≡ b +ℤ pos n
    apart e = omega (arith, ints)

pub no_nearer : (n z : ℤ) (at len : ℕ) → n ≡ z +ℤ pos at → len ≤ at → (z +ℤ pos len) ≤ℤ n
no_nearer n z at len is le = omega (arith, ints)

-- how far a number is behind a row that begins with z
pub end_told : {X : Type 0} (z n : ℤ) (ks : List (List ℕ × X)) (at len : ℕ) → 0 < length ks → AreNumbers z ks → n ≡ z +ℤ pos at → IsPast n ks → len ≡ length ks → IsEnd ks (at - len) n
end_told z n [] at len some a is past same = absurd (omega arith)
end_told {X} z n (k ∷ ks) at len some a is past same =
    let first : number_of k.0 ≡ z = a.0.1 in
    let behind : (number_of k.0 +ℤ pos (length (k ∷ ks))) ≤ℤ n = past in
    let end : n ≡ number_of k.0 +ℤ pos (length (k ∷ ks) + (at - len)) = omega (arith, ints) in end

pub if_some : {A : Type 0} {P : Type 0} (r : Option A) → P → IfSome r (λ _. P)
if_some None h = tt
if_some (Some x) h = h

-- ---- behind a row, and before one

pub past_end : {X : Type 0} (z n : ℤ) (ks : List (List ℕ × X)) → 0 < length ks → AreNumbers z ks → IsPast n ks → (z +ℤ pos (length ks)) ≤ℤ n
past_end z n [] some a past = absurd (omega arith)
past_end {X} z n (k ∷ ks) some a past = subst (λ x. (x +ℤ pos (length (k ∷ ks))) ≤ℤ n) a.0.1 past

pub past_first : {X : Type 0} (z n : ℤ) (ks : List (List ℕ × X)) → 0 < length ks → AreNumbers z ks → IsPast n ks → z ≤ℤ n
past_first z n ks some a past = let end = past_end z n ks some a past in omega (arith, ints)

pub not_over : (n z : ℤ) (at len : ℕ) → n ≡ z +ℤ pos at → (z +ℤ pos len) ≤ℤ n → len ≤ at
not_over n z at len is le = omega (arith, ints)

pub ahead_less : {X : Type 0} (s : List ℕ) (n z : ℤ) (ks : List (List ℕ × X)) → IsNumber s n → AreNumbers z ks → is_ahead s ks ≡ true → n <ℤ z
ahead_less s n z [] h a out = absurd cc
ahead_less {X} s n z (k ∷ ks) h a out =
    int_ranked n z Less (sym (is_less _ (subst T (sym out) tt)) ∙ cmp_numbers s k.0 h.0 a.0.0 ∙ (λ i. int_cmp (h.1 i) (a.0.1 i)))

pub less_le : (n z : ℤ) → n <ℤ z → n ≤ℤ z
less_le n z lt = omega (arith, ints)

pub some_offset : (n z : ℤ) (at : ℕ) → n <ℤ z → z ≡ n +ℤ pos at → 1 ≤ at
some_offset n z at lt is = omega (arith, ints)

pub ahead_by : {X : Type 0} (z n : ℤ) (ks : List (List ℕ × X)) (at : ℕ) → n <ℤ z → 0 < length ks → AreNumbers z ks → z ≡ n +ℤ pos at → IsAhead ks (at - 1) n
ahead_by z n [] at lt some a is = absurd (omega arith)
ahead_by z n (k ∷ ks) at lt some a is =
    let first : number_of k.0 ≡ z = a.0.1 in
    let ahead : number_of k.0 ≡ n +ℤ pos (at - 1 + 1) = omega (arith, ints) in ahead
