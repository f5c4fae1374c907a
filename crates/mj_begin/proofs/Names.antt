-- What stands before and behind the last place of a character of one byte.
use Rattle.std.proofs.Common.{◌≡◌, ℕ, ◌+◌, ◌-◌, ◌<◌, ◌≤◌, ◌==◌, Bool, true, false, not, List, [], ◌∷◌, ◌++◌, length, get_or, take, drop, Option, Some, None, MatchOption, refl, sym, ap, subst, ◌∙◌, length-drop, get_or-drop, ne_eqb, eq-eqb, eqb-true, if◌then◌else◌, arith}
use Rattle.std.specs.Str.Pattern.{RFindsChar, SplitsAroundMatch, FindsCharPrefix, StripsPrefix}
use Rattle.mj_begin.specs.Names.{is_point, stem_of, with_percent}
use Rattle.std.specs.List.{suffix_len, before_last, after_last}
use Rattle.std.proofs.lemmas.Str.{len_utf8_ascii, encode_ascii}
use Rattle.std.proofs.lemmas.Str.Pattern.{NoCharPasses-char, drop_at_char}
use Rattle.std.proofs.lemmas.List.Sums.{suffix_len_is}

module _ (c : ℕ) (low : c < 128) (s : List ℕ) where
  abbrev is_other : ℕ → Bool
  is_other b = not (b == c)

  other : (k : ℕ) → (get_or s k 0 ≡ c → ⊥) → is_other (get_or s k 0) ≡ true
  other k apart = ap not (ne_eqb (get_or s k 0) c apart)

  -- it stands nowhere
  module _ (none : RFindsChar c s None) where
    all : suffix_len is_other s ≡ length s
    all =
        let whole : length s - 0 ≡ length s = omega arith in
        suffix_len_is is_other s 0 0 (omega arith) (λ k a l. other k (NoCharPasses-char c s k none low l)) (λ l. absurd (omega (arith, l))) ∙ whole

    pub all_after : s ≡ after_last (λ b. b == c) s
    all_after = let n : length s - suffix_len is_other s ≡ 0 = omega (arith, all) in ap (λ k. drop k s) (sym n)

    pub none_before : before_last (λ b. b == c) s ≡ []
    none_before = let n : length s - suffix_len is_other s - 1 ≡ 0 = omega (arith, all) in ap (λ k. take k s) n

  -- it stands last between these
  module _ (front back : List ℕ) (split : SplitsAroundMatch (RFindsChar c) s front back) where
    abbrev at : ℕ
    at = split.0

    past : split.1 ≡ at + 1
    past = omega (arith, split.2.1.ends, len_utf8_ascii c low)

    inside : at < length s
    inside = omega (arith, past, split.7)

    behind : (k : ℕ) → at + 1 ≤ k → k < length s → get_or s k 0 ≡ c → ⊥
    behind k a l e =
        let j : ℕ = split.1 in
        let back : j + (k - j) ≡ k = omega (arith, past) in
        NoCharPasses-char c (drop j s) (k - j) split.2.0 low (omega (arith, past, length-drop j s)) (get_or-drop j s (k - j) 0 ∙ ap (λ n. get_or s n 0) back ∙ e)

    here : is_other (get_or s at 0) ≡ false
    here = ap not (eq-eqb (get_or s at 0) c (split.2.1.byte low))

    rest : suffix_len is_other s ≡ length s - (at + 1)
    rest =
        let before : at + 1 - 1 ≡ at = omega arith in
        suffix_len_is is_other s (at + 1) 0 (omega (arith, inside)) (λ k a l. other k (behind k a l)) (λ l. ap (λ k. is_other (get_or s k 0)) before ∙ here)

    pub after : back ≡ after_last (λ b. b == c) s
    after = let n : split.1 ≡ length s - suffix_len is_other s = omega (arith, rest, past, inside) in split.4 ∙ ap (λ k. drop k s) n

    pub before : before_last (λ b. b == c) s ≡ front
    before = let n : length s - suffix_len is_other s - 1 ≡ at = omega (arith, rest, inside) in ap (λ k. take k s) n ∙ sym split.3

-- the stem, by what stands before the last point
pub whole : (name : List ℕ) → before_last is_point name ≡ [] → name ≡ stem_of name
whole name is = sym (ap (λ (f : List ℕ). if length f == 0 then name else f) is)

pub stem_by : (name front : List ℕ) (empty : Bool) → before_last is_point name ≡ front → empty ≡ (length front == 0) → (if empty then name else front) ≡ stem_of name
stem_by name front empty is said = ap (λ (t : Bool). if t then name else front) said ∙ sym (ap (λ (f : List ℕ). if length f == 0 then name else f) is)

-- where nothing is found
pub none_of : {X : Type 0} (o : Option X) (P : Type 0) (Q : X → Type 0) → MatchOption o P Q → o ≡ None → P
none_of o P Q said is = subst (λ o. MatchOption o P Q) is said

-- what stands behind a first `_`, if there is one
pub unstripped : (s : List ℕ) → FindsCharPrefix 95 s None → with_percent s ≡ s
unstripped [] none = refl
unstripped (b ∷ bs) none = by (b == 95) refl
  where
    by : (t : Bool) → (b == 95) ≡ t → with_percent (b ∷ bs) ≡ b ∷ bs
    by true e = absurd (none bs (ap (λ x. x ∷ bs) (eqb-true b 95 e) ∙ sym (ap (λ l. l ++ bs) (encode_ascii 95 (omega arith)))))
    by false e = ap (λ (t : Bool). (if t then 37 else b) ∷ bs) e

pub stripped : (s back : List ℕ) → StripsPrefix (FindsCharPrefix 95) s back → with_percent s ≡ 37 ∷ back
stripped s back strips = ap with_percent (drop_at_char 95 s 0 strips.0 strips.1 (omega arith)) ∙ ap (λ l. 37 ∷ l) (sym strips.2)
