-- A name text is read as the name that it spells, and nothing else is read.
use Rattle.std.proofs.Common.{◌↔◌, ◌≢◌, ◌⊎◌, inl, inr, leb, leb-true, ◌≡◌, ℕ, zero, suc, ◌≤◌, ◌<◌, Bool, true, false, not, cond, ◌&&◌, ◌||◌, eqb, List, [], ◌∷◌, ◌++◌, length, Option, Some, None, refl, sym, ap, subst, ◌∙◌, arith, append_assoc, eqb-true, ne_eqb}
use Rattle.std.specs.List.{list_all}
use Rattle.std.specs.Char.{is_ascii_digit, is_ascii_alphabetic, is_ascii_alphanumeric}
use Rattle.std.specs.Str.{all_ascii_digits}
use Rattle.std.proofs.lemmas.Bool.Decides.{nat_tests}
use Rattle.std.specs.Prelude.{nat_lt}
use Rattle.mj_num.specs.Number.{is_canonic, is_magnitude}
use Rattle.mj_subs.specs.Name.{Name, is_word}
use Rattle.mj_nref.specs.Spelling.{doubled, subscript_text, rest_text, subscripts_text, word_text, name_text, is_filled, IsFormed}
use Rattle.mj_nref.specs.Reading.{is_mark, front_of, rest_of, preceded, quoted_at, is_plain, plain_only, subscript_of, closed, marked, with_mark, item_of, listed, continued_by, subscripts_of, named, name_with, name_in, name_of, IsReading}
use Rattle.mj_subs.specs.declared.subs.TheConstants.{SUBSCRIPTS_LIMIT}
use Rattle.mj_subs.specs.declared.word.TheConstants.{WORD_LIMIT}

-- ---- quotes

-- the bytes don't begin with a quote
abbrev NoQuote : List ℕ → Type 0
NoQuote [] = Unit {0}
NoQuote (c ∷ cs) = eqb c 34 ≡ false

closing : (r : List ℕ) → NoQuote r → quoted_at true r ≡ Some ([], r)
closing [] h = refl
closing (c ∷ cs) h = ap (λ b. cond b (preceded 34 (quoted_at false cs)) (Some ([], c ∷ cs))) h

doubled_byte : (c : ℕ) (s r : List ℕ) (b : Bool) → eqb c 34 ≡ b → quoted_at false (doubled s ++ 34 ∷ r) ≡ Some (s, r)
    → quoted_at false (cond b (34 ∷ 34 ∷ doubled s) (c ∷ doubled s) ++ 34 ∷ r) ≡ Some (c ∷ s, r)
doubled_byte c s r true e rec = ap (preceded 34) rec ∙ ap (λ d. Some (d ∷ s, r)) (sym (eqb-true c 34 e))
doubled_byte c s r false e rec =
    ap (λ b. cond b (quoted_at true (doubled s ++ 34 ∷ r)) (preceded c (quoted_at false (doubled s ++ 34 ∷ r)))) e ∙ ap (preceded c) rec

quoted_at-doubled : (s r : List ℕ) → NoQuote r → quoted_at false (doubled s ++ 34 ∷ r) ≡ Some (s, r)
quoted_at-doubled [] r h = closing r h
quoted_at-doubled (c ∷ s) r h = doubled_byte c s r (eqb c 34) refl (quoted_at-doubled s r h)

-- what was read of the bytes behind the opening quote, or behind one quote more
abbrev behind : Bool → List ℕ → List ℕ
behind true bs = 34 ∷ bs
behind false bs = bs

-- what a reading in quotes says of the bytes
abbrev IsQuoted : List ℕ → Option (List ℕ × List ℕ) → Type 0
IsQuoted bs None = Unit {0}
IsQuoted bs (Some p) = bs ≡ doubled p.0 ++ 34 ∷ p.1

preceded_quoted : (c : ℕ) (bs : List ℕ) (o : Option (List ℕ × List ℕ)) → IsQuoted bs o → eqb c 34 ≡ false → IsQuoted (c ∷ bs) (preceded c o)
preceded_quoted c bs None h e = tt
preceded_quoted c bs (Some p) h e = ap (λ l. c ∷ l) h ∙ ap (λ b. cond b (34 ∷ 34 ∷ doubled p.0) (c ∷ doubled p.0) ++ 34 ∷ p.1) (sym e)

doubled_quoted : (bs : List ℕ) (o : Option (List ℕ × List ℕ)) → IsQuoted bs o → IsQuoted (34 ∷ 34 ∷ bs) (preceded 34 o)
doubled_quoted bs None h = tt
doubled_quoted bs (Some p) h = ap (λ l. 34 ∷ 34 ∷ l) h

step_open : (c : ℕ) (cs : List ℕ) (b : Bool) → eqb c 34 ≡ b → IsQuoted (34 ∷ cs) (quoted_at true cs) → IsQuoted cs (quoted_at false cs)
    → IsQuoted (c ∷ cs) (cond b (quoted_at true cs) (preceded c (quoted_at false cs)))
step_open c cs true e h k = subst (λ d. IsQuoted (d ∷ cs) (quoted_at true cs)) (sym (eqb-true c 34 e)) h
step_open c cs false e h k = preceded_quoted c cs (quoted_at false cs) k e

step_behind : (c : ℕ) (cs : List ℕ) (b : Bool) → eqb c 34 ≡ b → IsQuoted cs (quoted_at false cs) → IsQuoted (34 ∷ c ∷ cs) (cond b (preceded 34 (quoted_at false cs)) (Some ([], c ∷ cs)))
step_behind c cs true e k = subst (λ d. IsQuoted (34 ∷ d ∷ cs) (preceded 34 (quoted_at false cs))) (sym (eqb-true c 34 e)) (doubled_quoted cs (quoted_at false cs) k)
step_behind c cs false e k = refl

quoted_at-IsQuoted : (b : Bool) (bs : List ℕ) → IsQuoted (behind b bs) (quoted_at b bs)
quoted_at-IsQuoted false [] = tt
quoted_at-IsQuoted true [] = refl
quoted_at-IsQuoted false (c ∷ cs) = step_open c cs (eqb c 34) refl (quoted_at-IsQuoted true cs) (quoted_at-IsQuoted false cs)
quoted_at-IsQuoted true (c ∷ cs) = step_behind c cs (eqb c 34) refl (quoted_at-IsQuoted false cs)

-- ---- marks

-- the bytes begin with a mark, or there are none
abbrev AtMark : List ℕ → Type 0
AtMark [] = Unit {0}
AtMark (c ∷ cs) = is_mark c ≡ true

-- no byte is a mark
abbrev unmarked : List ℕ → Bool
unmarked [] = true
unmarked (c ∷ cs) = not (is_mark c) && unmarked cs

front-rest : (bs : List ℕ) → bs ≡ front_of bs ++ rest_of bs
front-rest [] = refl
front-rest (c ∷ cs) = by (is_mark c) (front-rest cs)
  where
    by : (b : Bool) → cs ≡ front_of cs ++ rest_of cs → c ∷ cs ≡ cond b [] (c ∷ front_of cs) ++ cond b (c ∷ cs) (rest_of cs)
    by true e = refl
    by false e = ap (λ l. c ∷ l) e

both_true : (a b : Bool) → (a && b) ≡ true → (a ≡ true) × (b ≡ true)
both_true true b e = (refl, e)
both_true false b e = absurd cc

not_true : (a : Bool) → not a ≡ true → a ≡ false
not_true true e = absurd cc
not_true false e = refl

front_of-unmarked : (s r : List ℕ) → unmarked s ≡ true → AtMark r → front_of (s ++ r) ≡ s
front_of-unmarked [] [] h m = refl
front_of-unmarked [] (c ∷ cs) h m = ap (λ b. cond b [] (c ∷ front_of cs)) m
front_of-unmarked (c ∷ s) r h m =
    let p = both_true (not (is_mark c)) (unmarked s) h in
    ap (λ b. cond b [] (c ∷ front_of (s ++ r))) (not_true (is_mark c) p.0) ∙ ap (λ l. c ∷ l) (front_of-unmarked s r p.1 m)

rest_of-unmarked : (s r : List ℕ) → unmarked s ≡ true → AtMark r → rest_of (s ++ r) ≡ r
rest_of-unmarked [] [] h m = refl
rest_of-unmarked [] (c ∷ cs) h m = ap (λ b. cond b (c ∷ cs) (rest_of cs)) m
rest_of-unmarked (c ∷ s) r h m =
    let p = both_true (not (is_mark c)) (unmarked s) h in
    ap (λ b. cond b (c ∷ (s ++ r)) (rest_of (s ++ r))) (not_true (is_mark c) p.0) ∙ rest_of-unmarked s r p.1 m

-- ---- which bytes stand in numbers and words

unmarked_byte : (c : ℕ) → (eqb c 40 ≡ false) → (eqb c 41 ≡ false) → (eqb c 44 ≡ false) → is_mark c ≡ false
unmarked_byte c a b d = λ i. (a i || b i) || d i

digit_byte : (c : ℕ) → is_ascii_digit c ≡ true → (48 ≤ c) × (c ≤ 57)
digit_byte c h = let p = both_true (leb 48 c) (leb c 57) h in (leb-true 48 c p.0, leb-true c 57 p.1)

digits_unmarked : (ds : List ℕ) → all_ascii_digits ds ≡ true → unmarked ds ≡ true
digits_unmarked [] h = refl
digits_unmarked (c ∷ cs) h =
    let p = both_true (is_ascii_digit c) (all_ascii_digits cs) h in
    let d = digit_byte c p.0 in
    let m = unmarked_byte c (ne_eqb c 40 (λ e. omega arith)) (ne_eqb c 41 (λ e. omega arith)) (ne_eqb c 44 (λ e. omega arith)) in
    λ i. not (m i) && digits_unmarked cs p.1 i

-- a canonic text has a byte, of which the first is no quote, and no mark
record IsClear (s : List ℕ) : Type 0 where
  some_byte : is_filled s ≡ true
  no_quote : NoQuote s
  no_mark : unmarked s ≡ true

either_byte : (a b : Bool) → (a || b) ≡ true → (a ≡ true) ⊎ (b ≡ true)
either_byte true b e = inl refl
either_byte false b e = inr e

magnitude_clear : (s : List ℕ) → is_magnitude s ≡ true → IsClear s
magnitude_clear [] h = absurd cc
magnitude_clear (c ∷ cs) h =
    let digits = (both_true (not (eqb c 48)) (all_ascii_digits (c ∷ cs)) (both_true (not (eqb c 48) && all_ascii_digits (c ∷ cs)) (nat_lt (length cs) 18) h).0).1 in
    let d = digit_byte c (both_true (is_ascii_digit c) (all_ascii_digits cs) digits).0 in
    record { some_byte = refl; no_quote = ne_eqb c 34 (λ e. omega arith); no_mark = digits_unmarked (c ∷ cs) digits }

zero_clear : (c : ℕ) (cs : List ℕ) → c ≡ 48 → eqb (length cs) 0 ≡ true → IsClear (c ∷ cs)
zero_clear c (d ∷ cs) e h = absurd (let n = eqb-true (length (d ∷ cs)) 0 h in omega arith)
zero_clear c [] e h = subst (λ x. IsClear (x ∷ [])) (sym e) (record { some_byte = refl; no_quote = refl; no_mark = refl })

minus_clear : (c : ℕ) (cs : List ℕ) → c ≡ 45 → IsClear cs → IsClear (c ∷ cs)
minus_clear c cs e k = subst (λ x. IsClear (x ∷ cs)) (sym e) (record { some_byte = refl; no_quote = refl; no_mark = k.no_mark })

canonic_clear : (s : List ℕ) → is_canonic s ≡ true → IsClear s
canonic_clear [] h = absurd cc
canonic_clear (c ∷ cs) h = by (eqb c 48) (eqb c 45) (eqb-true c 48) (eqb-true c 45) h
  where
    by : (a b : Bool) → (a ≡ true → c ≡ 48) → (b ≡ true → c ≡ 45) → cond a (eqb (length cs) 0) (cond b (is_magnitude cs) (is_magnitude (c ∷ cs))) ≡ true → IsClear (c ∷ cs)
    by true b p q k = zero_clear c cs (p refl) k
    by false true p q k = minus_clear c cs (q refl) (magnitude_clear cs k)
    by false false p q k = magnitude_clear (c ∷ cs) k

letter_or_digit : (c : ℕ) → is_ascii_alphanumeric c ≡ true → 48 ≤ c
letter_or_digit c h = grind (arith, nat_tests)

alphanumeric_unmarked : (cs : List ℕ) → list_all is_ascii_alphanumeric cs ≡ true → unmarked cs ≡ true
alphanumeric_unmarked [] h = refl
alphanumeric_unmarked (c ∷ cs) h =
    let p = both_true (is_ascii_alphanumeric c) (list_all is_ascii_alphanumeric cs) h in
    let d = letter_or_digit c p.0 in
    let m = unmarked_byte c (ne_eqb c 40 (λ e. omega arith)) (ne_eqb c 41 (λ e. omega arith)) (ne_eqb c 44 (λ e. omega arith)) in
    λ i. not (m i) && alphanumeric_unmarked cs p.1 i

-- the first byte is no `^`
abbrev NoCaret : List ℕ → Type 0
NoCaret [] = Unit {0}
NoCaret (c ∷ cs) = eqb c 94 ≡ false

head_byte : (c : ℕ) → (is_ascii_alphabetic c || eqb c 37) ≡ true → (c ≡ 37) ⊎ ((65 ≤ c) × (c ≢ 94))
head_byte c h = by (either_byte (is_ascii_alphabetic c) (eqb c 37) h)
  where
    letter : is_ascii_alphabetic c ≡ true → (65 ≤ c) × (c ≢ 94)
    letter e = (grind (arith, nat_tests), λ k. grind (arith, nat_tests))

    by : (is_ascii_alphabetic c ≡ true) ⊎ (eqb c 37 ≡ true) → (c ≡ 37) ⊎ ((65 ≤ c) × (c ≢ 94))
    by (inl e) = inr (letter e)
    by (inr e) = inl (eqb-true c 37 e)

word_clear : (w : List ℕ) → is_word w ≡ true → (unmarked w ≡ true) × NoCaret w
word_clear [] h = absurd cc
word_clear (c ∷ cs) h = by (head_byte c parts.0)
  where
    parts : ((is_ascii_alphabetic c || eqb c 37) ≡ true) × (list_all is_ascii_alphanumeric cs ≡ true)
    parts =
        both_true (is_ascii_alphabetic c || eqb c 37) (list_all is_ascii_alphanumeric cs)
        (both_true ((is_ascii_alphabetic c || eqb c 37) && list_all is_ascii_alphanumeric cs) (nat_lt (length cs) WORD_LIMIT) h).0

    clear : (c ≢ 40) → (c ≢ 41) → (c ≢ 44) → (c ≢ 94) → (unmarked (c ∷ cs) ≡ true) × (eqb c 94 ≡ false)
    clear p q r s =
        let m = unmarked_byte c (ne_eqb c 40 p) (ne_eqb c 41 q) (ne_eqb c 44 r) in
        (λ i. not (m i) && alphanumeric_unmarked cs parts.1 i, ne_eqb c 94 s)

    by : (c ≡ 37) ⊎ ((65 ≤ c) × (c ≢ 94)) → (unmarked (c ∷ cs) ≡ true) × (eqb c 94 ≡ false)
    by (inl e) = clear (λ k. omega arith) (λ k. omega arith) (λ k. omega arith) (λ k. omega arith)
    by (inr d) = clear (λ k. omega (arith, d.0)) (λ k. omega (arith, d.0)) (λ k. omega (arith, d.0)) d.1

-- ---- one subscript

-- the text of a subscript, where it is told whether it is canonic
abbrev spelled : Bool → List ℕ → List ℕ
spelled b s = cond b s (34 ∷ (doubled s ++ 34 ∷ []))

bare_read : (s r : List ℕ) → is_canonic s ≡ true → IsClear s → AtMark r → subscript_of (s ++ r) ≡ Some (s, r)
bare_read [] r h k m = absurd cc
bare_read (c ∷ cs) r h k m =
    let f = front_of-unmarked (c ∷ cs) r k.no_mark m in
    let t = rest_of-unmarked (c ∷ cs) r k.no_mark m in
    ap (λ b. cond b (plain_only (quoted_at false (cs ++ r))) (cond (is_canonic (front_of (c ∷ (cs ++ r)))) (Some (front_of (c ∷ (cs ++ r)), rest_of (c ∷ (cs ++ r)))) None)) k.no_quote
    ∙ (λ i. cond (is_canonic (f i)) (Some (f i, t i)) None)
    ∙ ap (λ b. cond b (Some (c ∷ cs, r)) None) h

plain_read : (s r : List ℕ) → is_canonic s ≡ false → is_filled s ≡ true → plain_only (Some (s, r)) ≡ Some (s, r)
plain_read [] r h f = absurd cc
plain_read (c ∷ cs) r h f = ap (λ b. cond (not b) (Some (c ∷ cs, r)) None) h

quoted_read : (s r : List ℕ) → is_canonic s ≡ false → is_filled s ≡ true → NoQuote r → subscript_of ((34 ∷ (doubled s ++ 34 ∷ [])) ++ r) ≡ Some (s, r)
quoted_read s r h f q =
    ap (λ l. plain_only (quoted_at false l)) (append_assoc (doubled s) (34 ∷ []) r) ∙ ap plain_only (quoted_at-doubled s r q) ∙ plain_read s r h f

-- a spelled subscript is read
subscript_of-text : (s r : List ℕ) → is_filled s ≡ true → AtMark r → NoQuote r → subscript_of (subscript_text s ++ r) ≡ Some (s, r)
subscript_of-text s r f m q = by (is_canonic s) refl
  where
    by : (b : Bool) → is_canonic s ≡ b → subscript_of (spelled b s ++ r) ≡ Some (s, r)
    by true h = bare_read s r h (canonic_clear s h) m
    by false h = quoted_read s r h f q

-- what a reading of a subscript says of the bytes
abbrev IsSpelled : List ℕ → Option (List ℕ × List ℕ) → Type 0
IsSpelled bs None = Unit {0}
IsSpelled bs (Some p) = (bs ≡ subscript_text p.0 ++ p.1) × (is_filled p.0 ≡ true)

plain_parts : (s : List ℕ) → is_plain s ≡ true → (is_canonic s ≡ false) × (is_filled s ≡ true)
plain_parts [] h = absurd cc
plain_parts (c ∷ cs) h = (not_true (is_canonic (c ∷ cs)) h, refl)

plain_spelled : (cs : List ℕ) (o : Option (List ℕ × List ℕ)) → IsQuoted cs o → IsSpelled (34 ∷ cs) (plain_only o)
plain_spelled cs None h = tt
plain_spelled cs (Some p) h = by (is_plain p.0) refl
  where
    by : (b : Bool) → is_plain p.0 ≡ b → IsSpelled (34 ∷ cs) (cond b (Some p) None)
    by false e = tt
    by true e =
        let k = plain_parts p.0 e in
        (ap (λ l. 34 ∷ l) (h ∙ sym (append_assoc (doubled p.0) (34 ∷ []) p.1)) ∙ ap (λ b. spelled b p.0 ++ p.1) (sym k.0), k.1)

bare_spelled : (bs : List ℕ) (b : Bool) → is_canonic (front_of bs) ≡ b → IsSpelled bs (cond b (Some (front_of bs, rest_of bs)) None)
bare_spelled bs false e = tt
bare_spelled bs true e =
    (front-rest bs ∙ ap (λ b. spelled b (front_of bs) ++ rest_of bs) (sym e), (canonic_clear (front_of bs) e).some_byte)

-- what is read is a spelled subscript
subscript_of-IsSpelled : (bs : List ℕ) → IsSpelled bs (subscript_of bs)
subscript_of-IsSpelled [] = tt
subscript_of-IsSpelled (c ∷ cs) = by (eqb c 34) refl
  where
    by : (b : Bool) → eqb c 34 ≡ b → IsSpelled (c ∷ cs) (cond b (plain_only (quoted_at false cs)) (cond (is_canonic (front_of (c ∷ cs))) (Some (front_of (c ∷ cs), rest_of (c ∷ cs))) None))
    by true e = subst (λ d. IsSpelled (d ∷ cs) (plain_only (quoted_at false cs))) (sym (eqb-true c 34 e)) (plain_spelled cs (quoted_at false cs) (quoted_at-IsQuoted false cs))
    by false e = bare_spelled (c ∷ cs) (is_canonic (front_of (c ∷ cs))) refl

-- ---- lists of subscripts

-- what follows a subscript, where it is the last or more of the list follow
abbrev tail_text : Option (List ℕ) → List ℕ
tail_text None = 41 ∷ []
tail_text (Some cs) = 44 ∷ cs

item_of-text : (s : List ℕ) (o : Option (List ℕ)) → is_filled s ≡ true → item_of (subscript_text s ++ tail_text o) ≡ Some (s, o)
item_of-text s None f = ap with_mark (subscript_of-text s (41 ∷ []) f refl refl)
item_of-text s (Some cs) f = ap with_mark (subscript_of-text s (44 ∷ cs) f refl refl)

abbrev IsItem : List ℕ → Option (List ℕ × Option (List ℕ)) → Type 0
IsItem bs None = Unit {0}
IsItem bs (Some p) = (bs ≡ subscript_text p.0 ++ tail_text p.1) × (is_filled p.0 ≡ true)

marked_item : (bs s t : List ℕ) → bs ≡ subscript_text s ++ t → is_filled s ≡ true → IsItem bs (marked s t)
marked_item bs s [] e f = tt
marked_item bs s (c ∷ cs) e f = by (eqb c 44) refl (eqb c 41) refl
  where
    last : (ds : List ℕ) → bs ≡ subscript_text s ++ 41 ∷ ds → IsItem bs (closed s ds)
    last [] d = (d, f)
    last (x ∷ xs) d = tt

    by : (a : Bool) → eqb c 44 ≡ a → (b : Bool) → eqb c 41 ≡ b → IsItem bs (cond a (Some (s, Some cs)) (cond b (closed s cs) None))
    by true p b q = (e ∙ ap (λ d. subscript_text s ++ d ∷ cs) (eqb-true c 44 p), f)
    by false p true q = last cs (e ∙ ap (λ d. subscript_text s ++ d ∷ cs) (eqb-true c 41 q))
    by false p false q = tt

item_of-IsItem : (bs : List ℕ) → IsItem bs (item_of bs)
item_of-IsItem bs = by (subscript_of bs) (subscript_of-IsSpelled bs)
  where
    by : (o : Option (List ℕ × List ℕ)) → IsSpelled bs o → IsItem bs (with_mark o)
    by None h = tt
    by (Some p) h = marked_item bs p.0 p.1 h.0 h.1

-- a spelled list is read
subscripts_of-text : (k : ℕ) (s : List ℕ) (ss : List (List ℕ)) → length ss < k → is_filled s ≡ true → list_all is_filled ss ≡ true → subscripts_of k (subscript_text s ++ rest_text ss) ≡ Some (s ∷ ss)
unfolding subscripts_of
subscripts_of-text zero s ss few f fs = absurd (omega arith)
subscripts_of-text (suc k) s [] few f fs = ap (continued_by (subscripts_of k)) (item_of-text s None f)
subscripts_of-text (suc k) s (t ∷ ts) few f fs =
    let p = both_true (is_filled t) (list_all is_filled ts) fs in
    ap (continued_by (subscripts_of k)) (item_of-text s (Some (subscript_text t ++ rest_text ts)) f)
    ∙ ap (listed s) (subscripts_of-text k t ts (omega arith) p.0 p.1)

-- what a reading of a list says of the bytes
abbrev IsListed : ℕ → List ℕ → Option (List (List ℕ)) → Type 0
IsListed k bs None = Unit {0}
IsListed k bs (Some []) = ⊥
IsListed k bs (Some (s ∷ ss)) = (bs ≡ subscript_text s ++ rest_text ss) × (length (s ∷ ss) ≤ k) × (list_all is_filled (s ∷ ss) ≡ true)

one_more : (k : ℕ) (bs s cs : List ℕ) (o : Option (List (List ℕ))) → bs ≡ subscript_text s ++ 44 ∷ cs → is_filled s ≡ true → IsListed k cs o → IsListed (suc k) bs (listed s o)
one_more k bs s cs None e f h = tt
one_more k bs s cs (Some []) e f h = absurd h
one_more k bs s cs (Some (t ∷ ts)) e f h =
    (e ∙ ap (λ l. subscript_text s ++ 44 ∷ l) h.0, omega (arith, h.1), (λ i. f i && h.2 i))

-- what is read is a spelled list
subscripts_of-IsListed : (k : ℕ) (bs : List ℕ) → IsListed k bs (subscripts_of k bs)
unfolding subscripts_of
subscripts_of-IsListed zero bs = tt
subscripts_of-IsListed (suc k) bs = listed_by k bs (subscripts_of k) (subscripts_of-IsListed k) (item_of bs) (item_of-IsItem bs)
  where
    listed_by : (k : ℕ) (bs : List ℕ) (more : List ℕ → Option (List (List ℕ))) → ((cs : List ℕ) → IsListed k cs (more cs)) → (o : Option (List ℕ × Option (List ℕ))) → IsItem bs o
        → IsListed (suc k) bs (continued_by more o)
    listed_by k bs more rec None h = tt
    listed_by k bs more rec (Some (s, None)) h = (h.0, omega arith, ap (λ b. b && true) h.1)
    listed_by k bs more rec (Some (s, Some cs)) h = one_more k bs s cs (more cs) h.0 h.1 (rec cs)

-- ---- names

AtMark-subscripts_text : (ss : List (List ℕ)) → AtMark (subscripts_text ss)
AtMark-subscripts_text [] = tt
AtMark-subscripts_text (s ∷ ss) = refl

list_read : (g : Bool) (w : List ℕ) (ss : List (List ℕ)) → length ss ≤ SUBSCRIPTS_LIMIT → list_all is_filled ss ≡ true
    → name_with g w (subscripts_text ss) ≡ Some (record { global = g; word = w; subscripts = ss })
list_read g w [] few f = refl
list_read g w (s ∷ ss) few f =
    let p = both_true (is_filled s) (list_all is_filled ss) f in
    ap (named g w) (subscripts_of-text SUBSCRIPTS_LIMIT s ss (omega arith) p.0 p.1)

word_read : (g : Bool) (w : List ℕ) (ss : List (List ℕ)) → is_word w ≡ true → length ss ≤ SUBSCRIPTS_LIMIT → list_all is_filled ss ≡ true
    → name_in g (w ++ subscripts_text ss) ≡ Some (record { global = g; word = w; subscripts = ss })
word_read g w ss h few f =
    let u = (word_clear w h).0 in
    let front = front_of-unmarked w (subscripts_text ss) u (AtMark-subscripts_text ss) in
    let rest = rest_of-unmarked w (subscripts_text ss) u (AtMark-subscripts_text ss) in
    (λ i. cond (is_word (front i)) (name_with g (front i) (rest i)) None) ∙ ap (λ b. cond b (name_with g w (subscripts_text ss)) None) h ∙ list_read g w ss few f

kind_read : (g : Bool) (w : List ℕ) (ss : List (List ℕ)) → is_word w ≡ true → length ss ≤ SUBSCRIPTS_LIMIT → list_all is_filled ss ≡ true
    → name_of (word_text g w ++ subscripts_text ss) ≡ Some (record { global = g; word = w; subscripts = ss })
kind_read true w ss h few f = word_read true w ss h few f
kind_read false [] ss h few f = absurd cc
kind_read false (c ∷ cs) ss h few f =
    ap (λ b. cond b (name_in true (cs ++ subscripts_text ss)) (name_in false (c ∷ (cs ++ subscripts_text ss)))) (word_clear (c ∷ cs) h).1
    ∙ word_read false (c ∷ cs) ss h few f

-- the name text of a formed name is read as that name
pub name_of-name_text : (n : Name) → IsFormed n → name_of (name_text n) ≡ Some n
name_of-name_text n k = kind_read n.global n.word n.subscripts k.word k.few k.filled

-- what a reading of a name says of the bytes
abbrev IsNamed : List ℕ → Option Name → Type 0
IsNamed bs None = Unit {0}
IsNamed bs (Some n) = (bs ≡ name_text n) × IsFormed n

rest_named : (g : Bool) (w r : List ℕ) → is_word w ≡ true → IsNamed (word_text g w ++ r) (name_with g w r)
rest_named g w [] h = (refl, record { word = h; few = omega arith; filled = refl })
rest_named g w (c ∷ cs) h = by (eqb c 40) refl
  where
    read : (o : Option (List (List ℕ))) → IsListed SUBSCRIPTS_LIMIT cs o → IsNamed (word_text g w ++ 40 ∷ cs) (named g w o)
    read None k = tt
    read (Some []) k = absurd k
    read (Some (s ∷ ss)) k = (ap (λ l. word_text g w ++ 40 ∷ l) k.0, record { word = h; few = k.1; filled = k.2 })

    by : (b : Bool) → eqb c 40 ≡ b → IsNamed (word_text g w ++ c ∷ cs) (cond b (named g w (subscripts_of SUBSCRIPTS_LIMIT cs)) None)
    by false e = tt
    by true e =
        subst (λ d. IsNamed (word_text g w ++ d ∷ cs) (named g w (subscripts_of SUBSCRIPTS_LIMIT cs))) (sym (eqb-true c 40 e))
        (read (subscripts_of SUBSCRIPTS_LIMIT cs) (subscripts_of-IsListed SUBSCRIPTS_LIMIT cs))

word_text-append : (g : Bool) (w r : List ℕ) → word_text g (w ++ r) ≡ word_text g w ++ r
word_text-append true w r = refl
word_text-append false w r = refl

word_named : (g : Bool) (bs : List ℕ) → IsNamed (word_text g bs) (name_in g bs)
word_named g bs = by (is_word (front_of bs)) refl
  where
    by : (b : Bool) → is_word (front_of bs) ≡ b → IsNamed (word_text g bs) (cond b (name_with g (front_of bs) (rest_of bs)) None)
    by false e = tt
    by true e =
        subst (λ l. IsNamed l (name_with g (front_of bs) (rest_of bs))) (sym (ap (word_text g) (front-rest bs) ∙ word_text-append g (front_of bs) (rest_of bs)))
        (rest_named g (front_of bs) (rest_of bs) e)

-- what is read is the name text of a formed name
name_of-IsNamed : (bs : List ℕ) → IsNamed bs (name_of bs)
name_of-IsNamed [] = tt
name_of-IsNamed (c ∷ cs) = by (eqb c 94) refl
  where
    by : (b : Bool) → eqb c 94 ≡ b → IsNamed (c ∷ cs) (cond b (name_in true cs) (name_in false (c ∷ cs)))
    by true e = subst (λ d. IsNamed (d ∷ cs) (name_in true cs)) (sym (eqb-true c 94 e)) (word_named true cs)
    by false e = word_named false (c ∷ cs)

-- a text is read as a name exactly where it is the name text of that name, which is formed
pub name_of-reads : (bs : List ℕ) (n : Name) → (name_of bs ≡ Some n) ↔ ((bs ≡ name_text n) × IsFormed n)
name_of-reads bs n = (λ e. subst (IsNamed bs) e (name_of-IsNamed bs), λ h. ap name_of h.0 ∙ name_of-name_text n h.1)

pub reading : (bs : List ℕ) (r : Option Name) → r ≡ name_of bs → IsReading bs r
reading bs r e = subst (IsReading bs) (sym e) (record { spells = name_of-reads bs })

the_name : (n : Name) → Option Name → Name
the_name n None = n
the_name n (Some m) = m

-- there is one spelling a name
pub name_text-injective : (m n : Name) → IsFormed m → IsFormed n → name_text m ≡ name_text n → m ≡ n
unfolding the_name
name_text-injective m n p q e = ap (the_name m) (sym (name_of-name_text m p) ∙ ap name_of e ∙ name_of-name_text n q)
