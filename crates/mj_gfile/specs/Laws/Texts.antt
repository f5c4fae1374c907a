-- A text in listing quotes is read as the text that it spells, and nothing else is read.
use Rattle.std.proofs.Common.{◌≡◌, ◌∙◌, ◌+◌, ◌*◌, ◌/◌, ◌%◌, ◌<◌, ℕ, Bool, true, false, cond, ◌&&◌, eqb, eqb-true, List, [], ◌∷◌, ◌++◌, Option, Some, None, refl, sym, ap, subst, append_assoc, arith}
use Rattle.std.specs.Prelude.{nat_lt}
use Rattle.std.proofs.lemmas.Bool.Decides.{nat_tests}
use Rattle.mj_gfile.specs.Spelling.{is_shown, digit_byte, quoted_byte, quoted_bytes, listed_text}
use Rattle.mj_gfile.specs.Reading.{Place, Whole, Quote, Slash, Digit, is_digit_byte, digit_value, preceded, unshown, quoted_at, text_at}
use Rattle.mj_gfile.specs.Listing.{are_bytes}

pub both_true : (a b : Bool) → (a && b) ≡ true → (a ≡ true) × (b ≡ true)
both_true true b e = (refl, e)
both_true false b e = absurd cc

-- the bytes don't begin with a quote
abbrev pub NoQuote : List ℕ → Type 0
NoQuote [] = Unit {0}
NoQuote (c ∷ cs) = eqb c 34 ≡ false

-- ---- digits

pub digit_is : (d : ℕ) → d < 16 → is_digit_byte (digit_byte d) ≡ true
digit_is d h = grind (arith, nat_tests)

pub digit_back : (d : ℕ) → d < 16 → digit_value (digit_byte d) ≡ d
digit_back d h = grind (arith, nat_tests)

pub digit_no_slash : (d : ℕ) → d < 16 → eqb (digit_byte d) 92 ≡ false
digit_no_slash d h = grind (arith, nat_tests)

pub value_below : (c : ℕ) → is_digit_byte c ≡ true → digit_value c < 16
value_below c h = grind (arith, nat_tests)

pub value_back : (c : ℕ) → is_digit_byte c ≡ true → digit_byte (digit_value c) ≡ c
value_back c h = grind (arith, nat_tests)

shown_below : (c : ℕ) → is_shown c ≡ true → nat_lt c 256 ≡ true
shown_below c h = grind (arith, nat_tests)

below_256 : (c : ℕ) → c < 256 → nat_lt c 256 ≡ true
below_256 c h = grind (arith, nat_tests)

is_below_256 : (c : ℕ) → nat_lt c 256 ≡ true → c < 256
is_below_256 c h = grind (arith, nat_tests)

unshown_apart : (c : ℕ) → is_shown c ≡ false → (eqb c 34 ≡ false) × (eqb c 92 ≡ false)
unshown_apart c h = (grind (arith, nat_tests), grind (arith, nat_tests))

-- ---- what is spelled is read

-- a byte, by what it is
by_kind : ℕ → Bool → Bool → Bool → List ℕ
by_kind c a b d = cond a (34 ∷ 34 ∷ []) (cond b (92 ∷ 92 ∷ []) (cond d (c ∷ []) (92 ∷ digit_byte (c / 16) ∷ digit_byte (c % 16) ∷ [])))

module _ (c : ℕ) (xs : List ℕ) where
  -- what is read where the byte c stands at the front
  Reads : List ℕ → Type 0
  Reads front = quoted_at Whole (front ++ xs) ≡ preceded c (quoted_at Whole xs)

  bare_read : eqb c 34 ≡ false → eqb c 92 ≡ false → is_shown c ≡ true → Reads (c ∷ [])
  unfolding Reads
  bare_read p q s =
      λ i. cond (p i) (quoted_at Quote xs) (cond (q i) (quoted_at Slash xs) (cond (s i) (preceded c (quoted_at Whole xs)) None))

  digits_read : is_shown c ≡ false → c < 256 → Reads (92 ∷ digit_byte (c / 16) ∷ digit_byte (c % 16) ∷ [])
  unfolding Reads
  digits_read s h =
      let high : c / 16 < 16 = omega arith in
      let low : c % 16 < 16 = omega arith in
      let whole : 16 * (c / 16) + c % 16 ≡ c = omega arith in
      (λ i. cond (digit_no_slash (c / 16) high i) (preceded 92 (quoted_at Whole (digit_byte (c % 16) ∷ xs)))
      (cond (digit_is (c / 16) high i) (quoted_at (Digit (digit_byte (c / 16))) (digit_byte (c % 16) ∷ xs)) None))
      ∙ (λ i. cond (digit_is (c % 16) low i) (unshown (16 * digit_back (c / 16) high i + digit_back (c % 16) low i) (quoted_at Whole xs)) None)
      ∙ ap (λ n. unshown n (quoted_at Whole xs)) whole
      ∙ ap (λ b. cond b None (preceded c (quoted_at Whole xs))) s

quote_read : (c : ℕ) (xs : List ℕ) → c ≡ 34 → Reads c xs (34 ∷ 34 ∷ [])
unfolding Reads
quote_read c xs e = ap (λ d. preceded d (quoted_at Whole xs)) (sym e)

slash_read : (c : ℕ) (xs : List ℕ) → c ≡ 92 → Reads c xs (92 ∷ 92 ∷ [])
unfolding Reads
slash_read c xs e = ap (λ d. preceded d (quoted_at Whole xs)) (sym e)

byte_read : (c : ℕ) (xs : List ℕ) → c < 256 → (a b d : Bool) → eqb c 34 ≡ a → eqb c 92 ≡ b → is_shown c ≡ d → Reads c xs (by_kind c a b d)
unfolding by_kind
byte_read c xs h true b d p q s = quote_read c xs (eqb-true c 34 p)
byte_read c xs h false true d p q s = slash_read c xs (eqb-true c 92 q)
byte_read c xs h false false true p q s = bare_read c xs p q s
byte_read c xs h false false false p q s = digits_read c xs s h

byte_reads : (c : ℕ) (xs : List ℕ) → c < 256 → quoted_at Whole (quoted_byte c ++ xs) ≡ preceded c (quoted_at Whole xs)
unfolding Reads by_kind
byte_reads c xs h = byte_read c xs h (eqb c 34) (eqb c 92) (is_shown c) refl refl refl

closing : (r : List ℕ) → NoQuote r → quoted_at Quote r ≡ Some ([], r)
closing [] h = refl
closing (c ∷ cs) h = ap (λ b. cond b (preceded 34 (quoted_at Whole cs)) (Some ([], c ∷ cs))) h

pub quoted_at-quoted : (t r : List ℕ) → are_bytes t ≡ true → NoQuote r → quoted_at Whole (quoted_bytes t ++ 34 ∷ r) ≡ Some (t, r)
quoted_at-quoted [] r h q = closing r q
quoted_at-quoted (c ∷ t) r h q =
    let p = both_true (nat_lt c 256) (are_bytes t) h in
    let below : c < 256 = is_below_256 c p.0 in
    ap (quoted_at Whole) (append_assoc (quoted_byte c) (quoted_bytes t) (34 ∷ r))
    ∙ byte_reads c (quoted_bytes t ++ 34 ∷ r) below ∙ ap (preceded c) (quoted_at-quoted t r p.1 q)

-- ---- what is read is spelled

-- the bytes of a unit that were read already
abbrev front : Place → List ℕ
front Whole = []
front Quote = 34 ∷ []
front Slash = 92 ∷ []
front (Digit h) = 92 ∷ h ∷ []

abbrev IsPlace : Place → Type 0
IsPlace Whole = Unit {0}
IsPlace Quote = Unit {0}
IsPlace Slash = Unit {0}
IsPlace (Digit h) = is_digit_byte h ≡ true

-- what a reading in listing quotes says of the bytes
abbrev pub IsQuoted : List ℕ → Option (List ℕ × List ℕ) → Type 0
IsQuoted bs None = Unit {0}
IsQuoted bs (Some p) = (bs ≡ quoted_bytes p.0 ++ 34 ∷ p.1) × (are_bytes p.0 ≡ true)

preceded_quoted : (c : ℕ) (unit bs : List ℕ) (o : Option (List ℕ × List ℕ)) → unit ≡ quoted_byte c → nat_lt c 256 ≡ true → IsQuoted bs o → IsQuoted (unit ++ bs) (preceded c o)
preceded_quoted c unit bs None e b h = tt
preceded_quoted c unit bs (Some p) e b h =
    ((λ i. e i ++ h.0 i) ∙ sym (append_assoc (quoted_byte c) (quoted_bytes p.0) (34 ∷ p.1)), (λ i. b i && h.1 i))

kind_of : (c : ℕ) (a b d : Bool) → eqb c 34 ≡ a → eqb c 92 ≡ b → is_shown c ≡ d → by_kind c a b d ≡ quoted_byte c
unfolding by_kind
kind_of c a b d p q s = λ i. by_kind c (sym p i) (sym q i) (sym s i)

module _ (h l n : ℕ) (is : n ≡ 16 * digit_value h + digit_value l) (p : is_digit_byte h ≡ true) (q : is_digit_byte l ≡ true) where
  high : n / 16 ≡ digit_value h
  high = omega (arith, is, value_below l q)

  low : n % 16 ≡ digit_value l
  low = omega (arith, is, value_below l q)

  below : n < 256
  below = omega (arith, is, value_below l q, value_below h p)

  spelled : is_shown n ≡ false → 92 ∷ h ∷ l ∷ [] ≡ quoted_byte n
  unfolding by_kind
  spelled s =
      let apart = unshown_apart n s in
      (λ i. 92 ∷ sym (ap digit_byte high ∙ value_back h p) i ∷ sym (ap digit_byte low ∙ value_back l q) i ∷ []) ∙ kind_of n false false false apart.0 apart.1 s

  unit_quoted : (bs : List ℕ) (o : Option (List ℕ × List ℕ)) (b : Bool) → is_shown n ≡ b → IsQuoted bs o → IsQuoted (92 ∷ h ∷ l ∷ bs) (cond b None (preceded n o))
  unit_quoted bs o true s k = tt
  unit_quoted bs o false s k = preceded_quoted n (92 ∷ h ∷ l ∷ []) bs o (spelled s) (below_256 n below) k

digits_quoted : (h l : ℕ) (bs : List ℕ) (o : Option (List ℕ × List ℕ)) → is_digit_byte h ≡ true → is_digit_byte l ≡ true → IsQuoted bs o
    → IsQuoted (92 ∷ h ∷ l ∷ bs) (unshown (16 * digit_value h + digit_value l) o)
digits_quoted h l bs o p q k =
    unit_quoted h l (16 * digit_value h + digit_value l) refl p q bs o (is_shown (16 * digit_value h + digit_value l)) refl k

whole_step : (c : ℕ) (cs : List ℕ) (a b d : Bool) → eqb c 34 ≡ a → eqb c 92 ≡ b → is_shown c ≡ d → IsQuoted (34 ∷ cs) (quoted_at Quote cs) → IsQuoted (92 ∷ cs) (quoted_at Slash cs)
    → IsQuoted cs (quoted_at Whole cs) → IsQuoted (c ∷ cs) (cond a (quoted_at Quote cs) (cond b (quoted_at Slash cs) (cond d (preceded c (quoted_at Whole cs)) None)))
unfolding by_kind
whole_step c cs true b d p q s x y z = subst (λ e. IsQuoted (e ∷ cs) (quoted_at Quote cs)) (sym (eqb-true c 34 p)) x
whole_step c cs false true d p q s x y z = subst (λ e. IsQuoted (e ∷ cs) (quoted_at Slash cs)) (sym (eqb-true c 92 q)) y
whole_step c cs false false true p q s x y z = preceded_quoted c (c ∷ []) cs (quoted_at Whole cs) (kind_of c false false true p q s) (shown_below c s) z
whole_step c cs false false false p q s x y z = tt

quote_step : (c : ℕ) (cs : List ℕ) (a : Bool) → eqb c 34 ≡ a → IsQuoted cs (quoted_at Whole cs) → IsQuoted (34 ∷ c ∷ cs) (cond a (preceded 34 (quoted_at Whole cs)) (Some ([], c ∷ cs)))
quote_step c cs true p z =
    subst (λ e. IsQuoted (34 ∷ e ∷ cs) (preceded 34 (quoted_at Whole cs))) (sym (eqb-true c 34 p)) (preceded_quoted 34 (34 ∷ 34 ∷ []) cs (quoted_at Whole cs) refl refl z)
quote_step c cs false p z = (refl, refl)

slash_step : (c : ℕ) (cs : List ℕ) (a b : Bool) → eqb c 92 ≡ a → is_digit_byte c ≡ b → IsQuoted cs (quoted_at Whole cs) → (is_digit_byte c ≡ true → IsQuoted (92 ∷ c ∷ cs) (quoted_at (Digit c) cs))
    → IsQuoted (92 ∷ c ∷ cs) (cond a (preceded 92 (quoted_at Whole cs)) (cond b (quoted_at (Digit c) cs) None))
slash_step c cs true b p q z more =
    subst (λ e. IsQuoted (92 ∷ e ∷ cs) (preceded 92 (quoted_at Whole cs))) (sym (eqb-true c 92 p)) (preceded_quoted 92 (92 ∷ 92 ∷ []) cs (quoted_at Whole cs) refl refl z)
slash_step c cs false true p q z more = more q
slash_step c cs false false p q z more = tt

digit_step : (h c : ℕ) (cs : List ℕ) (b : Bool) → is_digit_byte h ≡ true → is_digit_byte c ≡ b → IsQuoted cs (quoted_at Whole cs)
    → IsQuoted (92 ∷ h ∷ c ∷ cs) (cond b (unshown (16 * digit_value h + digit_value c) (quoted_at Whole cs)) None)
digit_step h c cs true p q z = digits_quoted h c cs (quoted_at Whole cs) p q z
digit_step h c cs false p q z = tt

quoted_at-read : (place : Place) (bs : List ℕ) → IsPlace place → IsQuoted (front place ++ bs) (quoted_at place bs)
quoted_at-read Whole [] k = tt
quoted_at-read Quote [] k = (refl, refl)
quoted_at-read Slash [] k = tt
quoted_at-read (Digit h) [] k = tt
quoted_at-read Whole (c ∷ cs) k =
    whole_step c cs (eqb c 34) (eqb c 92) (is_shown c) refl refl refl (quoted_at-read Quote cs tt) (quoted_at-read Slash cs tt) (quoted_at-read Whole cs tt)
quoted_at-read Quote (c ∷ cs) k = quote_step c cs (eqb c 34) refl (quoted_at-read Whole cs tt)
quoted_at-read Slash (c ∷ cs) k =
    slash_step c cs (eqb c 92) (is_digit_byte c) refl refl (quoted_at-read Whole cs tt) (λ d. quoted_at-read (Digit c) cs d)
quoted_at-read (Digit h) (c ∷ cs) k = digit_step h c cs (is_digit_byte c) k refl (quoted_at-read Whole cs tt)

pub quoted_at-IsQuoted : (bs : List ℕ) → IsQuoted bs (quoted_at Whole bs)
quoted_at-IsQuoted bs = quoted_at-read Whole bs tt

-- ---- texts

-- a text in listing quotes is read, where no quote follows it
pub text_at-listed : (t r : List ℕ) → are_bytes t ≡ true → NoQuote r → text_at (listed_text t ++ r) ≡ Some (t, r)
text_at-listed t r h q = ap (quoted_at Whole) (append_assoc (quoted_bytes t) (34 ∷ []) r) ∙ quoted_at-quoted t r h q

-- what a reading of a text says of the bytes
abbrev pub IsTextAt : List ℕ → Option (List ℕ × List ℕ) → Type 0
IsTextAt bs None = Unit {0}
IsTextAt bs (Some p) = (bs ≡ listed_text p.0 ++ p.1) × (are_bytes p.0 ≡ true)

listed_at : (cs : List ℕ) (o : Option (List ℕ × List ℕ)) → IsQuoted cs o → IsTextAt (34 ∷ cs) o
listed_at cs None h = tt
listed_at cs (Some p) h = (ap (λ l. 34 ∷ l) (h.0 ∙ sym (append_assoc (quoted_bytes p.0) (34 ∷ []) p.1)), h.1)

-- what is read is a text in listing quotes
pub text_at-IsTextAt : (bs : List ℕ) → IsTextAt bs (text_at bs)
text_at-IsTextAt [] = tt
text_at-IsTextAt (c ∷ cs) = by (eqb c 34) refl
  where
    by : (b : Bool) → eqb c 34 ≡ b → IsTextAt (c ∷ cs) (cond b (quoted_at Whole cs) None)
    by false e = tt
    by true e = subst (λ d. IsTextAt (d ∷ cs) (quoted_at Whole cs)) (sym (eqb-true c 34 e)) (listed_at cs (quoted_at Whole cs) (quoted_at-IsQuoted cs))
