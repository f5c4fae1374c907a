-- The slices of the tokens of a line are the line, and each is the longest that spells a token.
use Rattle.std.proofs.Common.{◌≡◌, ℕ, zero, suc, ◌+◌, ◌≤◌, Bool, true, false, List, [], ◌∷◌, ◌++◌, length, take, drop, take_while, refl, ap, sym, ◌∙◌, subst, arith, append_assoc, length-append, inl, inr, Option, Some, None}
use Rattle.std.specs.Prelude.{◌==◌, cond, ◌||◌}
use Rattle.std.specs.List.{list_all}
use Rattle.std.proofs.lemmas.Bool.{eqb-true, and_parts, and_from}
use Rattle.std.proofs.lemmas.Bool.Decides.{nat_tests}
use Rattle.std.proofs.lemmas.List.{length-drop, length-take, take-append-drop}
use Rattle.std.proofs.lemmas.List.Sums.{take_while-cons, AllPass-from_list_all, list_all-from_AllPass}
use Rattle.mj_oper.specs.declared.op.TruthOp.{TruthOp}
use Rattle.mj_oper.specs.declared.op.TruthOp.TheVariants as truth
use Rattle.mj_ast.specs.declared.sign.Sign.{Sign}
use Rattle.mj_ast.specs.declared.sign.Sign.TheVariants.{Plus, Minus, Star, Backslash, Hash, Slash, Underscore, Equals, Less, Greater, OpenBracket, CloseBracket, CloseBrackets, Ampersand, Exclamation, Apostrophe, Negated, Question, NegatedQuestion, Caret, Open, Close, Comma, Colon, Dot}
use Rattle.mj_ast.specs.Tokens.{Token, Word, Called, Special, Invoked, Numbered, Dollars, Digits, Quoted, Signed, Blank, Comment, Unclosed, Stray, Class, AWord, ADollar, ADigit, AQuote, ABlank, AComment, ASign, Nothing, begins_word, continues_word, is_digit, is_blank, truth_bytes, sign_bytes, doubled, class_of, IsSpelledBy, opens, IsBefore, IsLongest, IsTokenisation, Quotation, quotation, behind_quote, with_byte, bracket_front, truth_front, bracket_sign, apostrophe_sign, longest_sign, dollar_word, dollars_front, dollar_front, front_of, first_lexemes, lexemes}
use Rattle.mj_lex.proofs.Fronts.{front_taken}

-- ---- what a byte begins, and what it is

abbrev Says : ℕ → Class → Type 0
Says b AWord = begins_word b ≡ true
Says b ADigit = is_digit b ≡ true
Says b ABlank = is_blank b ≡ true
Says b AQuote = b ≡ 34
Says b AComment = b ≡ 59
Says b ADollar = b ≡ 36
Says b (ASign s) = b ∷ [] ≡ sign_bytes s
Says b Nothing = Unit {0}

says_if : (b : ℕ) (p : Bool) (c d : Class) → (p ≡ true → Says b c) → Says b d → Says b (cond p c d)
says_if b true c d f g = f refl
says_if b false c d f g = g

sign_if : (b k : ℕ) (s : Sign) (d : Class) → k ∷ [] ≡ sign_bytes s → Says b d → Says b (cond (b == k) (ASign s) d)
sign_if b k s d e g = says_if b (b == k) (ASign s) d (λ h. ap (λ (x : ℕ). x ∷ []) (eqb-true b k h) ∙ e) g

says : (b : ℕ) → Says b (class_of b)
says b =
    says_if b (begins_word b) AWord _ (λ h. h) (
    says_if b (is_digit b) ADigit _ (λ h. h) (
    says_if b (is_blank b) ABlank _ (λ h. h) (
    says_if b (b == 34) AQuote _ (eqb-true b 34) (
    says_if b (b == 59) AComment _ (eqb-true b 59) (
    says_if b (b == 36) ADollar _ (eqb-true b 36) (
    sign_if b 43 Plus _ refl (sign_if b 45 Minus _ refl (sign_if b 42 Star _ refl (sign_if b 92 Backslash _ refl (
    sign_if b 35 Hash _ refl (sign_if b 47 Slash _ refl (sign_if b 95 Underscore _ refl (sign_if b 61 Equals _ refl (
    sign_if b 60 Less _ refl (sign_if b 62 Greater _ refl (sign_if b 91 OpenBracket _ refl (sign_if b 93 CloseBracket _ refl (
    sign_if b 38 Ampersand _ refl (sign_if b 33 Exclamation _ refl (sign_if b 39 Apostrophe _ refl (sign_if b 63 Question _ refl (sign_if b 94 Caret _ refl (
    sign_if b 40 Open _ refl (sign_if b 41 Close _ refl (sign_if b 44 Comma _ refl (sign_if b 58 Colon _ refl (sign_if b 46 Dot Nothing refl tt)))))))))))))))))))))))))))

-- ---- the token at the front is spelled by its slice

record IsFront (b : ℕ) (bs : List ℕ) (f : Token × ℕ) : Type 0 where
  spelled : IsSpelledBy f.0 (b ∷ take f.1 bs)
  fits : IsBefore f.0 (drop f.1 bs)

passes_as : (p : ℕ → Bool) (x : ℕ) (xs : List ℕ) (b : Bool) → p x ≡ b → list_all p xs ≡ true → list_all p (cond b (x ∷ xs) []) ≡ true
passes_as p x xs true e h = and_from (p x) (list_all p xs) e h
passes_as p x xs false e h = refl

while_passes : (p : ℕ → Bool) (xs : List ℕ) → list_all p (take_while p xs) ≡ true
while_passes p [] = refl
while_passes p (x ∷ xs) = ap (list_all p) (take_while-cons p x xs) ∙ passes_as p x (take_while p xs) (p x) refl (while_passes p xs)

one_more : (n : ℕ) → 1 + n ≡ suc n
one_more n = omega arith

abbrev QuoteTaken : Quotation → List ℕ → Type 0
QuoteTaken q bs = take q.width bs ≡ cond q.closed (doubled q.content ++ 34 ∷ []) (doubled q.content)

with_taken : (b : ℕ) (bs : List ℕ) (q : Quotation) (e : Bool) → (b == 34) ≡ e → e ≡ false → QuoteTaken q bs → QuoteTaken (with_byte b 1 q) (b ∷ bs)
with_taken b bs q e f g h =
    ap (λ (k : ℕ). take k (b ∷ bs)) (one_more q.width) ∙ ap (λ (xs : List ℕ). b ∷ xs) h ∙ by q.closed
  where
    plain : doubled (b ∷ q.content) ≡ b ∷ doubled q.content
    plain = ap (λ (x : Bool). cond x (34 ∷ 34 ∷ doubled q.content) (b ∷ doubled q.content)) (f ∙ g)

    by : (c : Bool) → b ∷ cond c (doubled q.content ++ 34 ∷ []) (doubled q.content) ≡ cond c (doubled (b ∷ q.content) ++ 34 ∷ []) (doubled (b ∷ q.content))
    by true = ap (λ (xs : List ℕ). xs ++ 34 ∷ []) (sym plain)
    by false = sym plain

two_taken : (bs : List ℕ) (q : Quotation) → QuoteTaken q bs → QuoteTaken (with_byte 34 2 q) (34 ∷ 34 ∷ bs)
two_taken bs q h = ap (λ (k : ℕ). take k (34 ∷ 34 ∷ bs)) (let e : 2 + q.width ≡ suc (suc q.width) = omega arith in e) ∙ ap (λ (xs : List ℕ). 34 ∷ 34 ∷ xs) h ∙ by q.closed
  where
    by : (c : Bool) → 34 ∷ 34 ∷ cond c (doubled q.content ++ 34 ∷ []) (doubled q.content) ≡ cond c (doubled (34 ∷ q.content) ++ 34 ∷ []) (doubled (34 ∷ q.content))
    by true = refl
    by false = refl

quote_as : (b : ℕ) (bs : List ℕ) (e : Bool) → (b == 34) ≡ e → QuoteTaken (quotation bs) bs → QuoteTaken (behind_quote bs) (34 ∷ bs) →
    QuoteTaken (elim e [ true ↦ behind_quote bs | false ↦ with_byte b 1 (quotation bs) ]) (b ∷ bs)
quote_as b bs true e h i = let P : ℕ → Type 0 = λ x. QuoteTaken (behind_quote bs) (x ∷ bs) in subst P (sym (eqb-true b 34 e)) i
quote_as b bs false e h i = with_taken b bs (quotation bs) false e refl h

behind_as : (c : ℕ) (cs : List ℕ) (e : Bool) → (c == 34) ≡ e → QuoteTaken (quotation cs) cs →
    QuoteTaken (elim e [ true ↦ with_byte 34 2 (quotation cs) | false ↦ record { closed = true; content = []; width = 1 } ]) (34 ∷ c ∷ cs)
behind_as c cs true e h = let P : ℕ → Type 0 = λ x. QuoteTaken (with_byte 34 2 (quotation cs)) (34 ∷ x ∷ cs) in subst P (sym (eqb-true c 34 e)) (two_taken cs (quotation cs) h)
behind_as c cs false e h = refl

mutual
  quote_taken : (bs : List ℕ) → QuoteTaken (quotation bs) bs
  quote_taken [] = refl
  quote_taken (b ∷ bs) = quote_as b bs (b == 34) refl (quote_taken bs) (behind_taken bs)

  behind_taken : (bs : List ℕ) → QuoteTaken (behind_quote bs) (34 ∷ bs)
  behind_taken [] = refl
  behind_taken (c ∷ cs) = behind_as c cs (c == 34) refl (quote_taken cs)

quote_front : (b : ℕ) (bs : List ℕ) (q : Quotation) (c : Bool) → b ≡ 34 → take q.width bs ≡ cond c (doubled q.content ++ 34 ∷ []) (doubled q.content) →
    IsFront b bs (cond c (Quoted q.content) (Unclosed q.content), q.width)
quote_front b bs q true e h = record { spelled = ap (λ (x : ℕ). x ∷ take q.width bs) e ∙ ap (λ (xs : List ℕ). 34 ∷ xs) h; fits = tt }
quote_front b bs q false e h = record { spelled = ap (λ (x : ℕ). x ∷ take q.width bs) e ∙ ap (λ (xs : List ℕ). 34 ∷ xs) h; fits = tt }

-- `$$`, a byte, and those behind it that pass
behind_two : (p : ℕ → Bool) (b c d : ℕ) (ds : List ℕ) → b ≡ 36 → c ≡ 36 → b ∷ take (1 + (1 + length (take_while p ds))) (c ∷ d ∷ ds) ≡ 36 ∷ 36 ∷ d ∷ take_while p ds
behind_two p b c d ds e g =
    let n : 1 + (1 + length (take_while p ds)) ≡ suc (suc (length (take_while p ds))) = omega arith in
    ap (λ (k : ℕ). b ∷ take k (c ∷ d ∷ ds)) n ∙ ap (λ (x : ℕ). x ∷ c ∷ d ∷ take (length (take_while p ds)) ds) e
    ∙ ap (λ (x : ℕ). 36 ∷ x ∷ d ∷ take (length (take_while p ds)) ds) g ∙ ap (λ (xs : List ℕ). 36 ∷ 36 ∷ d ∷ xs) (front_taken p ds)

-- the token of `$$` by what stands behind it
abbrev dollars_by : ℕ → List ℕ → Bool → Bool → Token × ℕ
dollars_by d ds p q =
    cond p (Invoked (d ∷ take_while continues_word ds), 1 + length (take_while continues_word ds))
    (cond q (Numbered (d ∷ take_while is_digit ds), 1 + length (take_while is_digit ds)) (Dollars, 0))

dollars_as : (b c d : ℕ) (ds : List ℕ) (p q : Bool) → b ≡ 36 → c ≡ 36 → begins_word d ≡ p → is_digit d ≡ q →
    IsFront b (c ∷ d ∷ ds) ((dollars_by d ds p q).0, 1 + (dollars_by d ds p q).1)
dollars_as b c d ds true q e g f h = record {
  spelled = (behind_two continues_word b c d ds e g, (f, AllPass-from_list_all continues_word (take_while continues_word ds) (while_passes continues_word ds)));
  fits = tt;
}
dollars_as b c d ds false true e g f h =
    let w = take_while is_digit ds in
    record {
      spelled = (
        behind_two is_digit b c d ds e g,
        AllPass-from_list_all is_digit (d ∷ w) (and_from (is_digit d) (list_all is_digit w) h (while_passes is_digit ds)),
      );
      fits = tt;
    }
dollars_as b c d ds false false e g f h = record { spelled = ap (λ (x : ℕ). x ∷ c ∷ []) e ∙ ap (λ (x : ℕ). 36 ∷ x ∷ []) g; fits = tt }

dollars_is : (b c : ℕ) (cs : List ℕ) → b ≡ 36 → c ≡ 36 → IsFront b (c ∷ cs) ((dollars_front cs).0, 1 + (dollars_front cs).1)
dollars_is b c [] e g = record { spelled = ap (λ (x : ℕ). x ∷ c ∷ []) e ∙ ap (λ (x : ℕ). 36 ∷ x ∷ []) g; fits = tt }
dollars_is b c (d ∷ ds) e g = dollars_as b c d ds (begins_word d) (is_digit d) e g refl refl

-- the token of a `$` by what stands behind it
abbrev dollar_by : ℕ → List ℕ → Bool → Bool → Bool → Token × ℕ
dollar_by c cs p o r =
    cond p (cond o (Called (c ∷ take_while continues_word cs)) (Special (c ∷ take_while continues_word cs)), 1 + length (take_while continues_word cs))
    (cond r ((dollars_front cs).0, 1 + (dollars_front cs).1) (Stray 36, 0))

dollar_as : (b c : ℕ) (cs : List ℕ) (p o r : Bool) → b ≡ 36 → begins_word c ≡ p → opens (drop (length (take_while continues_word cs)) cs) ≡ o → (c == 36) ≡ r →
    IsFront b (c ∷ cs) (dollar_by c cs p o r)
dollar_as b c cs true true r e f g h =
    let w = take_while continues_word cs in
    let n = one_more (length w) in
    record {
      spelled = (
        ap (λ (x : ℕ). x ∷ take (1 + length w) (c ∷ cs)) e ∙ ap (λ (k : ℕ). 36 ∷ take k (c ∷ cs)) n ∙
            ap (λ (xs : List ℕ). 36 ∷ c ∷ xs) (front_taken continues_word cs),
        (f, AllPass-from_list_all continues_word w (while_passes continues_word cs)),
      );
      fits = ap (λ (k : ℕ). opens (drop k (c ∷ cs))) n ∙ g;
    }
dollar_as b c cs true false r e f g h =
    let w = take_while continues_word cs in
    let n = one_more (length w) in
    record {
      spelled = (
        ap (λ (x : ℕ). x ∷ take (1 + length w) (c ∷ cs)) e ∙ ap (λ (k : ℕ). 36 ∷ take k (c ∷ cs)) n ∙
            ap (λ (xs : List ℕ). 36 ∷ c ∷ xs) (front_taken continues_word cs),
        (f, AllPass-from_list_all continues_word w (while_passes continues_word cs)),
      );
      fits = ap (λ (k : ℕ). opens (drop k (c ∷ cs))) n ∙ g;
    }
dollar_as b c cs false o true e f g h = dollars_is b c cs e (eqb-true c 36 h)
dollar_as b c cs false o false e f g h = record { spelled = (ap (λ (x : ℕ). x ∷ []) e, inr refl); fits = tt }

dollar_is : (b : ℕ) (bs : List ℕ) → b ≡ 36 → IsFront b bs (dollar_front bs)
dollar_is b [] e = record { spelled = (ap (λ (x : ℕ). x ∷ []) e, inr refl); fits = tt }
dollar_is b (c ∷ cs) e = dollar_as b c cs (begins_word c) (opens (drop (length (take_while continues_word cs)) cs)) (c == 36) e refl refl refl

-- the truth operator at the front is spelled there
abbrev TruthTaken : List ℕ → Option TruthOp → Type 0
TruthTaken bs None = Unit {0}
TruthTaken bs (Some op) = take (length (truth_bytes op)) bs ≡ truth_bytes op

truth_if : (b k : ℕ) (bs : List ℕ) (op : TruthOp) (d : Option TruthOp) → (b ≡ k → TruthTaken (b ∷ bs) (Some op)) → TruthTaken (b ∷ bs) d → TruthTaken (b ∷ bs) (cond (b == k) (Some op) d)
truth_if b k bs op d f g = by (b == k) refl
  where
    by : (e : Bool) → (b == k) ≡ e → TruthTaken (b ∷ bs) (cond e (Some op) d)
    by true e = f (eqb-true b k e)
    by false e = g

bracket_taken : (b : ℕ) (bs : List ℕ) → b ≡ 93 → TruthTaken (b ∷ bs) (Some (bracket_front bs))
bracket_taken b [] e = ap (λ (x : ℕ). x ∷ []) e
bracket_taken b (c ∷ cs) e = by (c == 93) refl
  where
    by : (f : Bool) → (c == 93) ≡ f → TruthTaken (b ∷ c ∷ cs) (Some (cond f truth.SortsAfter truth.Follows))
    by true f = ap (λ (x : ℕ). x ∷ c ∷ []) e ∙ ap (λ (x : ℕ). 93 ∷ x ∷ []) (eqb-true c 93 f)
    by false f = ap (λ (x : ℕ). x ∷ []) e

truth_taken : (bs : List ℕ) → TruthTaken bs (truth_front bs)
truth_taken [] = tt
truth_taken (b ∷ bs) =
    let one : (k : ℕ) → b ≡ k → b ∷ [] ≡ k ∷ [] = λ k e. ap (λ (x : ℕ). x ∷ []) e in
    truth_if b 61 bs truth.Equal _ (one 61) (truth_if b 60 bs truth.Less _ (one 60) (truth_if b 62 bs truth.Greater _ (one 62) (truth_if b 91 bs truth.Contains _ (one 91) (
    truth_if b 93 bs _ _ (bracket_taken b bs) (truth_if b 38 bs truth.And _ (one 38) (truth_if b 33 bs truth.Or None (one 33) tt))))))

first_same : (x y : ℕ) (xs ys : List ℕ) → x ∷ xs ≡ y ∷ ys → x ≡ y
first_same x y xs ys e = cc

rest_same : (x y : ℕ) (xs ys : List ℕ) → x ∷ xs ≡ y ∷ ys → xs ≡ ys
rest_same x y xs ys e = cc

question : (b : ℕ) (bs : List ℕ) → b ≡ 39 → b ∷ take (apostrophe_sign bs).1 bs ≡ sign_bytes (apostrophe_sign bs).0
question b [] e = ap (λ (x : ℕ). x ∷ []) e
question b (c ∷ cs) e = by (c == 63) refl
  where
    by : (f : Bool) → (c == 63) ≡ f → let l : Sign × ℕ = cond f (NegatedQuestion, 1) (Apostrophe, 0) in b ∷ take l.1 (c ∷ cs) ≡ sign_bytes l.0
    by true f = ap (λ (x : ℕ). x ∷ c ∷ []) e ∙ ap (λ (x : ℕ). 39 ∷ x ∷ []) (eqb-true c 63 f)
    by false f = ap (λ (x : ℕ). x ∷ []) e

apostrophe : (b : ℕ) (bs : List ℕ) (q : Option TruthOp) → b ≡ 39 → TruthTaken bs q →
    let l : Sign × ℕ = elim q [ None ↦ apostrophe_sign bs | Some op ↦ (Negated op, length (truth_bytes op)) ] in b ∷ take l.1 bs ≡ sign_bytes l.0
apostrophe b bs None e h = question b bs e
apostrophe b bs (Some op) e h = ap (λ (x : ℕ). x ∷ take (length (truth_bytes op)) bs) e ∙ ap (λ (xs : List ℕ). 39 ∷ xs) h

sign_spelled : (s : Sign) (b : ℕ) (bs : List ℕ) → b ∷ [] ≡ sign_bytes s → b ∷ take (longest_sign s bs).1 bs ≡ sign_bytes (longest_sign s bs).0
sign_spelled CloseBracket b [] e = e
sign_spelled CloseBracket b (c ∷ cs) e = by (c == 93) refl
  where
    by : (f : Bool) → (c == 93) ≡ f → let l = bracket_sign (cond f truth.SortsAfter truth.Follows) in b ∷ take l.1 (c ∷ cs) ≡ sign_bytes l.0
    by true f = ap (λ (x : ℕ). x ∷ c ∷ []) (first_same b 93 [] [] e) ∙ ap (λ (x : ℕ). 93 ∷ x ∷ []) (eqb-true c 93 f)
    by false f = e
sign_spelled Apostrophe b bs e = apostrophe b bs (truth_front bs) (first_same b 39 [] [] e) (truth_taken bs)
sign_spelled s b bs e = e

blank_spelled : (b : ℕ) (p q : Bool) → (b == 32) ≡ p → (b == 9) ≡ q → (p || q) ≡ true → IsSpelledBy Blank (b ∷ [])
blank_spelled b true q e f h = inl (ap (λ (x : ℕ). x ∷ []) (eqb-true b 32 e))
blank_spelled b false true e f h = inr (ap (λ (x : ℕ). x ∷ []) (eqb-true b 9 f))
blank_spelled b false false e f h = absurd (let g : false ≡ true = h in cc)

take_whole : (bs : List ℕ) → take (length bs) bs ≡ bs
take_whole [] = refl
take_whole (b ∷ bs) = ap (λ (xs : List ℕ). b ∷ xs) (take_whole bs)

front_as : (b : ℕ) (bs : List ℕ) (c : Class) → class_of b ≡ c → Says b c → IsFront b bs (front_of c b bs)
front_as b bs AWord e h = record {
  spelled = (
    ap (λ (xs : List ℕ). b ∷ xs) (front_taken continues_word bs),
    (h, AllPass-from_list_all continues_word (take_while continues_word bs) (while_passes continues_word bs)),
  );
  fits = tt;
}
front_as b bs ADigit e h =
    let w = take_while is_digit bs in
    record {
      spelled = (
        ap (λ (xs : List ℕ). b ∷ xs) (front_taken is_digit bs),
        AllPass-from_list_all is_digit (b ∷ w) (and_from (is_digit b) (list_all is_digit w) h (while_passes is_digit bs)),
      );
      fits = tt;
    }
front_as b bs ABlank e h = record { spelled = blank_spelled b (b == 32) (b == 9) refl refl h; fits = tt }
front_as b bs AQuote e h = quote_front b bs (quotation bs) (quotation bs).closed h (quote_taken bs)
front_as b bs AComment e h = record { spelled = ap (λ (x : ℕ). x ∷ take (length bs) bs) h ∙ ap (λ (xs : List ℕ). 59 ∷ xs) (take_whole bs); fits = tt }
front_as b bs ADollar e h = dollar_is b bs h
front_as b bs (ASign s) e h = record { spelled = sign_spelled s b bs h; fits = tt }
front_as b bs Nothing e h = record { spelled = (refl, inl e); fits = tt }

-- ---- no token is longer

while_reach : (p : ℕ → Bool) (xs rest : List ℕ) → list_all p xs ≡ true → length xs ≤ length (take_while p (xs ++ rest))
while_reach p [] rest h = omega arith
while_reach p (x ∷ xs) rest h =
    let s = and_parts (p x) (list_all p xs) h in
    let i = while_reach p xs rest s.1 in
    let e : take_while p (x ∷ (xs ++ rest)) ≡ x ∷ take_while p (xs ++ rest) = take_while-cons p x (xs ++ rest) ∙ ap (λ (b : Bool). cond b (x ∷ take_while p (xs ++ rest)) []) s.0 in
    let n = ap (length {A = ℕ}) e in
    omega arith

pub cond_true : {A : Type 0} (p : Bool) (x y : A) → p ≡ true → cond p x y ≡ x
cond_true p x y e = ap (λ (b : Bool). cond b x y) e

pub cond_false : {A : Type 0} (p : Bool) (x y : A) → p ≡ false → cond p x y ≡ y
cond_false p x y e = ap (λ (b : Bool). cond b x y) e

pub digit_begins : (b : ℕ) → is_digit b ≡ true → begins_word b ≡ false
digit_begins b e = grind (arith, nat_tests)

-- how far the token at the front reaches
abbrev reach : List ℕ → ℕ
reach [] = 0
reach (b ∷ bs) = 1 + (front_of (class_of b) b bs).1

word_reach : (x : ℕ) (xs rest : List ℕ) → begins_word x ≡ true → list_all continues_word xs ≡ true → length (x ∷ xs) ≤ reach (x ∷ (xs ++ rest))
word_reach x xs rest e h =
    let P : Class → Type 0 = λ c. length (x ∷ xs) ≤ 1 + (front_of c x (xs ++ rest)).1 in
    let i = while_reach continues_word xs rest h in
    subst P (sym (cond_true (begins_word x) AWord _ e)) (omega arith)

digits_reach : (x : ℕ) (xs rest : List ℕ) → is_digit x ≡ true → list_all is_digit xs ≡ true → length (x ∷ xs) ≤ reach (x ∷ (xs ++ rest))
digits_reach x xs rest e h =
    let P : Class → Type 0 = λ c. length (x ∷ xs) ≤ 1 + (front_of c x (xs ++ rest)).1 in
    let i = while_reach is_digit xs rest h in
    subst P (sym (cond_false (begins_word x) AWord _ (digit_begins x e) ∙ cond_true (is_digit x) ADigit _ e)) (omega arith)

dollar_reach : (x : ℕ) (xs rest : List ℕ) → begins_word x ≡ true → list_all continues_word xs ≡ true → length (36 ∷ x ∷ xs) ≤ reach (36 ∷ x ∷ (xs ++ rest))
dollar_reach x xs rest e h =
    let w = take_while continues_word (xs ++ rest) in
    let P : Token × ℕ → Type 0 = λ f. length (36 ∷ x ∷ xs) ≤ 1 + f.1 in
    let i = while_reach continues_word xs rest h in
    let other : Token × ℕ = cond (x == 36) ((dollars_front (xs ++ rest)).0, 1 + (dollars_front (xs ++ rest)).1) (Stray 36, 0) in
    subst P (sym (cond_true (begins_word x) (dollar_word (x ∷ w) (drop (length w) (xs ++ rest)), 1 + length w) other e)) (omega arith)

invoked_reach : (x : ℕ) (xs rest : List ℕ) → begins_word x ≡ true → list_all continues_word xs ≡ true → length (36 ∷ 36 ∷ x ∷ xs) ≤ reach (36 ∷ 36 ∷ x ∷ (xs ++ rest))
invoked_reach x xs rest e h =
    let ys : List ℕ = xs ++ rest in
    let w = take_while continues_word ys in
    let P : Token × ℕ → Type 0 = λ f. length (36 ∷ 36 ∷ x ∷ xs) ≤ 1 + (1 + f.1) in
    let i = while_reach continues_word xs rest h in
    let other : Token × ℕ = cond (is_digit x) (Numbered (x ∷ take_while is_digit ys), 1 + length (take_while is_digit ys)) (Dollars, 0) in
    subst P (sym (cond_true (begins_word x) (Invoked (x ∷ w), 1 + length w) other e)) (omega arith)

numbered_reach : (x : ℕ) (xs rest : List ℕ) → is_digit x ≡ true → list_all is_digit xs ≡ true → length (36 ∷ 36 ∷ x ∷ xs) ≤ reach (36 ∷ 36 ∷ x ∷ (xs ++ rest))
numbered_reach x xs rest e h =
    let ys : List ℕ = xs ++ rest in
    let w = take_while is_digit ys in
    let P : Token × ℕ → Type 0 = λ f. length (36 ∷ 36 ∷ x ∷ xs) ≤ 1 + (1 + f.1) in
    let i = while_reach is_digit xs rest h in
    let word : Token × ℕ = (Invoked (x ∷ take_while continues_word ys), 1 + length (take_while continues_word ys)) in
    let other : Token × ℕ = cond (is_digit x) (Numbered (x ∷ w), 1 + length w) (Dollars, 0) in
    subst P (sym (cond_false (begins_word x) word other (digit_begins x e) ∙ cond_true (is_digit x) (Numbered (x ∷ w), 1 + length w) (Dollars, 0) e)) (omega arith)

behind_one : (rest : List ℕ) → 1 ≤ (behind_quote rest).width
behind_one [] = omega arith
behind_one (c ∷ cs) = by (c == 34)
  where
    by : (e : Bool) → let q : Quotation = elim e [ true ↦ with_byte 34 2 (quotation cs) | false ↦ record { closed = true; content = []; width = 1 } ] in 1 ≤ q.width
    by true = omega arith
    by false = omega arith

doubled_reach : (content zs : List ℕ) (k : ℕ) → k ≤ (quotation zs).width → length (doubled content) + k ≤ (quotation (doubled content ++ zs)).width
doubled_reach [] zs k h = omega arith
doubled_reach (x ∷ xs) zs k h = by (x == 34) refl (doubled_reach xs zs k h)
  where
    by : (e : Bool) → (x == 34) ≡ e → length (doubled xs) + k ≤ (quotation (doubled xs ++ zs)).width →
        length (cond e (34 ∷ 34 ∷ doubled xs) (x ∷ doubled xs)) + k ≤ (quotation (cond e (34 ∷ 34 ∷ doubled xs) (x ∷ doubled xs) ++ zs)).width
    by true f i = omega arith
    by false f i =
        let P : Bool → Type 0 = λ b. let q : Quotation = elim b [
          | true ↦ behind_quote (doubled xs ++ zs)
          | false ↦ with_byte x 1 (quotation (doubled xs ++ zs))
        ] in length (x ∷ doubled xs) + k ≤ q.width in
        subst P (sym f) (omega arith)

negated_reach : (op : TruthOp) (rest : List ℕ) → length (39 ∷ truth_bytes op) ≤ reach (39 ∷ (truth_bytes op ++ rest))
negated_reach truth.Equal rest = omega arith
negated_reach truth.Less rest = omega arith
negated_reach truth.Greater rest = omega arith
negated_reach truth.Contains rest = omega arith
negated_reach truth.Follows [] = omega arith
negated_reach truth.Follows (c ∷ cs) = by (c == 93)
  where
    by : (e : Bool) → 2 ≤ 1 + length (truth_bytes (cond e truth.SortsAfter truth.Follows))
    by true = omega arith
    by false = omega arith
negated_reach truth.SortsAfter rest = omega arith
negated_reach truth.And rest = omega arith
negated_reach truth.Or rest = omega arith

sign_reach : (s : Sign) (rest : List ℕ) → length (sign_bytes s) ≤ reach (sign_bytes s ++ rest)
sign_reach CloseBrackets rest = omega arith
sign_reach (Negated op) rest = negated_reach op rest
sign_reach Question rest = omega arith
sign_reach NegatedQuestion rest = omega arith
sign_reach Plus rest = omega arith
sign_reach Minus rest = omega arith
sign_reach Star rest = omega arith
sign_reach Backslash rest = omega arith
sign_reach Hash rest = omega arith
sign_reach Slash rest = omega arith
sign_reach Underscore rest = omega arith
sign_reach Equals rest = omega arith
sign_reach Less rest = omega arith
sign_reach Greater rest = omega arith
sign_reach OpenBracket rest = omega arith
sign_reach CloseBracket rest = omega arith
sign_reach Ampersand rest = omega arith
sign_reach Exclamation rest = omega arith
sign_reach Apostrophe rest = omega arith
sign_reach Caret rest = omega arith
sign_reach Open rest = omega arith
sign_reach Close rest = omega arith
sign_reach Comma rest = omega arith
sign_reach Colon rest = omega arith
sign_reach Dot rest = omega arith

-- the first of these bytes spell the token
abbrev Reaches : List ℕ → List ℕ → Type 0
Reaches front rest = length front ≤ reach (front ++ rest)

as_spelled : (front other rest : List ℕ) → front ≡ other → Reaches other rest → Reaches front rest
as_spelled front other rest e h = let P : List ℕ → Type 0 = λ xs. Reaches xs rest in subst P (sym e) h

token_reach : (t : Token) (front rest : List ℕ) → IsSpelledBy t front → Reaches front rest
token_reach (Word []) front rest h = absurd h.1
token_reach (Word (x ∷ xs)) front rest h = as_spelled front (x ∷ xs) rest h.0 (word_reach x xs rest h.1.0 (list_all-from_AllPass continues_word xs h.1.1))
token_reach (Called []) front rest h = absurd h.1
token_reach (Called (x ∷ xs)) front rest h = as_spelled front (36 ∷ x ∷ xs) rest h.0 (dollar_reach x xs rest h.1.0 (list_all-from_AllPass continues_word xs h.1.1))
token_reach (Special []) front rest h = absurd h.1
token_reach (Special (x ∷ xs)) front rest h = as_spelled front (36 ∷ x ∷ xs) rest h.0 (dollar_reach x xs rest h.1.0 (list_all-from_AllPass continues_word xs h.1.1))
token_reach (Invoked []) front rest h = absurd h.1
token_reach (Invoked (x ∷ xs)) front rest h = as_spelled front (36 ∷ 36 ∷ x ∷ xs) rest h.0 (invoked_reach x xs rest h.1.0 (list_all-from_AllPass continues_word xs h.1.1))
token_reach (Numbered []) front rest h = absurd h.1
token_reach (Numbered (x ∷ xs)) front rest h =
    let p = and_parts (is_digit x) (list_all is_digit xs) (list_all-from_AllPass is_digit (x ∷ xs) h.1) in
    as_spelled front (36 ∷ 36 ∷ x ∷ xs) rest h.0 (numbered_reach x xs rest p.0 p.1)
token_reach Dollars front rest h = as_spelled front (36 ∷ 36 ∷ []) rest h (omega arith)
token_reach (Digits []) front rest h = absurd h.1
token_reach (Digits (x ∷ xs)) front rest h =
    let p = and_parts (is_digit x) (list_all is_digit xs) (list_all-from_AllPass is_digit (x ∷ xs) h.1) in
    as_spelled front (x ∷ xs) rest h.0 (digits_reach x xs rest p.0 p.1)
token_reach (Quoted content) front rest h =
    let r = doubled_reach content (34 ∷ rest) 1 (behind_one rest) in
    let P : List ℕ → Type 0 = λ zs. length (34 ∷ (doubled content ++ 34 ∷ [])) ≤ 1 + (quotation zs).width in
    let n = length-append (doubled content) (34 ∷ []) in
    as_spelled front (34 ∷ (doubled content ++ 34 ∷ [])) rest h (subst P (sym (append_assoc (doubled content) (34 ∷ []) rest)) (omega arith))
token_reach (Unclosed text) front rest h =
    let r = doubled_reach text rest 0 (omega arith) in
    as_spelled front (34 ∷ doubled text) rest h (omega arith)
token_reach (Signed s) front rest h = as_spelled front (sign_bytes s) rest h (sign_reach s rest)
token_reach Blank front rest (inl h) = as_spelled front (32 ∷ []) rest h (omega arith)
token_reach Blank front rest (inr h) = as_spelled front (9 ∷ []) rest h (omega arith)
token_reach (Comment text) front rest h = let n = length-append text rest in as_spelled front (59 ∷ text) rest h (omega arith)
token_reach (Stray b) front rest h = as_spelled front (b ∷ []) rest h.0 (omega arith)

longest : (b : ℕ) (bs : List ℕ) → IsLongest (b ∷ bs) (length (b ∷ take (front_of (class_of b) b bs).1 bs))
longest b bs = record {
  longest = λ t front rest e h.
      let P : List ℕ → Type 0 = λ xs. length front ≤ reach xs in
      let r = subst P (sym e) (token_reach t front rest h) in
      let n = ap (length {A = ℕ}) e in
      let m = length-append front rest in
      omega (arith, r, n, m, length-take (front_of (class_of b) b bs).1 bs);
}

-- ---- all of them

first_tokenised : (n : ℕ) (bytes : List ℕ) → length bytes ≤ n → IsTokenisation bytes (first_lexemes n bytes)
first_tokenised zero [] h = refl
first_tokenised zero (b ∷ bs) h = absurd (omega arith)
first_tokenised (suc n) [] h = refl
first_tokenised (suc n) (b ∷ bs) h =
    let f : Token × ℕ = front_of (class_of b) b bs in
    let s = front_as b bs (class_of b) refl (says b) in (
      drop f.1 bs,
      ap (λ (xs : List ℕ). b ∷ xs) (sym (take-append-drop f.1 bs)),
      s.spelled,
      s.fits,
      longest b bs,
      first_tokenised n (drop f.1 bs) (omega (arith, length-drop f.1 bs)),
    )

pub tokenised : (line : List ℕ) → IsTokenisation line (lexemes line)
unfolding lexemes
tokenised line = first_tokenised (length line) line (omega arith)
