-- A line has one tokenisation.
use Rattle.std.proofs.Common.{◌≡◌, ℕ, ◌+◌, Bool, true, false, List, [], ◌∷◌, ◌++◌, length, take, drop, take_while, refl, ap, sym, ◌∙◌, subst, arith, append-nil, ◌⊎◌, inl, inr}
use Rattle.std.specs.Prelude.{◌==◌, cond}
use Rattle.std.specs.List.{list_all}
use Rattle.std.proofs.Math.Seq.{take-append_seam, drop-append_seam, drop-length}
use Rattle.std.proofs.lemmas.Bool.{eqb-true, and_parts}
use Rattle.std.proofs.lemmas.List.Sums.{take_while-cons, list_all-from_AllPass}
use Rattle.mj_oper.specs.declared.op.TruthOp.{TruthOp}
use Rattle.mj_oper.specs.declared.op.TruthOp.TheVariants as truth
use Rattle.mj_ast.specs.declared.sign.Sign.{Sign}
use Rattle.mj_ast.specs.declared.sign.Sign.TheVariants.{Plus, Minus, Star, Backslash, Hash, Slash, Underscore, Equals, Less, Greater, OpenBracket, CloseBracket, CloseBrackets, Ampersand, Exclamation, Apostrophe, Negated, Question, NegatedQuestion, Caret, Open, Close, Comma, Colon, Dot}
use Rattle.mj_ast.specs.Tokens.{Token, Word, Called, Special, Invoked, Numbered, Dollars, Digits, Quoted, Signed, Blank, Comment, Unclosed, Stray, Class, AWord, ADigit, Nothing, begins_word, continues_word, is_digit, truth_bytes, sign_bytes, doubled, class_of, IsSpelledBy, opens, IsBefore, Lexeme, IsTokenisation, Quotation, quotation, behind_quote, with_byte, quoted_token, dollar_word, dollars_front, front_of}
use Rattle.mj_lex.proofs.Longest.{cond_true, cond_false, digit_begins}

-- ---- a token is told by its slice and by what stands behind it

-- a `$` word by what stands behind it
abbrev fitted : Token → List ℕ → Token
fitted (Special w) rest = dollar_word w rest
fitted t rest = t

-- the token of a slice
abbrev told : List ℕ → List ℕ → Token
told [] rest = Blank
told (b ∷ bs) rest = fitted (front_of (class_of b) b bs).0 rest

while_all : (p : ℕ → Bool) (xs : List ℕ) → list_all p xs ≡ true → take_while p xs ≡ xs
while_all p [] h = refl
while_all p (x ∷ xs) h =
    let s = and_parts (p x) (list_all p xs) h in
    take_while-cons p x xs ∙ cond_true (p x) (x ∷ take_while p xs) [] s.0 ∙ ap (λ (ys : List ℕ). x ∷ ys) (while_all p xs s.1)

word_told : (x : ℕ) (xs rest : List ℕ) → begins_word x ≡ true → list_all continues_word xs ≡ true → told (x ∷ xs) rest ≡ Word (x ∷ xs)
word_told x xs rest e h =
    let P : Class → Type 0 = λ c. fitted (front_of c x xs).0 rest ≡ Word (x ∷ xs) in
    subst P (sym (cond_true (begins_word x) AWord _ e)) (ap (λ (w : List ℕ). Word (x ∷ w)) (while_all continues_word xs h))

digits_told : (x : ℕ) (xs rest : List ℕ) → is_digit x ≡ true → list_all is_digit xs ≡ true → told (x ∷ xs) rest ≡ Digits (x ∷ xs)
digits_told x xs rest e h =
    let P : Class → Type 0 = λ c. fitted (front_of c x xs).0 rest ≡ Digits (x ∷ xs) in
    subst P (sym (cond_false (begins_word x) AWord _ (digit_begins x e) ∙ cond_true (is_digit x) ADigit _ e)) (ap (λ (w : List ℕ). Digits (x ∷ w)) (while_all is_digit xs h))

dollar_told : (x : ℕ) (xs rest : List ℕ) → begins_word x ≡ true → list_all continues_word xs ≡ true → told (36 ∷ x ∷ xs) rest ≡ dollar_word (x ∷ xs) rest
dollar_told x xs rest e h =
    let w = take_while continues_word xs in
    let f : Token × ℕ → Token = λ q. fitted q.0 rest in
    let other : Token × ℕ = cond (x == 36) ((dollars_front xs).0, 1 + (dollars_front xs).1) (Stray 36, 0) in
    ap f (cond_true (begins_word x) (dollar_word (x ∷ w) (drop (length w) xs), 1 + length w) other e)
    ∙ ap (λ (ys : List ℕ). fitted (dollar_word (x ∷ ys) (drop (length ys) xs)) rest) (while_all continues_word xs h)
    ∙ ap (λ (ys : List ℕ). fitted (dollar_word (x ∷ xs) ys) rest) (drop-length xs)

invoked_told : (x : ℕ) (xs rest : List ℕ) → begins_word x ≡ true → list_all continues_word xs ≡ true → told (36 ∷ 36 ∷ x ∷ xs) rest ≡ Invoked (x ∷ xs)
invoked_told x xs rest e h =
    let w = take_while continues_word xs in
    let f : Token × ℕ → Token = λ q. fitted q.0 rest in
    let other : Token × ℕ = cond (is_digit x) (Numbered (x ∷ take_while is_digit xs), 1 + length (take_while is_digit xs)) (Dollars, 0) in
    ap f (cond_true (begins_word x) (Invoked (x ∷ w), 1 + length w) other e) ∙ ap (λ (ys : List ℕ). Invoked (x ∷ ys)) (while_all continues_word xs h)

numbered_told : (x : ℕ) (xs rest : List ℕ) → is_digit x ≡ true → list_all is_digit xs ≡ true → told (36 ∷ 36 ∷ x ∷ xs) rest ≡ Numbered (x ∷ xs)
numbered_told x xs rest e h =
    let w = take_while is_digit xs in
    let f : Token × ℕ → Token = λ q. fitted q.0 rest in
    let word : Token × ℕ = (Invoked (x ∷ take_while continues_word xs), 1 + length (take_while continues_word xs)) in
    let other : Token × ℕ = cond (is_digit x) (Numbered (x ∷ w), 1 + length w) (Dollars, 0) in
    ap f (cond_false (begins_word x) word other (digit_begins x e) ∙ cond_true (is_digit x) (Numbered (x ∷ w), 1 + length w) (Dollars, 0) e)
    ∙ ap (λ (ys : List ℕ). Numbered (x ∷ ys)) (while_all is_digit xs h)

-- behind doubled bytes a quotation goes on as it does without them
quoted_through : (content zs : List ℕ) → let q : Quotation = quotation (doubled content ++ zs) in let r : Quotation = quotation zs in (q.closed ≡ r.closed) × (q.content ≡ content ++ r.content)
quoted_through [] zs = (refl, refl)
quoted_through (x ∷ xs) zs = by (x == 34) refl (quoted_through xs zs)
  where
    by : (e : Bool) → (x == 34) ≡ e → (let q : Quotation = quotation (doubled xs ++ zs) in let r : Quotation = quotation zs in (q.closed ≡ r.closed) × (q.content ≡ xs ++ r.content))
        → let q : Quotation = quotation (cond e (34 ∷ 34 ∷ doubled xs) (x ∷ doubled xs) ++ zs) in let r : Quotation = quotation zs in (q.closed ≡ r.closed) × (q.content ≡ x ∷ (xs ++ r.content))
    by true f i = (i.0, ap (λ (b : ℕ). b ∷ (quotation (doubled xs ++ zs)).content) (sym (eqb-true x 34 f)) ∙ ap (λ (ys : List ℕ). x ∷ ys) i.1)
    by false f i =
        let P : Bool → Type 0 = λ b. let q : Quotation = elim b [
          | true ↦ behind_quote (doubled xs ++ zs)
          | false ↦ with_byte x 1 (quotation (doubled xs ++ zs))
        ] in let r : Quotation = quotation zs in (q.closed ≡ r.closed) ×
        (q.content ≡ x ∷ (xs ++ r.content)) in
        subst P (sym f) (i.0, ap (λ (ys : List ℕ). x ∷ ys) i.1)

quotation_told : (q : Quotation) (content rest : List ℕ) → q.content ≡ content → (b : Bool) → q.closed ≡ b → fitted (quoted_token q) rest ≡ cond b (Quoted content) (Unclosed content)
quotation_told q content rest e true f = ap (λ (b : Bool). fitted (cond b (Quoted q.content) (Unclosed q.content)) rest) f ∙ ap Quoted e
quotation_told q content rest e false f = ap (λ (b : Bool). fitted (cond b (Quoted q.content) (Unclosed q.content)) rest) f ∙ ap Unclosed e

quoted_told : (content rest : List ℕ) → told (34 ∷ (doubled content ++ 34 ∷ [])) rest ≡ Quoted content
quoted_told content rest =
    let s = quoted_through content (34 ∷ []) in
    quotation_told (quotation (doubled content ++ 34 ∷ [])) content rest (s.1 ∙ append-nil content) true s.0

unclosed_told : (text rest : List ℕ) → told (34 ∷ doubled text) rest ≡ Unclosed text
unclosed_told text rest =
    let s = quoted_through text [] in
    ap (λ (xs : List ℕ). told (34 ∷ xs) rest) (sym (append-nil (doubled text)))
    ∙ quotation_told (quotation (doubled text ++ [])) text rest (s.1 ∙ append-nil text) false s.0

negated_told : (op : TruthOp) (rest : List ℕ) → told (39 ∷ truth_bytes op) rest ≡ Signed (Negated op)
negated_told truth.Equal rest = refl
negated_told truth.Less rest = refl
negated_told truth.Greater rest = refl
negated_told truth.Contains rest = refl
negated_told truth.Follows rest = refl
negated_told truth.SortsAfter rest = refl
negated_told truth.And rest = refl
negated_told truth.Or rest = refl

sign_told : (s : Sign) (rest : List ℕ) → told (sign_bytes s) rest ≡ Signed s
sign_told Plus rest = refl
sign_told Minus rest = refl
sign_told Star rest = refl
sign_told Backslash rest = refl
sign_told Hash rest = refl
sign_told Slash rest = refl
sign_told Underscore rest = refl
sign_told Equals rest = refl
sign_told Less rest = refl
sign_told Greater rest = refl
sign_told OpenBracket rest = refl
sign_told CloseBracket rest = refl
sign_told CloseBrackets rest = refl
sign_told Ampersand rest = refl
sign_told Exclamation rest = refl
sign_told Apostrophe rest = refl
sign_told (Negated op) rest = negated_told op rest
sign_told Question rest = refl
sign_told NegatedQuestion rest = refl
sign_told Caret rest = refl
sign_told Open rest = refl
sign_told Close rest = refl
sign_told Comma rest = refl
sign_told Colon rest = refl
sign_told Dot rest = refl

slice_as : (slice other rest : List ℕ) (t : Token) → slice ≡ other → told other rest ≡ t → told slice rest ≡ t
slice_as slice other rest t e h = ap (λ (xs : List ℕ). told xs rest) e ∙ h

token_told : (t : Token) (slice rest : List ℕ) → IsSpelledBy t slice → IsBefore t rest → told slice rest ≡ t
token_told (Word []) slice rest h b = absurd h.1
token_told (Word (x ∷ xs)) slice rest h b = slice_as slice (x ∷ xs) rest _ h.0 (word_told x xs rest h.1.0 (list_all-from_AllPass continues_word xs h.1.1))
token_told (Called []) slice rest h b = absurd h.1
token_told (Called (x ∷ xs)) slice rest h b =
    slice_as slice (36 ∷ x ∷ xs) rest _ h.0 (dollar_told x xs rest h.1.0 (list_all-from_AllPass continues_word xs h.1.1) ∙ cond_true (opens rest) (Called (x ∷ xs)) (Special (x ∷ xs)) b)
token_told (Special []) slice rest h b = absurd h.1
token_told (Special (x ∷ xs)) slice rest h b =
    slice_as slice (36 ∷ x ∷ xs) rest _ h.0 (dollar_told x xs rest h.1.0 (list_all-from_AllPass continues_word xs h.1.1) ∙ cond_false (opens rest) (Called (x ∷ xs)) (Special (x ∷ xs)) b)
token_told (Invoked []) slice rest h b = absurd h.1
token_told (Invoked (x ∷ xs)) slice rest h b =
    slice_as slice (36 ∷ 36 ∷ x ∷ xs) rest _ h.0 (invoked_told x xs rest h.1.0 (list_all-from_AllPass continues_word xs h.1.1))
token_told (Numbered []) slice rest h b = absurd h.1
token_told (Numbered (x ∷ xs)) slice rest h b =
    let p = and_parts (is_digit x) (list_all is_digit xs) (list_all-from_AllPass is_digit (x ∷ xs) h.1) in
    slice_as slice (36 ∷ 36 ∷ x ∷ xs) rest _ h.0 (numbered_told x xs rest p.0 p.1)
token_told Dollars slice rest h b = slice_as slice (36 ∷ 36 ∷ []) rest _ h refl
token_told (Digits []) slice rest h b = absurd h.1
token_told (Digits (x ∷ xs)) slice rest h b =
    let p = and_parts (is_digit x) (list_all is_digit xs) (list_all-from_AllPass is_digit (x ∷ xs) h.1) in
    slice_as slice (x ∷ xs) rest _ h.0 (digits_told x xs rest p.0 p.1)
token_told (Quoted content) slice rest h b = slice_as slice (34 ∷ (doubled content ++ 34 ∷ [])) rest _ h (quoted_told content rest)
token_told (Unclosed text) slice rest h b = slice_as slice (34 ∷ doubled text) rest _ h (unclosed_told text rest)
token_told (Signed s) slice rest h b = slice_as slice (sign_bytes s) rest _ h (sign_told s rest)
token_told Blank slice rest (inl h) b = slice_as slice (32 ∷ []) rest _ h refl
token_told Blank slice rest (inr h) b = slice_as slice (9 ∷ []) rest _ h refl
token_told (Comment text) slice rest h b = slice_as slice (59 ∷ text) rest _ h refl
token_told (Stray c) slice rest h b = slice_as slice (c ∷ []) rest _ h.0 (by h.1)
  where
    by : (class_of c ≡ Nothing) ⊎ (c ≡ 36) → told (c ∷ []) rest ≡ Stray c
    by (inl e) = ap (λ (k : Class). fitted (front_of k c []).0 rest) e
    by (inr e) = let P : ℕ → Type 0 = λ n. told (n ∷ []) rest ≡ Stray n in subst P (sym e) refl

-- ---- the slices

no_blank : IsSpelledBy Blank [] → ⊥
no_blank (inl e) = cc
no_blank (inr e) = cc

-- a token has a byte
some_byte : (t : Token) (rest : List ℕ) → IsSpelledBy t [] → IsBefore t rest → ⊥
some_byte t rest h b = let P : Token → Type 0 = λ k. IsSpelledBy k [] in no_blank (subst P (sym (token_told t [] rest h b)) h)

front_none : (xs ys : List ℕ) → [] ≡ xs ++ ys → xs ≡ []
front_none [] ys e = refl
front_none (x ∷ xs) ys e = cc

none_left : (l : Lexeme) (rest : List ℕ) → [] ≡ l.slice ++ rest → IsSpelledBy l.token l.slice → IsBefore l.token rest → ⊥
none_left l rest e h b = let P : List ℕ → Type 0 = λ xs. IsSpelledBy l.token xs in some_byte l.token rest (subst P (front_none l.slice rest e) h) b

same_front : (xs ys rest others : List ℕ) → xs ++ rest ≡ ys ++ others → length xs ≡ length ys → (xs ≡ ys) × (rest ≡ others)
same_front xs ys rest others e n = (
  sym (take-append_seam xs rest) ∙ ap (take (length xs)) e ∙ ap (λ (k : ℕ). take k (ys ++ others)) n ∙ take-append_seam ys others,
  sym (drop-append_seam xs rest) ∙ ap (drop (length xs)) e ∙ ap (λ (k : ℕ). drop k (ys ++ others)) n ∙ drop-append_seam ys others,
)

same_lexeme : (l m : Lexeme) → l.token ≡ m.token → l.slice ≡ m.slice → l ≡ m
same_lexeme l m e f =
    ap (λ (t : Token). let x : Lexeme = record { token = t; slice = l.slice } in x) e
    ∙ ap (λ (s : List ℕ). let x : Lexeme = record { token = m.token; slice = s } in x) f

pub once : (line : List ℕ) (ls ms : List Lexeme) → IsTokenisation line ls → IsTokenisation line ms → ls ≡ ms
once line [] [] h i = refl
once line [] (m ∷ ms) h i = absurd (none_left m i.0 (sym h ∙ i.1) i.2 i.3)
once line (l ∷ ls) [] h i = absurd (none_left l h.0 (sym i ∙ h.1) h.2 h.3)
once line (l ∷ ls) (m ∷ ms) h i =
    let p = h.4.longest m.token m.slice i.0 i.1 i.2 in
    let q = i.4.longest l.token l.slice h.0 h.1 h.2 in
    let s = same_front l.slice m.slice h.0 i.0 (sym h.1 ∙ i.1) (omega arith) in
    let token : l.token ≡ m.token =
    sym (token_told l.token l.slice h.0 h.2 h.3) ∙ ap (λ (xs : List ℕ). told xs h.0) s.0 ∙ ap (λ (xs : List ℕ). told m.slice xs) s.1
    ∙ token_told m.token m.slice i.0 i.2 i.3 in
    let P : List ℕ → Type 0 = λ xs. IsTokenisation xs ls in
    ap (λ (x : Lexeme). x ∷ ls) (same_lexeme l m token s.0) ∙ ap (λ (xs : List Lexeme). m ∷ xs) (once i.0 ls ms (subst P s.1 h.5) i.5)
