-- Where the tokens of a line stand.
use Rattle.std.proofs.Common.{◌≡◌, ℕ, zero, suc, ◌+◌, ◌≤◌, ◌<◌, List, [], ◌∷◌, length, take, drop, get_or, map, refl, ap, sym, ◌∙◌, Bool, true, false, arith, inl, inr, ◌⊎◌}
use Rattle.std.specs.Prelude.{cond, take_while, ◌==◌}
use Rattle.std.specs.List.{prefix_len}
use Rattle.std.proofs.lemmas.List.{length-drop, length-take}
use Rattle.mj_ast.specs.Tokens.{Token, Quoted, Unclosed, Lexeme, Class, AWord, ADigit, AQuote, ABlank, AComment, ASign, Nothing, class_of, front_of, quotation, is_digit, first_lexemes, lexemes, tokens, bytes_of, column, Called, Special, Invoked, Numbered, Dollars, Stray, ADollar, begins_word, continues_word, opens, dollars_front, dollar_front}
use Rattle.mj_lex.specs.Seen.{tokens_seen, token_seen, placed, places_seen}
use Rattle.mj_lex.specs.declared.token.Lexeme as kept
use Rattle.mj_lex.specs.declared.token.Token.TheVariants as kept_token
use Rattle.mj_cmd.specs.Heads.{IsLabelShort}

-- what stands for a token that isn't there
abbrev pub no_lexeme : kept.Lexeme
no_lexeme = record { token = kept_token.Word (record { ref_ptr = (0, 0); now = [] }); at = 0 }

abbrev Placed : Type 0
Placed = Token × ℕ

abbrev first_of : Placed → Token
first_of p = p.0

seen_first : (v : List kept.Lexeme) → map first_of (places_seen v) ≡ tokens_seen v
seen_first [] = refl
seen_first (x ∷ v) = ap (λ (ks : List Token). token_seen x.token ∷ ks) (seen_first v)

placed_first : (n : ℕ) (ls : List Lexeme) → map first_of (placed n ls) ≡ map (λ l. l.token) ls
placed_first n [] = refl
placed_first n (l ∷ ls) = ap (λ (ks : List Token). l.token ∷ ks) (placed_first (n + length l.slice) ls)

-- the tokens that are kept are those of the line
pub seen_tokens : (v : List kept.Lexeme) (line : List ℕ) → places_seen v ≡ placed 0 (lexemes line) → tokens_seen v ≡ tokens line
seen_tokens v line e = sym (seen_first v) ∙ ap (map first_of) e ∙ placed_first 0 (lexemes line)

-- ---- a label is no longer than its line

while_short : (p : ℕ → Bool) (xs : List ℕ) → length (take_while p xs) ≤ length xs
while_short p xs = let t = length-take (prefix_len p xs) xs in omega arith

quote_short : (b : Bool) (q : List ℕ) (ks : List Token) → IsLabelShort (cond b (Quoted q) (Unclosed q) ∷ ks)
quote_short true q ks = tt
quote_short false q ks = tt

dollars_as : (p q : Bool) (w d : List ℕ) (n m : ℕ) (ks : List Token) → let front : Token × ℕ = cond p (Invoked w, n) (cond q (Numbered d, m) (Dollars, 0)) in IsLabelShort (front.0 ∷ ks)
dollars_as true q w d n m ks = tt
dollars_as false true w d n m ks = tt
dollars_as false false w d n m ks = tt

dollars_short : (bs : List ℕ) (ks : List Token) → IsLabelShort ((dollars_front bs).0 ∷ ks)
dollars_short [] ks = tt
dollars_short (b ∷ bs) ks =
    let w = take_while continues_word bs in
    let d = take_while is_digit bs in
    dollars_as (begins_word b) (is_digit b) (b ∷ w) (b ∷ d) (1 + length w) (1 + length d) ks

dollar_as : (b d r : Bool) (w : List ℕ) (n : ℕ) (f : Token × ℕ) (ks : List Token) → IsLabelShort (f.0 ∷ ks)
    → let front : Token × ℕ = cond b (cond d (Called w) (Special w), n) (cond r (f.0, 1 + f.1) (Stray 36, 0)) in IsLabelShort (front.0 ∷ ks)
dollar_as true true r w n f ks h = tt
dollar_as true false r w n f ks h = tt
dollar_as false d true w n f ks h = h
dollar_as false d false w n f ks h = tt

dollar_short : (bs : List ℕ) (ks : List Token) → IsLabelShort ((dollar_front bs).0 ∷ ks)
dollar_short [] ks = tt
dollar_short (b ∷ bs) ks =
    let w = take_while continues_word bs in
    dollar_as (begins_word b) (opens (drop (length w) bs)) (b == 36) (b ∷ w) (1 + length w) (dollars_front bs) ks (dollars_short bs ks)

front_short : (c : Class) (b : ℕ) (bs : List ℕ) (ks : List Token) → length (b ∷ bs) ≤ 8192 → IsLabelShort ((front_of c b bs).0 ∷ ks)
front_short AWord b bs ks h = tt
front_short ADollar b bs ks h = dollar_short bs ks
front_short ADigit b bs ks h = let n = while_short is_digit bs in omega arith
front_short AQuote b bs ks h = quote_short (quotation bs).closed (quotation bs).content ks
front_short ABlank b bs ks h = tt
front_short AComment b bs ks h = tt
front_short (ASign s) b bs ks h = tt
front_short Nothing b bs ks h = tt

pub label_short : (line : List ℕ) → length line ≤ 8192 → IsLabelShort (tokens line)
unfolding lexemes
label_short [] h = tt
label_short (b ∷ bs) h = front_short (class_of b) b bs _ h

-- ---- columns

bytes_first : (n : ℕ) (bytes : List ℕ) → length bytes ≤ n → bytes_of (first_lexemes n bytes) ≡ length bytes
bytes_first zero [] h = refl
bytes_first zero (b ∷ bs) h = absurd (omega arith)
bytes_first (suc n) [] h = refl
bytes_first (suc n) (b ∷ bs) h =
    let w = (front_of (class_of b) b bs).1 in
    let i = bytes_first n (drop w bs) (let d = length-drop w bs in omega arith) in
    let d = length-drop w bs in
    let t = length-take w bs in
    omega arith

-- all tokens have all bytes
pub bytes_all : (line : List ℕ) → bytes_of (lexemes line) ≡ length line
unfolding lexemes
bytes_all line = bytes_first (length line) line (omega arith)

same_place : (p q : Placed) (ps qs : List Placed) → p ∷ ps ≡ q ∷ qs → p.1 ≡ q.1
same_place p q ps qs e = ap (λ (x : Placed). x.1) (let h : p ≡ q = cc in h)

same_rest : (p q : Placed) (ps qs : List Placed) → p ∷ ps ≡ q ∷ qs → ps ≡ qs
same_rest p q ps qs e = cc

-- where a token stands
at_placed : (k n : ℕ) (v : List kept.Lexeme) (ls : List Lexeme) (d : kept.Lexeme) → places_seen v ≡ placed n ls → k < length v → (get_or v k d).at ≡ n + bytes_of (take k ls)
at_placed k n [] ls d e h = absurd (omega arith)
at_placed k n (y ∷ v) [] d e h = absurd (let f : (token_seen y.token, y.at) ∷ places_seen v ≡ [] = e in cc)
at_placed zero n (y ∷ v) (l ∷ ls) d e h = same_place _ _ _ _ e ∙ (let z : n ≡ n + 0 = omega arith in z)
at_placed (suc k) n (y ∷ v) (l ∷ ls) d e h =
    let r = at_placed k (n + length l.slice) v ls d (same_rest _ _ _ _ e) (omega arith) in
    omega arith

bytes_take : (k : ℕ) (ls : List Lexeme) → bytes_of (take k ls) ≤ bytes_of ls
bytes_take zero ls = omega arith
bytes_take (suc k) [] = omega arith
bytes_take (suc k) (l ∷ ls) = let h = bytes_take k ls in omega arith

take_all : (ls : List Lexeme) → take (length ls) ls ≡ ls
take_all [] = refl
take_all (l ∷ ls) = ap (λ (xs : List Lexeme). l ∷ xs) (take_all ls)

lexemes_many : (v : List kept.Lexeme) (n : ℕ) (ls : List Lexeme) → places_seen v ≡ placed n ls → length v ≡ length ls
lexemes_many [] n [] e = refl
lexemes_many [] n (l ∷ ls) e = absurd (let f : [] ≡ (l.token, n) ∷ placed (n + length l.slice) ls = e in cc)
lexemes_many (x ∷ v) n [] e = absurd (let f : (token_seen x.token, x.at) ∷ places_seen v ≡ [] = e in cc)
lexemes_many (x ∷ v) n (l ∷ ls) e = ap suc (lexemes_many v (n + length l.slice) ls (same_rest _ _ _ _ e))

-- the column of the line's end
pub column_end : (v : List kept.Lexeme) (line : List ℕ) (k : ℕ) → places_seen v ≡ placed 0 (lexemes line) → k ≡ length v → length line + 1 ≡ column line k
column_end v line k e h =
    let n = lexemes_many v 0 (lexemes line) e in
    let t : take k (lexemes line) ≡ lexemes line = ap (λ (i : ℕ). take i (lexemes line)) (h ∙ n) ∙ take_all (lexemes line) in
    let b = ap bytes_of t ∙ bytes_all line in
    omega arith

pub column_at : (v : List kept.Lexeme) (line : List ℕ) (k : ℕ) (d : kept.Lexeme) → places_seen v ≡ placed 0 (lexemes line) → k < length v → (get_or v k d).at + 1 ≡ column line k
column_at v line k d e h = let a = at_placed k 0 v (lexemes line) d e h in omega arith

-- a token stands in its line
pub at_small : (v : List kept.Lexeme) (line : List ℕ) (k : ℕ) (d : kept.Lexeme) → places_seen v ≡ placed 0 (lexemes line) → k < length v → (get_or v k d).at ≤ length line
at_small v line k d e h =
    let a = at_placed k 0 v (lexemes line) d e h in
    let b = bytes_take k (lexemes line) in
    let c = bytes_all line in
    omega arith

-- none or too many are left: it is the end
pub end_place : (left place n : ℕ) → (left ≡ 0) ⊎ ((left ≡ 0 → ⊥) × (n < left)) → place + left ≡ n → place ≡ n
end_place left place n (inl h) e = omega arith
end_place left place n (inr h) e = absurd (let l = h.1 in omega arith)
