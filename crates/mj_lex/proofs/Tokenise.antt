-- The tokens of a line are found one after the other.
use Rattle.std.proofs.Common.{◌≡◌, ℕ, zero, suc, ◌+◌, ◌-◌, ◌≤◌, List, [], ◌∷◌, ◌++◌, length, take, drop, refl, ap, sym, ◌∙◌, arith, append_assoc, append-nil}
use Rattle.std.proofs.lemmas.List.{length-drop, length-take}
use Rattle.mj_ast.specs.Tokens.{Token, Lexeme, class_of, front_of, first_lexemes, lexemes}
use Rattle.mj_lex.specs.declared.token.Lexeme as kept
use Rattle.mj_lex.specs.Seen.{BeginsWith, placed, places_seen, token_seen}

-- how many tokens are asked for doesn't matter where there is room for all
same_tokens : (n m : ℕ) (bs : List ℕ) → length bs ≤ n → length bs ≤ m → first_lexemes n bs ≡ first_lexemes m bs
same_tokens zero zero bs l g = refl
same_tokens zero (suc m) [] l g = refl
same_tokens zero (suc m) (b ∷ bs) l g = absurd (omega (arith, l))
same_tokens (suc n) zero [] l g = refl
same_tokens (suc n) zero (b ∷ bs) l g = absurd (omega (arith, g))
same_tokens (suc n) (suc m) [] l g = refl
same_tokens (suc n) (suc m) (b ∷ bs) l g =
    let f : Token × ℕ = front_of (class_of b) b bs in
    let k : length (drop f.1 bs) ≤ n = omega (arith, l, length-drop f.1 bs) in
    let j : length (drop f.1 bs) ≤ m = omega (arith, g, length-drop f.1 bs) in
    ap (λ (ls : List Lexeme). record { token = f.0; slice = b ∷ take f.1 bs } ∷ ls) (same_tokens n m (drop f.1 bs) k j)

-- the first token and those of the rest
lexemes-cons : (b : ℕ) (bs : List ℕ) → lexemes (b ∷ bs) ≡ record {
  token = (front_of (class_of b) b bs).0;
  slice = b ∷
      take (front_of (class_of b) b bs).1 bs;
} ∷ lexemes (drop (front_of (class_of b) b bs).1 bs)
unfolding lexemes
lexemes-cons b bs =
    let f : Token × ℕ = front_of (class_of b) b bs in
    let k : length (drop f.1 bs) ≤ length bs = omega (arith, length-drop f.1 bs) in
    let j : length (drop f.1 bs) ≤ length (drop f.1 bs) = omega arith in
    ap (λ (ls : List Lexeme). record { token = f.0; slice = b ∷ take f.1 bs } ∷ ls) (same_tokens (length bs) (length (drop f.1 bs)) (drop f.1 bs) k j)

lexemes-nil : lexemes [] ≡ []
unfolding lexemes
lexemes-nil = refl

width : (n : ℕ) (line : List ℕ) (b k : ℕ) (bs : List ℕ) → length (b ∷ bs) ≤ length line → n ≡ length line - length (b ∷ bs) → n + length (b ∷ take k bs) ≡ length line - length (drop k bs)
width n line b k bs l e =
    let t : length (b ∷ take k bs) ≡ suc (length (take k bs)) = refl in
    let s : length (b ∷ bs) ≡ suc (length bs) = refl in
    omega (arith, l, e, t, s, length-take k bs, length-drop k bs)

placed-cons : (line : List ℕ) (b : ℕ) (bs : List ℕ) → length (b ∷ bs) ≤ length line
    → placed (length line - length (b ∷ bs)) (lexemes (b ∷ bs)) ≡ ((front_of (class_of b) b bs).0, length line - length (b ∷ bs)) ∷
    placed (length line - length (drop (front_of (class_of b) b bs).1 bs)) (lexemes (drop (front_of (class_of b) b bs).1 bs))
placed-cons line b bs l =
    let f : Token × ℕ = front_of (class_of b) b bs in
    let n : ℕ = length line - length (b ∷ bs) in
    ap (placed n) (lexemes-cons b bs)
    ∙ ap (λ (k : ℕ). (f.0, n) ∷ placed k (lexemes (drop f.1 bs))) (width n line b f.1 bs l refl)

-- the token at the front and its place, and those behind it
pub placed_front : (line bytes rest : List ℕ) (t : Token) → BeginsWith bytes t rest → length bytes ≤ length line
    → placed (length line - length bytes) (lexemes bytes) ≡ (t, length line - length bytes) ∷ placed (length line - length rest) (lexemes rest)
placed_front line [] rest t h l = absurd h
placed_front line (b ∷ bs) rest t h l =
    let n : ℕ = length line - length (b ∷ bs) in
    placed-cons line b bs l
    ∙ ap (λ (x : Token). (x, n) ∷ placed (length line - length (drop (front_of (class_of b) b bs).1 bs)) (lexemes (drop (front_of (class_of b) b bs).1 bs))) (sym h.0)
    ∙ ap (λ (xs : List ℕ). (t, n) ∷ placed (length line - length xs) (lexemes xs)) (sym h.1)

-- one more token is found
pub placed_more : (ts : List (Token × ℕ)) (all : List (Token × ℕ)) (line bytes rest : List ℕ) (t : Token) → BeginsWith bytes t rest → length bytes ≤ length line
    → ts ++ placed (length line - length bytes) (lexemes bytes) ≡ all → (ts ++ (t, length line - length bytes) ∷ []) ++ placed (length line - length rest) (lexemes rest) ≡ all
placed_more ts all line bytes rest t h l e =
    append_assoc ts ((t, length line - length bytes) ∷ []) (placed (length line - length rest) (lexemes rest))
    ∙ ap (λ (xs : List (Token × ℕ)). ts ++ xs) (sym (placed_front line bytes rest t h l)) ∙ e

-- all tokens are found
pub placed_all : (ts : List (Token × ℕ)) (all : List (Token × ℕ)) (n : ℕ) (bytes : List ℕ) → bytes ≡ [] → ts ++ placed n (lexemes bytes) ≡ all → ts ≡ all
placed_all ts all n bytes e h = sym (append-nil ts) ∙ ap (λ (xs : List (Token × ℕ)). ts ++ xs) (sym (ap (λ (xs : List ℕ). placed n (lexemes xs)) e ∙ ap (placed n) lexemes-nil)) ∙ h

-- none is found yet
pub placed_none : (line : List ℕ) → placed (length line - length line) (lexemes line) ≡ placed 0 (lexemes line)
placed_none line = let e : length line - length line ≡ 0 = omega arith in ap (λ (n : ℕ). placed n (lexemes line)) e

-- one more token that the program keeps
pub places_seen-snoc : (ls : List kept.Lexeme) (l : kept.Lexeme) → places_seen (ls ++ l ∷ []) ≡ places_seen ls ++ (token_seen l.token, l.at) ∷ []
places_seen-snoc [] l = refl
places_seen-snoc (x ∷ ls) l = ap (λ (ts : List (Token × ℕ)). (token_seen x.token, x.at) ∷ ts) (places_seen-snoc ls l)
