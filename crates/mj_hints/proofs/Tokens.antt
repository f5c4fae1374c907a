-- The first token of some bytes, by the tokens that are kept.
use Rattle.std.proofs.Common.{◌≡◌, ℕ, ◌+◌, List, [], ◌∷◌, ◌++◌, length, take, Some, None, get_or, ◌≤◌, refl, ap, ◌∙◌, arith}
use Rattle.mj_ast.specs.Tokens.{Token, Lexeme, IsTokenisation, lexemes}
use Rattle.mj_lex.specs.Seen.{placed, places_seen, token_seen}
use Rattle.mj_lex.specs.declared.token.Lexeme as kept
use Rattle.mj_lex.proofs.Longest.{tokenised}
use Rattle.mj_hints.specs.Hints.{first_lexeme, front_there}

append_nil : (xs : List ℕ) → xs ++ [] ≡ xs
append_nil [] = refl
append_nil (x ∷ xs) = ap (λ (ys : List ℕ). x ∷ ys) (append_nil xs)

take_front : (front rest : List ℕ) → take (length front) (front ++ rest) ≡ front
take_front [] rest = refl
take_front (x ∷ xs) rest = ap (λ (ys : List ℕ). x ∷ ys) (take_front xs rest)

pub none_by : (ls : List Lexeme) → [] ≡ placed 0 ls → None ≡ first_lexeme ls
none_by [] h = refl
none_by (l ∷ ls) h = cc

pub one_by : (line : List ℕ) (ls : List Lexeme) (t : Token) (at : ℕ) → (t, at) ∷ [] ≡ placed 0 ls → IsTokenisation line ls → Some (t, line) ≡ first_lexeme ls
one_by line [] t at h k = cc
one_by line (l ∷ []) t at h k =
    let slice : line ≡ l.slice = k.1 ∙ ap (λ (xs : List ℕ). l.slice ++ xs) k.5 ∙ append_nil l.slice in
    let pair : ◌≡◌ {A = Token × ℕ} (t, at) (l.token, 0) = cc in
    let token : t ≡ l.token = ap (λ (x : Token × ℕ). x.0) pair in
    ap (λ (x : Token). Some (x, line)) token ∙ ap (λ (xs : List ℕ). Some (l.token, xs)) slice
one_by line (l ∷ m ∷ ls) t at h k = cc

pub two_by : (line : List ℕ) (ls : List Lexeme) (t u : Token) (at n : ℕ) (rest : List (Token × ℕ)) → (t, at) ∷ (u, n) ∷ rest ≡ placed 0 ls → IsTokenisation line ls
    → Some (t, take n line) ≡ first_lexeme ls
two_by line [] t u at n rest h k = cc
two_by line (l ∷ []) t u at n rest h k = cc
two_by line (l ∷ m ∷ ls) t u at n rest h k =
    let pair : ◌≡◌ {A = Token × ℕ} (t, at) (l.token, 0) = cc in
    let token : t ≡ l.token = ap (λ (x : Token × ℕ). x.0) pair in
    let other : ◌≡◌ {A = Token × ℕ} (u, n) (m.token, 0 + length l.slice) = cc in
    let second : n ≡ 0 + length l.slice = ap (λ (x : Token × ℕ). x.1) other in
    let width : n ≡ length l.slice = omega (arith, second) in
    let slice : take n line ≡ l.slice = ap (λ (i : ℕ). take i line) width ∙ ap (λ (xs : List ℕ). take (length l.slice) xs) k.1 ∙ take_front l.slice k.0 in
    ap (λ (x : Token). Some (x, take n line)) token ∙ ap (λ (xs : List ℕ). Some (l.token, xs)) slice

-- there is one token
pub front_one : (line : List ℕ) (ks : List kept.Lexeme) (d : kept.Lexeme) → length ks ≡ 1 → places_seen ks ≡ placed 0 (lexemes line)
    → Some (token_seen (get_or ks 0 d).token, line) ≡ front_there line
front_one line [] d n h = absurd (omega (arith, n))
front_one line (k ∷ []) d n h = one_by line (lexemes line) (token_seen k.token) k.at h (tokenised line)
front_one line (k ∷ l ∷ ks) d n h = absurd (omega (arith, n))

-- there are more
pub front_two : (line word : List ℕ) (ks : List kept.Lexeme) (d : kept.Lexeme) → 2 ≤ length ks → word ≡ take (get_or ks 1 d).at line → places_seen ks ≡ placed 0 (lexemes line)
    → Some (token_seen (get_or ks 0 d).token, word) ≡ front_there line
front_two line word [] d n w h = absurd (omega (arith, n))
front_two line word (k ∷ []) d n w h = absurd (omega (arith, n))
front_two line word (k ∷ l ∷ ks) d n w h =
    ap (λ (xs : List ℕ). Some (token_seen k.token, xs)) w ∙ two_by line (lexemes line) (token_seen k.token) (token_seen l.token) k.at l.at (places_seen ks) h (tokenised line)
