-- The ends of lists.
use Rattle.std.proofs.Common.{◌≡◌, ◌∙◌, refl, ap, ℕ, zero, suc, ◌+◌, List, [], ◌∷◌, length, take, drop, map, get_or, arith, Bool, false, ◌<◌, ◌==◌, Some}
use Rattle.mj_ast.specs.Tokens.{Token}
use Rattle.mj_ast.specs.Trees.{step_of, command_of}
use Rattle.mj_ast.specs.Commands.{keyword_for}
use Rattle.mj_ast.specs.LeftOut.{last_keyword}
use Rattle.mj_ast.specs.declared.routine.LineCommand as kept_step
use Rattle.std.proofs.lemmas.Bool.Decides.{nat_tests}
use Rattle.mj_lex.specs.declared.token.Lexeme.{Lexeme}
use Rattle.mj_lex.specs.Seen.{token_seen, tokens_seen}

-- the last command
pub last_at : (n : ℕ) (steps : List kept_step.LineCommand) (d : kept_step.LineCommand)
    → length steps ≡ n + 1 → last_keyword (map step_of steps) ≡ Some (keyword_for (command_of (get_or steps n d).command))
last_at n [] d h = absurd (omega arith)
last_at zero (s ∷ []) d h = refl
last_at zero (s ∷ t ∷ steps) d h = absurd (omega arith)
last_at (suc n) (s ∷ []) d h = absurd (omega arith)
last_at (suc n) (s ∷ t ∷ steps) d h = last_at n (t ∷ steps) d (omega arith)

pub not_empty : (n : ℕ) (b : Bool) → b ≡ (n == 0) → b ≡ false → 0 < n
not_empty n b e h = grind (arith, nat_tests)

pub taken_tokens : (n : ℕ) (ls : List Lexeme) → tokens_seen (take n ls) ≡ take n (tokens_seen ls)
taken_tokens zero ls = refl
taken_tokens (suc n) [] = refl
taken_tokens (suc n) (l ∷ ls) = ap (λ (ks : List Token). token_seen l.token ∷ ks) (taken_tokens n ls)

pub dropped_tokens : (n : ℕ) (ls : List Lexeme) → tokens_seen (drop n ls) ≡ drop n (tokens_seen ls)
dropped_tokens zero ls = refl
dropped_tokens (suc n) [] = refl
dropped_tokens (suc n) (l ∷ ls) = dropped_tokens n ls

pub front_at : (ls part : List Lexeme) (n place : ℕ) → part ≡ take n ls → n ≡ place → tokens_seen part ≡ take place (tokens_seen ls)
front_at ls part n place e f = ap tokens_seen e ∙ taken_tokens n ls ∙ ap (λ (k : ℕ). take k (tokens_seen ls)) f

pub rest_at : (ls part : List Lexeme) (n place : ℕ) → part ≡ drop n ls → n ≡ place → tokens_seen part ≡ drop place (tokens_seen ls)
rest_at ls part n place e f = ap tokens_seen e ∙ dropped_tokens n ls ∙ ap (λ (k : ℕ). drop k (tokens_seen ls)) f
