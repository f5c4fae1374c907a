use Rattle.std.proofs.Common.{◌-◌, ℕ, List, length, ◌++◌, ◌∙◌, ap, arith}
use Rattle.mj_ast.specs.Tokens.{Token, lexemes}
use Rattle.mj_lex.specs.Seen.{placed, places_seen, token_seen}
use Rattle.mj_lex.specs.declared.token.Lexeme as kept
use Rattle.mj_lex.proofs.Longest.{tokenised}
use Rattle.mj_lex.proofs.Once.{once}
use Rattle.mj_lex.proofs.Tokenise.{placed_more, placed_all, places_seen-snoc}
use Rattle.mj_lex.proofs.front.tokens_into.Goals as goal

pub tokens-preserved : goal.tokens-preserved
tokens-preserved c = record {
  within = omega (arith, c.in-Some.ensures.shorter);
  found =
      let line : List ℕ = c.args.line.now in
      let behind : List (Token × ℕ) = placed (length line - length c.in-Some.behind.now) (lexemes c.in-Some.behind.now) in
      let ts : List (Token × ℕ) = places_seen c.tokens.lexemes.items in
      ap (λ (ls : List kept.Lexeme). places_seen ls ++ behind) c.in-Ok.ensures.items
      ∙ ap (λ (xs : List (Token × ℕ)). xs ++ behind) (places_seen-snoc c.tokens.lexemes.items _)
      ∙ placed_more ts (placed 0 (lexemes line)) line c.tokens.rest.now c.in-Some.behind.now (token_seen c.in-Some.token) c.in-Some.ensures.token c.tokens.invariant.within c.tokens.invariant.found;
}

pub returns-clause-placed : goal.returns-clause-placed
returns-clause-placed c = placed_all (places_seen c.tokens.lexemes.items) (placed 0 (lexemes c.args.line.now)) _ c.tokens.rest.now c.in_default.ensures.token c.tokens.invariant.found

pub returns-clause-longest : goal.returns-clause-longest
returns-clause-longest c = tokenised c.args.line.now

pub returns-clause-only : goal.returns-clause-only
returns-clause-only c = λ others h. once c.args.line.now others (lexemes c.args.line.now) h (tokenised c.args.line.now)

pub returns-in_default-push-clause-longest : goal.returns-in_default-push-clause-longest
returns-in_default-push-clause-longest c = tokenised c.args.line.now

pub returns-in_default-push-clause-only : goal.returns-in_default-push-clause-only
returns-in_default-push-clause-only c = λ others h. once c.args.line.now others (lexemes c.args.line.now) h (tokenised c.args.line.now)
