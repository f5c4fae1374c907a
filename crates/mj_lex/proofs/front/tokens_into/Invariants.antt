use Rattle.std.proofs.Common.{◌≡◌, ◌-◌, ◌≤◌, ◌++◌, length}
use Rattle.mj_ast.specs.Tokens.{lexemes}
use Rattle.mj_lex.specs.Seen.{placed, places_seen}
use Rattle.mj_lex.proofs.front.tokens_into.Given as goal

abbrev pub invariant-tokens : goal.invariant-tokens
invariant-tokens l = record {
  within : length l.rest ≤ length l.line;
  found : places_seen l.lexemes.items ++ placed (length l.line - length l.rest) (lexemes l.rest) ≡ placed 0 (lexemes l.line);
}

abbrev pub decreases-tokens : goal.decreases-tokens
decreases-tokens l = length l.rest
