use Rattle.std.proofs.Common.{◌≡◌, ◌≤◌, ◌+◌, length}
use Rattle.std.specs.Prelude.{reverse}
use Rattle.mj_ast.specs.LeftOut.{innermost}
use Rattle.mj_lex.specs.Seen.{tokens_seen}
use Rattle.mj_unsupported.proofs.words.innermost.Given as goal

pub record SoFar (Same : Type 0) (Closes : Type 0) (Few : Type 0) : Type 0 where
  pub same : Same
  pub closes : Closes
  pub few : Few

abbrev pub invariant-tokens : goal.invariant-tokens
invariant-tokens l = SoFar (innermost 0 0 (reverse (tokens_seen l.tokens)) ≡
    innermost l.closed l.commas (reverse (tokens_seen l.rest))) (l.closed + length l.rest ≤ length l.tokens) (l.commas + length l.rest ≤ length l.tokens)

abbrev pub decreases-tokens : goal.decreases-tokens
decreases-tokens l = length l.rest
