use Rattle.std.proofs.Common.{◌≡◌, ◌≤◌, [], length, reverse}
use Rattle.mj_expr.specs.Reads.{symbols_seen}
use Rattle.mj_expr.specs.Shapes.{pass, IsEndOf}
use Rattle.mj_lex.specs.Seen.{tokens_seen}
use Rattle.mj_expr.proofs.beyond.beyond.Given as goal

-- what is passed from here on is what is passed from the beginning on
pub record SoFar (Goes : Type 0) (Back : Type 0) (Falls : Type 0) : Type 0 where
  pub goes : Goes
  pub back : Back
  pub falls : Falls

abbrev pub invariant-tokens : goal.invariant-tokens
invariant-tokens l = SoFar
    (pass (symbols_seen l.tokens) l.fn.stage l.fn.around [] ≡ pass (symbols_seen l.rest) l.stage l.around (reverse l.others.items))
    (IsEndOf (tokens_seen l.tokens) (tokens_seen l.rest))
    (length l.rest ≤ length l.tokens)

abbrev pub decreases-tokens : goal.decreases-tokens
decreases-tokens l = length l.rest
