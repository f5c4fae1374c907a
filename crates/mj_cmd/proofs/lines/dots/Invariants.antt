use Rattle.std.proofs.Common.{◌≡◌, ◌≤◌, ◌+◌, length}
use Rattle.mj_expr.specs.Machine.{Limits}
use Rattle.mj_lex.specs.Seen.{tokens_seen}
use Rattle.mj_line.specs.Machine.{At, Indented, run}
use Rattle.mj_line.specs.Sentences.{Sentence}
use Rattle.mj_cmd.specs.Heads.{HasNoBlank}
use Rattle.mj_cmd.proofs.Front.{with_dots}
use Rattle.mj_cmd.proofs.lines.dots.Given as goal

pub record SoFar (Goes : Type 0) (Bare : Type 0) (Falls : Type 0) : Type 0 where
  pub goes : Goes
  pub bare : Bare
  pub falls : Falls

abbrev pub invariant-dots : goal.invariant-dots
invariant-dots l = SoFar
    ((m : Limits) → (o : Sentence) → run m (tokens_seen l.tokens) (At (Indented o)) ≡ run m (tokens_seen l.rest) (At (Indented (with_dots l.dots o))))
    (HasNoBlank (tokens_seen l.rest))
    (l.dots + length l.rest ≤ length l.tokens)

abbrev pub decreases-dots : goal.decreases-dots
decreases-dots l = length l.rest
