use Rattle.std.proofs.Common.{◌≡◌, ◌≤◌, List, length, ℕ}
use Rattle.mj_expr.specs.Machine.{Limits}
use Rattle.mj_lex.specs.Seen.{tokens_seen}
use Rattle.mj_line.specs.Machine.{At, FormalBehind, FormalsOpened, run}
use Rattle.mj_cmd.proofs.formals.names.Given as goal

pub record SoFar (Goes : Type 0) (Falls : Type 0) : Type 0 where
  pub goes : Goes
  pub falls : Falls

abbrev pub invariant-commas : goal.invariant-commas
invariant-commas l = SoFar
    ((m : Limits) → (label : List ℕ) → run m (tokens_seen l.tokens) (At (FormalsOpened label)) ≡ run m (tokens_seen l.rest) (At (FormalBehind label l.names.items)))
    (length l.rest ≤ length l.tokens)

abbrev pub decreases-commas : goal.decreases-commas
decreases-commas l = length l.rest
