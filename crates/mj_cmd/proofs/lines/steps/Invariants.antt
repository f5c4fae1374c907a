use Rattle.std.proofs.Common.{◌≡◌, ◌≤◌, List, ◌++◌, length, map, true}
use Rattle.mj_ast.specs.Trees.{step_of}
use Rattle.mj_expr.specs.Machine.{Limits}
use Rattle.mj_lex.specs.Seen.{tokens_seen}
use Rattle.mj_line.specs.Machine.{At, Behind, run}
use Rattle.mj_line.specs.Sentences.{Sentence, Clause}
use Rattle.mj_cmd.specs.Heads.{HasNoBlank}
use Rattle.mj_cmd.specs.Reads.{HasRoom, AreWritten}
use Rattle.mj_cmd.proofs.lines.steps.Given as goal

pub record SoFar (Goes : Type 0) (Bare : Type 0) (Falls : Type 0) : Type 0 where
  pub goes : Goes
  pub bare : Bare
  pub falls : Falls

abbrev pub invariant-steps : goal.invariant-steps
invariant-steps l = SoFar
    ((m : Limits) → HasRoom l.phrases.limited m l.tokens → (o : Sentence) →
    (ss : List Clause) × (l.phrases.limited ≡ true → AreWritten ss (map step_of l.steps.items)) ×
    (run m (tokens_seen l.tokens) (At (Behind (record { line = o; gap = 0; comment = 0 }))) ≡
    run m (tokens_seen l.rest) (At (Behind (record {
      line = record { label = o.label; formals = o.formals; level = o.level; clauses = o.clauses ++ ss };
      gap = 0;
      comment = 0;
    })))))
    (HasNoBlank (tokens_seen l.rest))
    (length l.rest ≤ length l.tokens)

abbrev pub decreases-steps : goal.decreases-steps
decreases-steps l = length l.rest
