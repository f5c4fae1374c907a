use Rattle.std.proofs.Common.{◌≤◌, List, length, Bool, Option}
use Rattle.mj_ast.specs.declared.keyword.Verb.{Verb}
use Rattle.mj_ast.specs.Syntax.{Expr}
use Rattle.mj_ast.specs.Commands.{Part, more_parts}
use Rattle.mj_expr.specs.Machine.{Limits}
use Rattle.mj_line.specs.Forms.{PieceComma}
use Rattle.mj_line.specs.Sentences.{Sentence}
use Rattle.mj_cmd.specs.Reads.{HasRoom}
use Rattle.mj_cmd.proofs.Follow.{Went}
use Rattle.mj_ast.specs.Trees.{exprs_of}
use Rattle.mj_cmd.specs.Parts.{piece_node}
use Rattle.mj_cmd.proofs.set.texts.Given as goal

pub record SoFar (Goes : Type 0) (Some : Type 0) (Falls : Type 0) : Type 0 where
  pub goes : Goes
  pub some : Some
  pub falls : Falls

abbrev pub invariant-commas : goal.invariant-commas
invariant-commas l = SoFar
    ((m : Limits) → HasRoom l.phrases.limited m l.tokens → (listed : Bool) → (o : Sentence) → (condition : Option Expr) → (k : Verb) → (done : List Part) →
    Went l.phrases.limited (more_parts (exprs_of l.texts.items)) m l.tokens (PieceComma listed) l.rest (piece_node listed (length l.texts.items)) o
    condition k done)
    ((1 ≤ length l.texts.items) × (length l.texts.items ≤ 3))
    (length l.rest ≤ length l.tokens)

abbrev pub decreases-commas : goal.decreases-commas
decreases-commas l = length l.rest
