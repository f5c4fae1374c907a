use Rattle.std.proofs.Common.{◌≤◌, List, length, Option}
use Rattle.mj_ast.specs.declared.keyword.Verb.{Verb}
use Rattle.mj_ast.specs.Syntax.{Expr}
use Rattle.mj_ast.specs.Commands.{Part, name_parts, with_commas}
use Rattle.mj_expr.specs.Machine.{Limits}
use Rattle.mj_cmd.specs.Parts.{NameList, name_wanted, name_behind}
use Rattle.mj_line.specs.Sentences.{Sentence}
use Rattle.mj_cmd.proofs.Follow.{Went}
use Rattle.mj_cmd.proofs.kill.names.Given as goal

pub record SoFar (Goes : Type 0) (Some : Type 0) (Falls : Type 0) : Type 0 where
  pub goes : Goes
  pub some : Some
  pub falls : Falls

abbrev pub invariant-commas : goal.invariant-commas
invariant-commas l = SoFar
    ((m : Limits) → (new : NameList) → (o : Sentence) → (condition : Option Expr) → (k : Verb) → (done : List Part) →
    Went l.phrases.limited (with_commas name_parts l.names.items) m l.tokens (name_wanted new) l.rest (name_behind new) o condition k done)
    (1 ≤ length l.names.items)
    (length l.rest ≤ length l.tokens)

abbrev pub decreases-commas : goal.decreases-commas
decreases-commas l = length l.rest
