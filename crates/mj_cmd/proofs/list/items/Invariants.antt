use Rattle.std.proofs.Common.{◌≤◌, Option, length, List}
use Rattle.mj_ast.specs.declared.keyword.Verb.{Verb}
use Rattle.mj_ast.specs.Syntax.{Expr}
use Rattle.mj_ast.specs.Commands.{Part}
use Rattle.mj_expr.specs.Machine.{Limits}
use Rattle.mj_lex.specs.Seen.{tokens_seen}
use Rattle.mj_line.specs.Sentences.{Sentence}
use Rattle.mj_cmd.specs.Lists.{AreItems}
use Rattle.mj_cmd.specs.Reads.{HasRoom}
use Rattle.mj_cmd.proofs.Follow.{WentAs}
use Rattle.mj_cmd.proofs.list.items.Given as goal

pub record SoFar (Goes : Type 0) (Some : Type 0) (Falls : Type 0) : Type 0 where
  pub goes : Goes
  pub some : Some
  pub falls : Falls

abbrev pub invariant-commas : goal.invariant-commas
invariant-commas g l = SoFar
    ((q : g.T.Item.lists) → (m : Limits) → HasRoom l.phrases.limited m l.tokens → g.T.Item.begins q (tokens_seen l.tokens) → (o : Sentence) →
    (condition : Option Expr) → (k : Verb) → (done : List Part) →
    WentAs l.phrases.limited (λ ps. AreItems g.T.Item.spells ps l.items.items) m l.tokens (g.T.Item.first_at q) l.rest (g.T.Item.behind_at q) o condition k done)
    (1 ≤ length l.items.items)
    (length l.rest ≤ length l.tokens)

abbrev pub decreases-commas : goal.decreases-commas
decreases-commas g l = length l.rest
