use Rattle.std.proofs.Common.{rules, ◌≡◌, ◌∷◌, IfSome, Option, List, Bor, subst}
use Rattle.mj_ast.specs.Tokens.{Token}
use Rattle.mj_lex.specs.declared.token.Lexeme.{Lexeme}
use Rattle.mj_lex.specs.Seen.{tokens_seen}
use Rattle.mj_expr.specs.declared.beyond.Around.{Around}
use Rattle.mj_expr.specs.declared.beyond.Stage.{Stage}
use Rattle.mj_expr.proofs.Runs.{end_more}
use Rattle.mj_expr.proofs.beyond.beyond.Goals as goal

pub tokens-preserved : goal.tokens-preserved
tokens-preserved c =
    let P : Option (Stage × Around × Bor (List Lexeme)) → Type 0 = λ x. IfSome x (λ y. (k : Token) × (tokens_seen c.tokens.rest.now ≡ k ∷ tokens_seen y.2.now)) in
    let h = subst P c.in-Some-2.is c.in_ok-next-in-Some.ensures.next in
    record {
      goes = search rules;
      back = end_more _ _ _ c.tokens.invariant.back h;
      falls = search rules;
    }
