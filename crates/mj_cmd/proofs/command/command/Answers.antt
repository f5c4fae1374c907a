use Rattle.std.proofs.Common.{◌≡◌, ◌==◌, ◌∙◌, ℕ, arith, Bool, true, List, [], ◌∷◌, length, refl, sym, ap}
use Rattle.std.proofs.lemmas.Bool.Decides.{nat_tests}
use Rattle.mj_ast.specs.Trees.{command_of}
use Rattle.mj_lex.specs.declared.token.Lexeme.{Lexeme}
use Rattle.mj_lex.specs.Seen.{tokens_seen}
use Rattle.mj_line.specs.Machine.{At, Bare, Behind, args_rest, run}
use Rattle.mj_ast.specs.Tokens.{Token}
use Rattle.mj_cmd.proofs.FollowLines.{bare_blank, bare_end, bare_written}
use Rattle.mj_cmd.proofs.command.command.Goals as goal

-- no token at all
no_length : (n : ℕ) (b : Bool) → b ≡ (n == 0) → b ≡ true → n ≡ 0
no_length n b e h = grind (arith, nat_tests)

none_seen : (ls : List Lexeme) (b : Bool) → b ≡ (length ls == 0) → b ≡ true → tokens_seen ls ≡ []
none_seen [] b e h = refl
none_seen (l ∷ ls) b e h = let z = no_length (length (l ∷ ls)) b e h in absurd (omega arith)

pub returns-then-is_empty-clause-reads : goal.returns-then-is_empty-clause-reads
returns-then-is_empty-clause-reads c = λ m r o condition.
    let n = none_seen c.args.tokens.now c.is_empty.result c.is_empty.ensures c.if-is_empty.true in (
      [],
      λ l. (bare_written (command_of c.bare.result) c.bare.ensures.parts c.bare.ensures.plain, c.bare.ensures.named ∙ c.bare_keyword.ensures),
      ap (λ (ks : List Token). run m ks (At (Bare o condition c.args.verb))) n
          ∙ bare_end m o condition c.args.verb (sym c.may_be_bare-may_end.ensures ∙ c.if-may_end.true)
          ∙ ap (λ (ks : List Token). run m ks (At (Behind (args_rest o condition c.args.verb [])))) (sym n),
    )

pub returns-in-Ok-clause-reads : goal.returns-in-Ok-clause-reads
returns-in-Ok-clause-reads c = λ m r o condition. (
  [],
  λ l. (bare_written (command_of c.bare-in-Ok.result) c.bare-in-Ok.ensures.parts c.bare-in-Ok.ensures.plain, c.bare-in-Ok.ensures.named ∙ c.bare_keyword-in-Ok.ensures),
  bare_blank m o condition c.args.verb (tokens_seen c.args.tokens.now) (tokens_seen c.in-Some.behind.now) c.in-Some.ensures.0
      (sym c.may_be_bare-may_end.ensures ∙ c.if-not-may_end.false) c.in-Ok.ensures.ok.1
      ∙ ap (λ (ls : List Lexeme). run m (tokens_seen ls) (At (Behind (args_rest o condition c.args.verb [])))) (sym c.in-Ok.ensures.ok.0),
)
