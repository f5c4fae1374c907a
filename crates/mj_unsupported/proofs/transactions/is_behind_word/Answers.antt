use Rattle.std.proofs.Common.{◌≡◌, ◌∙◌, ◌++◌, ◌∷◌, [], ap, subst, List}
use Rattle.mj_ast.specs.declared.keyword.Keyword.TheVariants.{TStart}
use Rattle.mj_ast.specs.Tokens.{Token, Blank}
use Rattle.mj_ast.specs.LeftOut.{EndsInCommand, IsBehindCommand}
use Rattle.mj_lex.specs.declared.token.Token as kept
use Rattle.mj_lex.specs.Seen.{token_seen, tokens_seen}
use Rattle.mj_unsupported.specs.Fronts.{IsFront}
use Rattle.mj_unsupported.proofs.Fronts.{front_less, word_off}
use Rattle.mj_unsupported.proofs.Says.{ok_for}
use Rattle.mj_unsupported.proofs.transactions.is_behind_word.Goals as goal

pub ends_in_command-requires : goal.ends_in_command-requires
ends_in_command-requires c =
    let P : List Token → Type 0 = λ ks. IsFront ks in
    front_less (tokens_seen c.in-Some-Blank-default.before.now) (token_seen c.in-Some-Blank-default.field-0-0 ∷ []) (subst P c.in-Some-Blank-default.ensures.seen c.requires)

pub returns-in-Some-Blank-default : goal.returns-in-Some-Blank-default
returns-in-Some-Blank-default c =
    let front = tokens_seen c.args.front.now in
    let before = tokens_seen c.in-Some-Blank-default.before.now in
    let e : front ≡ before ++ Blank ∷ [] = c.in-Some-Blank-default.ensures.seen ∙ ap (λ (t : kept.Token). before ++ token_seen t ∷ []) c.in-Some-Blank-default.field-0-0-is in
    ok_for c.ends_in_command.result (EndsInCommand TStart before) (IsBehindCommand TStart front) (λ s. (before, e, s)) (word_off front before e) c.ends_in_command.ensures
