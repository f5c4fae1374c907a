use Rattle.std.proofs.Common.{◌≡◌, ◌∙◌, ◌++◌, ◌∷◌, [], ap, subst, List}
use Rattle.mj_ast.specs.declared.keyword.Keyword.TheVariants.{Open}
use Rattle.mj_ast.specs.declared.sign.Sign.{Sign}
use Rattle.mj_ast.specs.declared.sign.Sign.TheVariants.{Colon}
use Rattle.mj_ast.specs.Tokens.{Token, Signed}
use Rattle.mj_ast.specs.LeftOut.{IsBehindColon, IsBehindColons}
use Rattle.mj_lex.specs.declared.token.Token as kept
use Rattle.mj_lex.specs.Seen.{token_seen, tokens_seen}
use Rattle.mj_unsupported.specs.Fronts.{IsFront}
use Rattle.mj_unsupported.proofs.Fronts.{front_less, colons_off}
use Rattle.mj_unsupported.proofs.Says.{ok_for}
use Rattle.mj_unsupported.proofs.devices.is_behind_colons.Goals as goal

pub is_behind_colon-requires : goal.is_behind_colon-requires
is_behind_colon-requires c =
    let P : List Token → Type 0 = λ ks. IsFront ks in
    front_less (tokens_seen c.in-Some-Sign-Colon-default.before.now) (token_seen c.in-Some-Sign-Colon-default.field-0-0 ∷ []) (subst P c.in-Some-Sign-Colon-default.ensures.seen c.requires)

pub returns-in-Some-Sign-Colon-default : goal.returns-in-Some-Sign-Colon-default
returns-in-Some-Sign-Colon-default c =
    let h = c.in-Some-Sign-Colon-default in
    let front = tokens_seen c.args.front.now in
    let before = tokens_seen h.before.now in
    let e : front ≡ before ++ Signed Colon ∷ [] = h.ensures.seen ∙ ap (λ (t : kept.Token). before ++ token_seen t ∷ []) h.field-0-0-is ∙ ap (λ (s : Sign). before ++ Signed s ∷ []) h.field-0-0-0-is in
    ok_for c.is_behind_colon.result (IsBehindColon Open before) (IsBehindColons front) (λ s. (before, e, s)) (colons_off front before e) c.is_behind_colon.ensures
