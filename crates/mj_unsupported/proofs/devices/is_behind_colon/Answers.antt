use Rattle.std.proofs.Common.{◌≡◌, ◌∙◌, ◌++◌, ◌∷◌, [], ap, subst, List}
use Rattle.mj_ast.specs.declared.sign.Sign.{Sign}
use Rattle.mj_ast.specs.declared.sign.Sign.TheVariants.{Colon}
use Rattle.mj_ast.specs.Tokens.{Token, Signed}
use Rattle.mj_ast.specs.LeftOut.{EndsInCommand, IsBehindColon, MayStand}
use Rattle.mj_lex.specs.declared.token.Token as kept
use Rattle.mj_lex.specs.Seen.{token_seen, tokens_seen}
use Rattle.mj_unsupported.specs.Fronts.{IsFront}
use Rattle.mj_unsupported.proofs.Fronts.{front_less}
use Rattle.mj_unsupported.proofs.Says.{ok_for, when_so}
use Rattle.mj_unsupported.proofs.devices.is_behind_colon.Goals as goal

pub ends_in_command-requires : goal.ends_in_command-requires
ends_in_command-requires c =
    let P : List Token → Type 0 = λ ks. IsFront ks in
    front_less (tokens_seen c.in-Some-Sign-Colon-default.before.now) (token_seen c.in-Some-Sign-Colon-default.field-0-0 ∷ []) (subst P c.in-Some-Sign-Colon-default.ensures.seen c.requires)

pub returns-else-not-branch : goal.returns-else-not-branch
returns-else-not-branch c =
    let h = c.in-Some-Sign-Colon-default in
    let k = c.args.keyword in
    let front = tokens_seen c.args.front.now in
    let before = tokens_seen h.before.now in
    let e : front ≡ before ++ Signed Colon ∷ [] = h.ensures.seen ∙ ap (λ (t : kept.Token). before ++ token_seen t ∷ []) h.field-0-0-is ∙ ap (λ (s : Sign). before ++ Signed s ∷ []) h.field-0-0-0-is in
    let n = when_so c.in_ok-ends_in_command-in-Some-Sign-Colon-default.field-0 (EndsInCommand k before) c.if-not-branch.false c.in_ok-ends_in_command-in-Some-Sign-Colon-default.ensures in
    ok_for c.may_be_colon.result (MayStand front (Signed Colon)) (IsBehindColon k front) (λ s. (before, e, n, s)) (λ q. q.3) c.may_be_colon.ensures
