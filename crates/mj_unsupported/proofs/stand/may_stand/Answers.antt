use Rattle.std.proofs.Common.{◌≡◌, ◌∙◌, ◌++◌, ◌∷◌, [], ap, subst, List}
use Rattle.std.proofs.lemmas.List.{map-append}
use Rattle.mj_ast.specs.Trees.{line_of}
use Rattle.mj_ast.specs.Tokens.{Token}
use Rattle.mj_lex.specs.declared.token.Lexeme.{Lexeme}
use Rattle.mj_lex.specs.declared.token.Token as kept
use Rattle.mj_lex.specs.Seen.{token_seen, tokens_seen}
use Rattle.mj_expr.specs.declared.stop.ParseError.{ParseError}
use Rattle.mj_cmd.specs.Said.{IsRead, RefusalSays}
use Rattle.mj_unsupported.proofs.Fronts.{read_begins, stuck_says, deep_begins, probe_fits}
use Rattle.mj_unsupported.proofs.stand.may_stand.Goals as goal

-- the tokens with one behind them
with_token : (ls front all : List Lexeme) (t : kept.Token) → all ≡ ls ++ record { token = t; at = 0 } ∷ [] → ls ≡ front → tokens_seen all ≡ tokens_seen front ++ token_seen t ∷ []
with_token ls front all t e f =
    ap tokens_seen (e ∙ ap (λ (xs : List Lexeme). xs ++ record { token = t; at = 0 } ∷ []) f) ∙ map-append (λ (l : Lexeme). token_seen l.token) front (record { token = t; at = 0 } ∷ [])

pub returns-in-Ok : goal.returns-in-Ok
returns-in-Ok c =
    let e = with_token c.in_ok-tokens.tokens.items c.args.front.now c.deref.result.now c.args.token (c.deref.ensures.value ∙ c.in_ok-push.ensures.items) c.in_ok-tokens.ensures.items in
    let P : List Token → Type 0 = λ ks. IsRead ks (line_of c.in-Ok.field-0) in
    let r = subst P e c.in-Ok.ensures.read in
    read_begins (tokens_seen c.args.front.now ++ token_seen c.args.token ∷ []) (line_of c.in-Ok.field-0) r.spells

pub returns-in-Stuck : goal.returns-in-Stuck
returns-in-Stuck c =
    let e = with_token c.in_ok-tokens.tokens.items c.args.front.now c.deref.result.now c.args.token (c.deref.ensures.value ∙ c.in_ok-push.ensures.items) c.in_ok-tokens.ensures.items in
    let P : List Token → Type 0 = λ ks. RefusalSays ks c.in-Err.stop in
    let Q : ParseError → Type 0 = λ x. RefusalSays (tokens_seen c.args.front.now ++ token_seen c.args.token ∷ []) x in
    stuck_says (tokens_seen c.args.front.now ++ token_seen c.args.token ∷ []) c.in-Stuck.left (subst Q c.in-Stuck.is (subst P e c.in-Err.ensures.refused))

pub returns-in-Deep : goal.returns-in-Deep
returns-in-Deep c =
    let e = with_token c.in_ok-tokens.tokens.items c.args.front.now c.deref.result.now c.args.token (c.deref.ensures.value ∙ c.in_ok-push.ensures.items) c.in_ok-tokens.ensures.items in
    let P : List Token → Type 0 = λ ks. RefusalSays ks c.in-Err.stop in
    let Q : ParseError → Type 0 = λ x. RefusalSays (tokens_seen c.args.front.now ++ token_seen c.args.token ∷ []) x in
    deep_begins (tokens_seen c.args.front.now) (token_seen c.args.token) c.in-Deep.field-0 (subst Q c.in-Deep.is (subst P e c.in-Err.ensures.refused)) c.requires.front

pub returns-in-Long : goal.returns-in-Long
returns-in-Long c =
    let e = with_token c.in_ok-tokens.tokens.items c.args.front.now c.deref.result.now c.args.token (c.deref.ensures.value ∙ c.in_ok-push.ensures.items) c.in_ok-tokens.ensures.items in
    let P : List Token → Type 0 = λ ks. RefusalSays ks c.in-Err.stop in
    let Q : ParseError → Type 0 = λ x. RefusalSays (tokens_seen c.args.front.now ++ token_seen c.args.token ∷ []) x in
    λ b. probe_fits (tokens_seen c.args.front.now) (token_seen c.args.token) c.requires.front c.requires.probe (subst Q c.in-Long.is (subst P e c.in-Err.ensures.refused))
