use Rattle.std.proofs.Common.{◌≡◌, ◌∙◌, ◌+◌, ◌-◌, sym, subst, ℕ, List, Option, length, arith}
use Rattle.std.proofs.lemmas.List.{length-map}
use Rattle.mj_ast.specs.declared.construct.Construct.{Construct}
use Rattle.mj_ast.specs.Tokens.{Token}
use Rattle.mj_ast.specs.LeftOut.{IsNamed, IsNamedAt}
use Rattle.mj_lex.specs.declared.token.Lexeme.{Lexeme}
use Rattle.mj_lex.specs.Seen.{token_seen, tokens_seen}
use Rattle.mj_unsupported.specs.Fronts.{IsFront}
use Rattle.mj_unsupported.proofs.Ends.{front_at, rest_at}
use Rattle.mj_unsupported.proofs.Fronts.{stuck_front}
use Rattle.mj_unsupported.proofs.Named.{named_at, at_named, named_once}
use Rattle.mj_unsupported.proofs.Says.{ok_as}
use Rattle.mj_unsupported.proofs.left.left_out.Goals as goal

pub named-requires : goal.named-requires
named-requires c =
    let s = c.requires.stuck in
    let n = length-map c.args.tokens.now (λ (l : Lexeme). token_seen l.token) in
    let p : length c.args.tokens.now - c.args.left ≡ s.place = (let e = s.left_is in omega arith) in
    let P : List Token → Type 0 = λ ks. IsFront ks in
    subst P (sym (front_at c.args.tokens.now c.split_at.result.0.now (length c.args.tokens.now - c.args.left) s.place c.split_at.ensures.front p))
    (stuck_front (tokens_seen c.args.tokens.now) s.place c.requires.label s.stuck s.short)

pub returns-in-Some-clause-named : goal.returns-in-Some-clause-named
returns-in-Some-clause-named c =
    let ls = c.args.tokens.now in
    let ks = tokens_seen ls in
    let n = length ls - c.args.left in
    let front = tokens_seen c.split_at.result.0.now in
    let behind = tokens_seen c.in-Some.behind.now in
    let t = token_seen c.in-Some.token in
    ok_as c.named.result (λ x. IsNamed front t behind x) (λ x. (place : ℕ) → place + c.args.left ≡ length ls → IsNamedAt ks place x)
    (λ x h place e.
    let p : n ≡ place = omega arith in
    named_at ks front t behind place x (front_at ls c.split_at.result.0.now n place c.split_at.ensures.front p) (sym c.in-Some.ensures.seen ∙
    rest_at ls c.split_at.result.1.now n place c.split_at.ensures.back p) h)
    c.named.ensures

pub returns-in-Some-clause-only : goal.returns-in-Some-clause-only
returns-in-Some-clause-only c =
    let ls = c.args.tokens.now in
    let ks = tokens_seen ls in
    let n = length ls - c.args.left in
    let front = tokens_seen c.split_at.result.0.now in
    let behind = tokens_seen c.in-Some.behind.now in
    let t = token_seen c.in-Some.token in
    ok_as c.named.result (λ x. IsNamed front t behind x) (λ x. (place : ℕ) → place + c.args.left ≡ length ls → (other : Option Construct) → IsNamedAt ks place other → other ≡ x)
    (λ x h place e other i.
    let p : n ≡ place = omega arith in
    named_once front t behind x other h
    (at_named ks front t behind place other (front_at ls c.split_at.result.0.now n place c.split_at.ensures.front p) (sym c.in-Some.ensures.seen ∙
    rest_at ls c.split_at.result.1.now n place c.split_at.ensures.back p) i))
    c.named.ensures
