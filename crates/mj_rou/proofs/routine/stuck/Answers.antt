use Rattle.std.proofs.Common.{sym, subst, List, Option, Some, None, arith}
use Rattle.std.proofs.lemmas.List.{length-map}
use Rattle.mj_ast.specs.declared.construct.Construct.{Construct}
use Rattle.mj_ast.specs.LeftOut.{IsNamedAt}
use Rattle.mj_ast.specs.Tokens.{Token}
use Rattle.mj_lex.specs.Seen.{token_seen, tokens_seen}
use Rattle.mj_cmd.specs.Heads.{IsLabelShort}
use Rattle.mj_rou.proofs.Columns.{seen_tokens, label_short}
use Rattle.mj_rou.proofs.Routines.{line_stuck}
use Rattle.mj_rou.proofs.routine.stuck.Goals as goal

pub left_out-requires-clause-label : goal.left_out-requires-clause-label
left_out-requires-clause-label c =
    let P : List Token → Type 0 = λ ks. IsLabelShort ks in
    subst P (sym (seen_tokens c.args.lexemes.now c.args.line.now c.requires.placed)) (label_short c.args.line.now c.requires.short)

pub returns-in-Ok-None : goal.returns-in-Ok-None
returns-in-Ok-None c =
    line_stuck c.args.line.now (tokens_seen c.args.lexemes.now) c.args.left c.column-column.result None
    (seen_tokens c.args.lexemes.now c.args.line.now c.requires.placed) c.requires.short c.requires.stuck
    (λ place e. c.column-column.ensures place (omega (arith, e, length-map c.args.lexemes.now (λ l. token_seen l.token))))
    (λ place e.
    let P : Option Construct → Type 0 = λ x. IsNamedAt (tokens_seen c.args.lexemes.now) place x in
    subst P c.in-Ok-None.field-0-is (c.in-Ok-None.ensures.named place (omega (arith, e, length-map c.args.lexemes.now (λ l. token_seen l.token)))))

pub returns-in-Ok-Some : goal.returns-in-Ok-Some
returns-in-Ok-Some c =
    line_stuck c.args.line.now (tokens_seen c.args.lexemes.now) c.args.left c.column-column.result (Some c.in-Ok-Some.construct)
    (seen_tokens c.args.lexemes.now c.args.line.now c.requires.placed) c.requires.short c.requires.stuck
    (λ place e. c.column-column.ensures place (omega (arith, e, length-map c.args.lexemes.now (λ l. token_seen l.token))))
    (λ place e.
    let P : Option Construct → Type 0 = λ x. IsNamedAt (tokens_seen c.args.lexemes.now) place x in
    subst P c.in-Ok-Some.field-0-is (c.in-Ok-Some.ensures.named place (omega (arith, e, length-map c.args.lexemes.now (λ l. token_seen l.token)))))
