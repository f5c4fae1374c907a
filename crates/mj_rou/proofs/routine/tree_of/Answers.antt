use Rattle.std.proofs.Common.{sym, subst, List, arith}
use Rattle.std.proofs.lemmas.List.{length-map}
use Rattle.mj_ast.specs.Tokens.{Token}
use Rattle.mj_ast.specs.Trees.{line_of}
use Rattle.mj_expr.specs.declared.stop.ParseError.{ParseError}
use Rattle.mj_lex.specs.Seen.{token_seen, tokens_seen}
use Rattle.mj_cmd.specs.Heads.{IsLabelShort}
use Rattle.mj_cmd.specs.Said.{RefusalSays}
use Rattle.mj_rou.proofs.Columns.{seen_tokens, label_short}
use Rattle.mj_rou.proofs.Routines.{line_read, line_deep, line_long}
use Rattle.mj_rou.proofs.routine.tree_of.Goals as goal

pub line-requires : goal.line-requires
line-requires c =
    let P : List Token → Type 0 = λ ks. IsLabelShort ks in
    subst P (sym (seen_tokens c.args.lexemes.now c.args.line.now c.requires.placed)) (label_short c.args.line.now c.requires.short)

pub returns-in-Ok-clause-read : goal.returns-in-Ok-clause-read
returns-in-Ok-clause-read c =
    line_read c.args.line.now (tokens_seen c.args.lexemes.now) (line_of c.in-Ok.tree) (seen_tokens c.args.lexemes.now c.args.line.now c.requires.placed) c.requires.short c.in-Ok.ensures.read

pub returns-in-Deep-clause-refused : goal.returns-in-Deep-clause-refused
returns-in-Deep-clause-refused c =
    let P : ParseError → Type 0 = λ e. RefusalSays (tokens_seen c.args.lexemes.now) e in
    line_deep c.args.line.now (tokens_seen c.args.lexemes.now) c.in-Deep.left c.column.result (seen_tokens c.args.lexemes.now c.args.line.now c.requires.placed) c.requires.short
    (subst P c.in-Deep.is c.in-Err.ensures.refused)
    (λ place e. c.column.ensures place (omega (arith, e, length-map c.args.lexemes.now (λ l. token_seen l.token))))

pub returns-in-Long-clause-refused : goal.returns-in-Long-clause-refused
returns-in-Long-clause-refused c =
    let P : ParseError → Type 0 = λ e. RefusalSays (tokens_seen c.args.lexemes.now) e in
    line_long c.args.line.now (tokens_seen c.args.lexemes.now) (seen_tokens c.args.lexemes.now c.args.line.now c.requires.placed) (subst P c.in-Long.is c.in-Err.ensures.refused)
