use Rattle.std.proofs.Common.{◌∙◌, ap, sym, List, map}
use Rattle.mj_ast.specs.declared.routine.LineCommand as kept_step
use Rattle.mj_ast.specs.LeftOut.{last_keyword}
use Rattle.mj_ast.specs.Trees.{line_of, step_of}
use Rattle.mj_expr.specs.declared.stop.ParseError.TheVariants as stop
use Rattle.mj_lex.specs.Seen.{tokens_seen}
use Rattle.mj_unsupported.proofs.Fronts.{blank_last, last_said, unread_last}
use Rattle.mj_unsupported.proofs.last.last_command.Goals as goal

pub returns-then-ends_in_blank : goal.returns-then-ends_in_blank
returns-then-ends_in_blank c = blank_last (tokens_seen c.args.tokens.now) (sym c.ends_in_blank.ensures ∙ c.if-ends_in_blank.true)

pub returns-in-Ok : goal.returns-in-Ok
returns-in-Ok c =
    last_said (tokens_seen c.args.tokens.now) (line_of c.in-Ok.line) c.last_keyword.result (c.last_keyword.ensures ∙
    ap (λ (xs : List kept_step.LineCommand). last_keyword (map step_of xs)) c.deref.ensures.value)
    (sym c.ends_in_blank.ensures ∙ c.if-ends_in_blank.false) c.in-Ok.ensures.read

pub returns-in-Stuck : goal.returns-in-Stuck
returns-in-Stuck c = unread_last (tokens_seen c.args.tokens.now) c.in-Err.stop (stop.Stuck c.in-Stuck.field-0) c.requires c.in-Stuck.is tt c.in-Err.ensures.refused

pub returns-in-Deep : goal.returns-in-Deep
returns-in-Deep c = unread_last (tokens_seen c.args.tokens.now) c.in-Err.stop (stop.Deep c.in-Deep.field-0) c.requires c.in-Deep.is tt c.in-Err.ensures.refused

pub returns-in-Long : goal.returns-in-Long
returns-in-Long c = unread_last (tokens_seen c.args.tokens.now) c.in-Err.stop stop.Long c.requires c.in-Long.is tt c.in-Err.ensures.refused
