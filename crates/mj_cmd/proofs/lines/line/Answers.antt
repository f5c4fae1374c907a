use Rattle.std.proofs.Common.{refl}
use Rattle.mj_ast.specs.Trees.{line_of}
use Rattle.mj_expr.specs.Reads.{limits}
use Rattle.mj_lex.specs.Seen.{tokens_seen}
use Rattle.mj_expr.specs.declared.stop.ParseError.TheVariants as stop
use Rattle.mj_cmd.proofs.Said.{read_as, refused_as}
use Rattle.mj_cmd.proofs.lines.line.Goals as goal

pub returns-in-Ok-clause-read : goal.returns-in-Ok-clause-read
returns-in-Ok-clause-read c =
    let h = c.in-Ok.ensures (limits 64) refl in
    read_as (tokens_seen c.args.tokens.now) h.0 (line_of c.in-Ok.line) (h.1 refl) h.2

pub returns-in-None-clause-refused : goal.returns-in-None-clause-refused
returns-in-None-clause-refused c = refused_as (tokens_seen c.args.tokens.now) c.in-Err.stop (stop.Deep c.in-Deep.left) c.in-Deep.is c.in-None.ensures (c.in-Err.ensures (limits 64) refl)

pub returns-in-Stuck-clause-refused : goal.returns-in-Stuck-clause-refused
returns-in-Stuck-clause-refused c = refused_as (tokens_seen c.args.tokens.now) c.in-Err.stop (stop.Stuck c.in-Stuck.left) c.in-Stuck.is tt (c.in-Err.ensures (limits 64) refl)

pub returns-in-Long-clause-refused : goal.returns-in-Long-clause-refused
returns-in-Long-clause-refused c = refused_as (tokens_seen c.args.tokens.now) c.in-Err.stop stop.Long c.in-Long.is tt (c.in-Err.ensures (limits 64) refl)
