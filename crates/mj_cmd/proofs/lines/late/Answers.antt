use Rattle.std.proofs.Common.{◌+◌, List, length, refl, arith}
use Rattle.mj_lex.specs.declared.token.Lexeme.{Lexeme}
use Rattle.mj_lex.specs.Seen.{tokens_seen}
use Rattle.mj_expr.specs.Machine.{Limits}
use Rattle.mj_expr.specs.declared.stop.ParseError.TheVariants as stop
use Rattle.mj_cmd.proofs.Said.{short_accept, found}
use Rattle.mj_cmd.proofs.lines.late.Goals as goal

-- more levels than there are tokens
abbrev free : List Lexeme → Limits
free ls = record { depth = length ls + 2; width = 31 }

pub returns-in_default : goal.returns-in_default
returns-in_default c =
    let h = c.in_default.ensures (free c.args.tokens.now) (refl, omega arith) in
    short_accept (free c.args.tokens.now) (tokens_seen c.args.tokens.now) h.0 (omega arith) refl h.2

pub returns-in-Long : goal.returns-in-Long
returns-in-Long c = found (free c.args.tokens.now) (tokens_seen c.args.tokens.now) c.in-Err.stop stop.Long (omega arith) refl c.in-Long.is
    (c.in-Err.ensures (free c.args.tokens.now) (refl, omega arith))

pub returns-in-Stuck : goal.returns-in-Stuck
returns-in-Stuck c = found (free c.args.tokens.now) (tokens_seen c.args.tokens.now) c.in-Err.stop (stop.Stuck c.in-Stuck.field-0) (omega arith) refl
    c.in-Stuck.is (c.in-Err.ensures (free c.args.tokens.now) (refl, omega arith))

pub returns-in-Deep : goal.returns-in-Deep
returns-in-Deep c = found (free c.args.tokens.now) (tokens_seen c.args.tokens.now) c.in-Err.stop (stop.Deep c.in-Deep.field-0) (omega arith) refl c.in-Deep.is
    (c.in-Err.ensures (free c.args.tokens.now) (refl, omega arith))
