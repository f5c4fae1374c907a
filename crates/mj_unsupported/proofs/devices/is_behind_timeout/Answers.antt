use Rattle.std.proofs.Common.{inl}
use Rattle.mj_ast.specs.declared.keyword.Keyword.TheVariants as keyword
use Rattle.mj_ast.specs.LeftOut.{EndsInCommand, IsBehindColons}
use Rattle.mj_lex.specs.Seen.{tokens_seen}
use Rattle.mj_unsupported.proofs.Says.{ok_or, when_so}
use Rattle.mj_unsupported.proofs.devices.is_behind_timeout.Goals as goal

pub returns-then-branch : goal.returns-then-branch
returns-then-branch c = inl (when_so c.in_ok-is_behind_colons.field-0 (IsBehindColons (tokens_seen c.args.front.now)) c.if-branch.true c.in_ok-is_behind_colons.ensures)

pub returns : goal.returns
returns c =
    let front = tokens_seen c.args.front.now in
    ok_or c.ends_in_command.result c.in_ok-is_behind_colons.field-0 (IsBehindColons front) (EndsInCommand keyword.Open front) c.if-branch.false
    c.in_ok-is_behind_colons.ensures c.ends_in_command.ensures
