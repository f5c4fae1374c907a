use Rattle.std.proofs.Common.{inl}
use Rattle.mj_ast.specs.declared.keyword.Keyword.TheVariants as keyword
use Rattle.mj_ast.specs.LeftOut.{EndsInCommand}
use Rattle.mj_lex.specs.Seen.{tokens_seen}
use Rattle.mj_unsupported.proofs.Says.{ok_or, when_so}
use Rattle.mj_unsupported.proofs.devices.is_behind_device.Goals as goal

pub returns-then-branch : goal.returns-then-branch
returns-then-branch c = inl (when_so c.in_ok-ends_in_command.field-0 (EndsInCommand keyword.Use (tokens_seen c.args.front.now)) c.if-branch.true c.in_ok-ends_in_command.ensures)

pub returns : goal.returns
returns c =
    let front = tokens_seen c.args.front.now in
    ok_or c.ends_in_command-2.result c.in_ok-ends_in_command.field-0 (EndsInCommand keyword.Use front) (EndsInCommand keyword.Close front) c.if-branch.false
    c.in_ok-ends_in_command.ensures c.ends_in_command-2.ensures
