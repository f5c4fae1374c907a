use Rattle.std.proofs.Common.{◌≡◌, true, inl}
use Rattle.mj_ast.specs.declared.keyword.Keyword.TheVariants as keyword
use Rattle.mj_ast.specs.LeftOut.{IsBehindColon, IsBehindDevice, is_colon}
use Rattle.mj_lex.specs.Seen.{token_seen, tokens_seen}
use Rattle.mj_unsupported.proofs.Says.{ok_or, when_so}
use Rattle.mj_unsupported.proofs.rows.device_parameters.Goals as goal

pub returns-then-branch : goal.returns-then-branch
returns-then-branch c = inl (when_so c.in_ok-second_parameters.field-0 ((is_colon (token_seen c.args.token) ≡ true) ×
    IsBehindDevice (tokens_seen c.args.front.now)) c.if-branch.true c.in_ok-second_parameters.ensures)

pub returns : goal.returns
returns c =
    let front = tokens_seen c.args.front.now in
    ok_or c.is_behind_colon.result c.in_ok-second_parameters.field-0 ((is_colon (token_seen c.args.token) ≡ true) ×
    IsBehindDevice front) (IsBehindColon keyword.Open front) c.if-branch.false c.in_ok-second_parameters.ensures c.is_behind_colon.ensures
