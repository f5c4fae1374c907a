use Rattle.std.proofs.Common.{◌≡◌, true, inl}
use Rattle.mj_ast.specs.LeftOut.{IsBehindTimeout, MayBeginOutput, is_colon, is_slash}
use Rattle.mj_lex.specs.Seen.{token_seen, tokens_seen}
use Rattle.mj_unsupported.proofs.Says.{ok_or, when_so}
use Rattle.mj_unsupported.proofs.rows.mnemonic_space.Goals as goal

pub returns-then-branch : goal.returns-then-branch
returns-then-branch c = inl (when_so c.in_ok-third_colon.field-0 ((is_colon (token_seen c.args.token) ≡ true) ×
    IsBehindTimeout (tokens_seen c.args.front.now)) c.if-branch.true c.in_ok-third_colon.ensures)

pub returns : goal.returns
returns c =
    let front = tokens_seen c.args.front.now in
    let t = token_seen c.args.token in
    ok_or c.output_space.result c.in_ok-third_colon.field-0 ((is_colon t ≡ true) × IsBehindTimeout front) ((is_slash t ≡ true) ×
    MayBeginOutput front) c.if-branch.false c.in_ok-third_colon.ensures c.output_space.ensures
