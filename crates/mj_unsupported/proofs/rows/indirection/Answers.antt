use Rattle.std.proofs.Common.{◌∙◌, sym}
use Rattle.mj_ast.specs.LeftOut.{MayBeginName, is_at}
use Rattle.mj_lex.specs.Seen.{token_seen, tokens_seen}
use Rattle.mj_unsupported.proofs.Says.{ok_both}
use Rattle.mj_unsupported.proofs.rows.indirection.Goals as goal

pub returns : goal.returns
returns c =
    ok_both c.may_begin_name.result (is_at (token_seen c.args.token)) (MayBeginName (tokens_seen c.args.front.now)) (sym c.is_at.ensures ∙ c.if-not-is_at.false) c.may_begin_name.ensures
