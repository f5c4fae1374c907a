use Rattle.std.proofs.Common.{◌≡◌, Some}
use Rattle.mj_ast.specs.LeftOut.{EndsInCommand}
use Rattle.mj_lex.specs.Seen.{tokens_seen}
use Rattle.mj_unsupported.proofs.Says.{says_for}
use Rattle.mj_unsupported.proofs.devices.ends_in_command.Goals as goal

pub returns : goal.returns
returns c =
    let h = c.in_ok-last.ensures in
    says_for c.is_keyword.result (c.in_ok-last.last ≡ Some c.args.keyword) (EndsInCommand c.args.keyword (tokens_seen c.args.tokens.now))
    (h.found c.args.keyword) (h.only c.args.keyword) c.is_keyword.ensures
