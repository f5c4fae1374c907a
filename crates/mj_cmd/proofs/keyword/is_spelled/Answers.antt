use Rattle.mj_cmd.proofs.Words.{spelled}
use Rattle.mj_cmd.proofs.keyword.is_spelled.Goals as goal

pub returns : goal.returns
returns c = spelled c.args.word.now c.args.spelling.now c.eq_ignore_ascii_case.result c.requires c.eq_ignore_ascii_case.ensures.test
