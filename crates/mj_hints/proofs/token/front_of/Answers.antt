use Rattle.std.proofs.Common.{arith}
use Rattle.mj_hints.proofs.Tokens.{front_one, front_two}
use Rattle.mj_hints.proofs.token.front_of.Goals as goal

pub returns-in-len1 : goal.returns-in-len1
returns-in-len1 c = front_one c.args.bytes.now c.args.lexemes.now _ (omega arith)

pub returns-in-len2-up : goal.returns-in-len2-up
returns-in-len2-up c = front_two c.args.bytes.now c.up_to.result.now c.args.lexemes.now _ (omega arith) c.up_to.ensures
