use Rattle.std.proofs.Common.{arith}
use Rattle.mj_begin.proofs.Names.{after, all_after}
use Rattle.mj_begin.proofs.files.file_name.Goals as goal

pub returns-in-Some : goal.returns-in-Some
returns-in-Some c = after 47 (omega arith) c.args.path.now _ _ c.in-Some.ensures.cases

pub returns-in-None : goal.returns-in-None
returns-in-None c = all_after 47 (omega arith) c.args.path.now c.in-None.ensures.cases
