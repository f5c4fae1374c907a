-- What is read is spelled so, and what is spelled is read.
use Rattle.std.proofs.Common.{arith}
use Rattle.mj_trace.specs.Laws.Spelled.{says_it, says_few}
use Rattle.mj_trace.specs.Laws.Refused.{refuses_it}
use Rattle.mj_trace.specs.Laws.Whole.{reads_it, reads_all}
use Rattle.mj_trace.proofs.read.read_trace.Goals as goal

pub returns-clause-spelled : goal.returns-clause-spelled
returns-clause-spelled c = says_it c.args.events (let fits = c.ranges.events in omega (arith, fits)) c.args.bytes.now c.read.result c.read.ensures.ok

pub returns-clause-few : goal.returns-clause-few
returns-clause-few c = says_few c.args.events (let fits = c.ranges.events in omega (arith, fits)) c.args.bytes.now c.read.result c.read.ensures.ok

pub returns-clause-same : goal.returns-clause-same
returns-clause-same c = reads_it c.args.events c.args.bytes.now c.read.result c.read.ensures.ok

pub returns-clause-all : goal.returns-clause-all
returns-clause-all c = reads_all c.args.events c.args.bytes.now c.read.result c.read.ensures.err

pub returns-clause-refused : goal.returns-clause-refused
returns-clause-refused c = refuses_it c.args.events (let fits = c.ranges.events in omega (arith, fits)) c.args.bytes.now c.read.result c.read.ensures.err
