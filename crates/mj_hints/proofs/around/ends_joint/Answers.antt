use Rattle.std.proofs.Common.{◌∙◌}
use Rattle.mj_hints.proofs.Bytes.{opens_last, joins_last}
use Rattle.mj_hints.proofs.around.ends_joint.Goals as goal

pub returns-then-byte-eq40 : goal.returns-then-byte-eq40
returns-then-byte-eq40 c = opens_last c.args.before.now c.in-Some.field-0-1.now c.in-Some.byte.now c.in-Some.ensures.cases.0 c.if-byte-eq40.true

pub returns-else-byte-eq40 : goal.returns-else-byte-eq40
returns-else-byte-eq40 c = c.joins.ensures ∙ joins_last c.args.before.now c.in-Some.field-0-1.now c.in-Some.byte.now c.in-Some.ensures.cases.0 c.if-byte-eq40.false
