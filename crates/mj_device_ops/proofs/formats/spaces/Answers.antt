use Rattle.std.proofs.Common.{sym, ◌∙◌, arith}
use Rattle.mj_device_ops.proofs.Talking.{marks_lead}
use Rattle.mj_device_ops.proofs.formats.spaces.Goals as goal

pub returns-else-is_empty : goal.returns-else-is_empty
returns-else-is_empty c =
    let lead = marks_lead c.args.from c.args.marks.now (sym c.is_empty.ensures ∙ c.if-is_empty.false) in
    omega (arith, lead, c.place-to.ensures)
