-- The text behind `=` is the value where nothing follows it.
use Rattle.std.proofs.Common.{◌∙◌, sym}
use Rattle.mj_gfile.proofs.Lines.{no_byte, some_byte}
use Rattle.mj_gfile.proofs.Nodes.{value_read, value_followed}
use Rattle.mj_gfile.proofs.line.read_value.Goals as goal

pub returns-then-is_empty : goal.returns-then-is_empty
returns-then-is_empty c =
    value_read c.args.limit c.args.bytes.now c.in-Some.value.now c.in-Some.ensures c.in-Some-2.text c.in-Some-2.rest.now (rw c.in-Some-2.is at c.in_ok-text.ensures)
    (no_byte c.in-Some-2.rest.now (sym c.is_empty.ensures ∙ c.if-is_empty.true))

pub returns-else-is_empty : goal.returns-else-is_empty
returns-else-is_empty c =
    value_followed c.args.limit c.args.bytes.now c.in-Some.value.now c.in-Some.ensures c.in-Some-2.text c.in-Some-2.rest.now (rw c.in-Some-2.is at c.in_ok-text.ensures)
    (some_byte c.in-Some-2.rest.now (sym c.is_empty.ensures ∙ c.if-is_empty.false))
