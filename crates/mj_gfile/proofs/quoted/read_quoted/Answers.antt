-- One byte more is read.
use Rattle.mj_gfile.proofs.Joined.{byte_unit}
use Rattle.mj_gfile.proofs.quoted.read_quoted.Goals as goal

pub loop-unit-preserved : goal.loop-unit-preserved
loop-unit-preserved c =
    byte_unit c.loop-unit.text.items c.loop-unit.rest.now _ c.loop-unit.invariant c.in-Some-unit.byte c.in-Some.behind.now c.push.new.self.items (rw c.in-Some-unit.is at c.in-Some.ensures)
    c.in_ok-push.ensures.items
