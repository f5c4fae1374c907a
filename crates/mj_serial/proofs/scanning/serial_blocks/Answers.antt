use Rattle.mj_serial.proofs.Shown.{of_nothing}
use Rattle.mj_serial.proofs.scanning.serial_blocks.Goals as goal

pub returns-in-Ok : goal.returns-in-Ok
returns-in-Ok c =
    of_nothing c.scan-scanned.new.done.items c.new-done.result.items c.new-table.result.items c.args.history.now c.new-done.ensures.items c.new-table.ensures.items c.in-Ok.ensures
