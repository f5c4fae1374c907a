use Rattle.std.proofs.Common.{refl}
use Rattle.std.proofs.lemmas.Option.{slice_get_read}
use Rattle.std.specs.Prelude.{length}
use Rattle.mj_serial.proofs.Tables.{scanned_on}
use Rattle.mj_serial.proofs.scanning.scan.Goals as goal

pub loop-place-preserved : goal.loop-place-preserved
loop-place-preserved c =
    scanned_on c.args.history.now c.loop-place.place c.index-history-place.result c.loop-place.table.items c.look.new.table.items
    c.loop-place.done.items c.look.new.done.items _
    (slice_get_read c.args.history.now (length c.args.history.now) c.loop-place.place c.index-history-place.result refl c.loop-place-test.true c.index-history-place.is)
    c.loop-place.invariant c.in_ok-look.ensures
