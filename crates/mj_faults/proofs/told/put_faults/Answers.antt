use Rattle.std.proofs.Common.{arith}
use Rattle.mj_faulted.specs.Sources.{sources_of}
use Rattle.mj_faults.proofs.Entries.{adds_more, adds_all}
use Rattle.mj_faults.proofs.told.put_faults.Goals as goal

pub events-preserved : goal.events-preserved
events-preserved g c =
    adds_more c.args.image.now (sources_of c.args.sources.now) c.args.starts.now (g.H.Events.history c.args.told.now) c.events.at c.args.bytes.now.items
    c.events.bytes.items c.put_event.new.bytes.items c.events.invariant c.in_ok-put_event.ensures

pub returns : goal.returns
returns g c =
    adds_all c.args.image.now (sources_of c.args.sources.now) c.args.starts.now (g.H.Events.history c.args.told.now) c.events.at c.args.bytes.now.items
    c.events.bytes.items (omega (arith, c.events.auto.at-end, c.events-test.false, c.count-at-end.ensures)) c.events.invariant
