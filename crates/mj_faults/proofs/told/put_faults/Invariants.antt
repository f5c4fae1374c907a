use Rattle.mj_faulted.specs.Sources.{sources_of}
use Rattle.mj_faults.specs.Told.{AddsFirst}
use Rattle.mj_faults.proofs.told.put_faults.Given as goal

-- what the events up to here tell is put
abbrev pub invariant-events : goal.invariant-events
invariant-events g l = AddsFirst l.image (sources_of l.sources) l.starts (g.H.Events.history l.told) l.at l.initial.bytes.items l.bytes.items
