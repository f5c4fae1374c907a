use Rattle.std.proofs.Common.{◌≡◌, ◌++◌, drop}
use Rattle.std.specs.List.{list_all}
use Rattle.mj_trace.specs.Trace.{event_lines}
use Rattle.mj_trace.specs.Sized.{event_fits}
use Rattle.mj_trace.proofs.trace.put_events.Given as goal

abbrev pub invariant-loop-event : goal.invariant-loop-event
invariant-loop-event l = record {
  all : l.bytes.items ++ event_lines l.form (drop l.event-index l.events) ≡ l.initial.bytes.items ++ event_lines l.form l.events;
  fits : list_all event_fits (drop l.event-index l.events) ≡ list_all event_fits l.events;
}
