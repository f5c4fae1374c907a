use Rattle.std.proofs.Common.{◌≡◌, ℕ, ◌++◌, take, drop, length}
use Rattle.std.specs.List.{list_all}
use Rattle.mj_text.specs.declared.limit.Limit.TheVariants.{V2}
use Rattle.mj_sys.specs.History.{log_of}
use Rattle.mj_core.specs.Runs.{places_lent, places_at}
use Rattle.mj_trace.specs.declared.form.Form.TheVariants.{Second}
use Rattle.mj_trace.specs.Trace.{event_lines}
use Rattle.mj_trace.specs.Sized.{event_fits}
use Rattle.mj_recorded.specs.Traces.{noted_of, noted_behind}
use Rattle.mj_report.specs.Traced.{count_in}
use Rattle.mj_report.proofs.traces.put_events.Given as goal

-- those that are left to put, and how many events each job had before them
abbrev pub invariant-events : goal.invariant-events
invariant-events g l = record {
  lines : l.bytes.items
      ++ event_lines (Second V2) (noted_behind (places_at (places_lent l.places)) (take l.at (g.H.Events.history l.told)) (drop l.at (g.H.Events.history l.told)))
      ≡ l.fn.bytes.items ++ event_lines (Second V2) (noted_of (places_at (places_lent l.places)) (g.H.Events.history l.told));
  fits : list_all event_fits (noted_behind (places_at (places_lent l.places)) (take l.at (g.H.Events.history l.told)) (drop l.at (g.H.Events.history l.told)))
      ≡ list_all event_fits (noted_of (places_at (places_lent l.places)) (g.H.Events.history l.told));
  counted : (job : ℕ) → count_in l.counts.items job ≡ length (log_of job (take l.at (g.H.Events.history l.told)));
}
