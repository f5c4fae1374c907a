use Rattle.std.proofs.Common.{◌≡◌, take}
use Rattle.mj_recorded.specs.Traces.{entries_of}
use Rattle.mj_report.proofs.traces.entries.Given as goal

-- those of the starts up to here
abbrev pub invariant-starts : goal.invariant-starts
invariant-starts l = l.entries.items ≡ entries_of (take l.start-index l.starts)
