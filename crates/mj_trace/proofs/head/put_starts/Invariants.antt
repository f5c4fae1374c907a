use Rattle.std.proofs.Common.{◌≡◌, ◌++◌, drop}
use Rattle.mj_gfile.specs.Begins.{HasFront}
use Rattle.mj_trace.specs.Trace.{start_lines}
use Rattle.mj_trace.proofs.head.put_starts.Given as goal

abbrev pub invariant-loop-start : goal.invariant-loop-start
invariant-loop-start l = record {
  all : l.bytes.items ++ start_lines (drop l.start-index l.starts) ≡ l.initial.bytes.items ++ start_lines l.starts;
  kept : HasFront l.fn.bytes.items l.bytes.items;
}
