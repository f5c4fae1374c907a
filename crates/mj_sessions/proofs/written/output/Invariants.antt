use Rattle.std.proofs.Common.{◌≡◌, ◌++◌, drop}
use Rattle.mj_sessions.specs.Events.{talk_on}
use Rattle.mj_sessions.specs.Follow.{output_on, output_of_log}
use Rattle.mj_sessions.proofs.written.output.Given as goal

abbrev pub invariant-loop-entry : goal.invariant-loop-entry
invariant-loop-entry l = record {
  so_far : l.bytes.items ++ output_on l.left (talk_on l.name (drop l.entry-index l.log)) ≡ output_of_log l.log l.name l.session;
}
