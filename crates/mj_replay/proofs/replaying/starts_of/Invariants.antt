use Rattle.std.proofs.Common.{◌≡◌, ◌++◌, map, drop}
use Rattle.mj_replay.specs.Traces.{bare_start}
use Rattle.mj_replay.proofs.replaying.starts_of.Given as goal

-- with those that are left it is the starts of all
abbrev pub invariant-loop-entry : goal.invariant-loop-entry
invariant-loop-entry l = record { left : l.starts.items ++ map bare_start (drop l.entry-index l.entries) ≡ map bare_start l.entries }
