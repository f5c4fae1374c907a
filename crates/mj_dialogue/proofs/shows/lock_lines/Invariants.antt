use Rattle.std.proofs.Common.{◌≡◌, ◌++◌, drop}
use Rattle.mj_dialogue.specs.Lines.{held_lines}
use Rattle.mj_dialogue.proofs.Showing.{listed}
use Rattle.mj_dialogue.proofs.shows.lock_lines.Given as goal

-- the lines so far, and those of what is left, are all
abbrev pub invariant-loop-job : goal.invariant-loop-job
invariant-loop-job l = held_lines l.fn.locks.holds ≡ l.bytes.items ++ listed (drop l.job-index l.job-items)
