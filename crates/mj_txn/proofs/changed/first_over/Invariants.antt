use Rattle.std.proofs.Common.{[], take}
use Rattle.mj_txlog.specs.Laid.{IsLaid}
use Rattle.mj_txlog.specs.Skips.{AreSkips}
use Rattle.mj_txn.specs.Commits.{Hold}
use Rattle.mj_txn.proofs.changed.first_over.Given as goal

-- the reads so far hold, the writes so far lie over the globals, and what was passed over is so
abbrev pub invariant-loop-i : goal.invariant-loop-i
invariant-loop-i l = Hold l.globals.content [] (take l.i l.entries) × IsLaid l.own (take l.i l.entries) × AreSkips l.globals.content l.own.gone l.skips
