use Rattle.std.proofs.Common.{take}
use Rattle.mj_txlog.specs.Follows.{AreFollowing}
use Rattle.mj_txlog.specs.Laid.{IsLaid}
use Rattle.mj_txlog.specs.Skips.{AreSkips}
use Rattle.mj_txlog.proofs.follows.follow_over.Given as goal

-- the reads so far are so, the writes so far lie over the globals, and what was passed over is so
abbrev pub invariant-loop-i : goal.invariant-loop-i
invariant-loop-i l = AreFollowing l.globals (take l.i l.entries) (take l.i l.stamps) × IsLaid l.own (take l.i l.entries) × AreSkips l.globals.content l.own.gone l.skips
