use Rattle.std.proofs.Common.{◌+◌, ◌-◌, vec_len}
use Rattle.mj_explain.proofs.finding.Lasts.note_asked.Given as goal

abbrev pub decreases-loop-self : goal.decreases-loop-self
decreases-loop-self l = l.row + 1 - vec_len l.self.asked
