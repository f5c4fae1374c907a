use Rattle.std.proofs.Common.{length}
use Rattle.mj_faulted.proofs.places.+last_label.Given as goal

abbrev pub decreases-last_label : goal.decreases-last_label
decreases-last_label l = length l.lines.now
