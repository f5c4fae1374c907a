use Rattle.std.proofs.Common.{refl}
use Rattle.mj_globs.proofs.Lists.{rises_itself}
use Rattle.mj_globs.proofs.all.take_all.Goals as goal

pub loop-change-init : goal.loop-change-init
loop-change-init c = record { content = refl; stamps = rises_itself c.args.globals.now; others = λ n e. refl }
