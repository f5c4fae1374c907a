use Rattle.std.proofs.Common.{◌<◌, length, ◌∙◌, arith}
use Rattle.mj_frames.proofs.Innermost.{dropped_one}
use Rattle.mj_frames.proofs.frames.Frames.truncate.Goals as goal

pub loop-self-preserved : goal.loop-self-preserved
loop-self-preserved c =
    let above : c.args.depth < length c.loop-self.self = omega arith in
    dropped_one c.args.depth c.loop-self.self c.pop.new.self _ above c.pop.ensures ∙ c.loop-self.invariant
