use Rattle.std.specs.Borrow.{Bor}
use Rattle.std.proofs.Common.{List}
use Rattle.mj_frames.specs.declared.frame.Frame.{Frame}
use Rattle.mj_frames.specs.Frames.{frames_of}
use Rattle.mj_replica.specs.Views.{view_of}
use Rattle.mj_debug.specs.Walks.{front}
use Rattle.mj_debug.proofs.Showing.{frames_some}
use Rattle.mj_debug.proofs.debugger.Debugger+D+Sessions+D+O.frames.Goals as goal

pub returns-in-Ok-clause-some : goal.returns-in-Ok-clause-some
returns-in-Ok-clause-some g c =
    let now = c.args.self.now in
    frames_some now.core.image g.O.Opening.opening (front now) c.in-Ok.view.now c.in-Ok.ensures.view c.args.job (λ (b : Bor (List Frame)). frames_of b.now) c.frames.result c.frames.ensures

pub returns-in-Err-clause-some : goal.returns-in-Err-clause-some
returns-in-Err-clause-some g c =
    let now = c.args.self.now in
    let opening = g.O.Opening.opening in
    frames_some now.core.image opening (front now) (view_of opening c.in-Err.replica.now) c.in-Err.ensures.replica c.args.job (λ (b : Bor (List Frame)). frames_of b.now) c.job_frames.result
    c.job_frames.ensures
