use Rattle.mj_remade.proofs.Keeping.{put_behind}
use Rattle.std.proofs.Common.{refl}
use Rattle.mj_remade.proofs.branches.remade.Goals as goal

pub returns-clause-same : goal.returns-clause-same
returns-clause-same g c = c.has_events-same.ensures.same

pub returns-clause-other : goal.returns-clause-other
returns-clause-other g c = c.has_events-same.ensures.other

pub returns-clause-marks : goal.returns-clause-marks
returns-clause-marks g c =
    let mid = c.make_steps.new.debugger in
    let new = c.put_all.new.debugger in
    put_behind mid.core new.core c.args.debugger.now.marks mid.marks new.marks c.args.marks.now c.args.marks.now
    c.put_all.ensures.core c.make_steps.ensures refl c.in_ok-put_all.ensures.marks
