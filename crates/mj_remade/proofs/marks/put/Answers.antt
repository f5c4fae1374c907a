use Rattle.std.proofs.Common.{Bool, sym, subst}
use Rattle.std.specs.Prelude.{OnOk}
use Rattle.mj_debug.specs.Breaks.{AreMarked}
use Rattle.mj_remade.specs.Marks.{spot_of}
use Rattle.mj_remade.proofs.marks.put.Goals as goal

pub returns-then-mark-clause-marks : goal.returns-then-mark-clause-marks
returns-then-mark-clause-marks g c =
    let old = c.args.debugger.now in
    let P : Bool → Type 0 = λ on. OnOk c.set.result (AreMarked old.core.image (spot_of c.args.mark.now) on old.marks c.set.new.self.marks) in
    subst P (sym c.if-mark.true) c.set.ensures.ok

pub returns-else-mark-clause-marks : goal.returns-else-mark-clause-marks
returns-else-mark-clause-marks g c =
    let old = c.args.debugger.now in
    let P : Bool → Type 0 = λ on. OnOk c.clear.result (AreMarked old.core.image (spot_of c.args.mark.now) on old.marks c.clear.new.self.marks) in
    subst P (sym c.if-mark.false) c.clear.ensures.ok
