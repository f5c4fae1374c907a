use Rattle.std.proofs.Common.{Bool, sym, subst}
use Rattle.mj_guide.specs.Marks.{Marks}
use Rattle.mj_guide.proofs.responding.mark.Goals as goal

pub returns-then-on : goal.returns-then-on
returns-then-on g c =
    let P : Bool → Type 0 = λ on. Marks on c.args.debugger.now c.args.routine.now c.args.line c.set.new.self in
    subst P (sym c.if-on.true) (c.in_ok-set.ensures.ok, c.set.ensures.rest)

pub returns : goal.returns
returns g c =
    let P : Bool → Type 0 = λ on. Marks on c.args.debugger.now c.args.routine.now c.args.line c.clear.new.self in
    subst P (sym c.if-on.false) (c.in_ok-clear.ensures.ok, c.clear.ensures.rest)
