use Rattle.std.proofs.Common.{◌≡◌, ℕ, take, subst, arith}
use Rattle.mj_core.specs.Runs.{start_in}
use Rattle.mj_inspect.specs.Specials.{IsNowhere}
use Rattle.mj_inspect.specs.Waits.{started_in}
use Rattle.mj_inspect.proofs.Started.{is_started, nowhere_first, nowhere_next}
use Rattle.mj_inspect.proofs.specials.later_start.Goals as goal

pub loop-at-init : goal.loop-at-init
loop-at-init g c = nowhere_first c.args.number c.args.core.now.history

pub loop-at-preserved : goal.loop-at-preserved
loop-at-preserved g c = nowhere_next c.args.number c.args.core.now.history c.loop-at.at c.loop-at.invariant c.in-None.ensures.none

pub returns-in-Some-clause-some : goal.returns-in-Some-clause-some
returns-in-Some-clause-some g c =
    is_started c.args.core.now.history c.args.place c.loop-at.at (start_in c.args.number c.in-Some.start.now) c.loop-at-test.true c.in-Some.ensures.some

pub returns-clause-none : goal.returns-clause-none
returns-clause-none g c =
    let all : c.loop-at.at ≡ c.args.place = omega (arith, c.loop-at.auto.at-end, c.loop-at-test.false) in
    let P : ℕ → Type 0 = λ at. IsNowhere c.args.number (started_in (take at c.args.core.now.history)) in
    subst P all c.loop-at.invariant
