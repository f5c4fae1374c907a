use Rattle.std.proofs.Common.{None, drop, take, arith}
use Rattle.std.specs.Prelude.{option_map}
use Rattle.mj_inspect.specs.Own.{seen_behind}
use Rattle.mj_inspect.proofs.Walked.{own_goes, own_ends}
use Rattle.mj_inspect.proofs.own.seen_from.Goals as goal

pub loop-at-preserved : goal.loop-at-preserved
loop-at-preserved g c =
    let committed = c.args.globals.now.content in
    let job = c.args.job in
    let h = c.args.core.now.history in
    let whole = seen_behind committed job None (drop c.args.first (take c.args.place h)) in
    own_goes committed job (option_map (λ globals. globals.content) c.loop-at.own) (option_map (λ globals. globals.content) c.in_ok-own.own) whole h c.args.place c.loop-at.at
    c.loop-at-test.true c.loop-at.invariant c.in_ok-own.ensures

pub returns : goal.returns
returns g c =
    let committed = c.args.globals.now.content in
    let job = c.args.job in
    let h = c.args.core.now.history in
    let whole = seen_behind committed job None (drop c.args.first (take c.args.place h)) in
    own_ends committed job (option_map (λ globals. globals.content) c.loop-at.own) whole h c.args.place c.loop-at.at (omega (arith, c.loop-at-test.false)) c.loop-at.invariant
