use Rattle.std.specs.Prelude.{option_map}
use Rattle.std.proofs.Common.{Bor, refl, arith}
use Rattle.mj_explore.specs.declared.exploring.Tally.{Tally}
use Rattle.mj_explore.specs.declared.goals.Goal.{Goal}
use Rattle.mj_explore.proofs.Making.{few, more, none, were}
use Rattle.mj_explore.proofs.exploring.explore.Goals as goal

pub runs-init : goal.runs-init
runs-init g c =
    let zero : Tally = record { faulted = 0; stuck = 0; stopped = 0 } in
    none c.args.script.now g.O.Opening.opening c.new-ends.result.items zero c.new-ends.ensures.items refl

pub tallied-tally-requires-clause-faulted : goal.tallied-tally-requires-clause-faulted
tallied-tally-requires-clause-faulted g c =
    let l = c.runs in
    let small = few c.args.script.now g.O.Opening.opening l.done l.ends.items l.tally l.invariant in
    omega (arith, small.faulted)

pub tallied-tally-requires-clause-stuck : goal.tallied-tally-requires-clause-stuck
tallied-tally-requires-clause-stuck g c =
    let l = c.runs in
    let small = few c.args.script.now g.O.Opening.opening l.done l.ends.items l.tally l.invariant in
    omega (arith, small.stuck)

pub tallied-tally-requires-clause-stopped : goal.tallied-tally-requires-clause-stopped
tallied-tally-requires-clause-stopped g c =
    let l = c.runs in
    let small = few c.args.script.now g.O.Opening.opening l.done l.ends.items l.tally l.invariant in
    omega (arith, small.stopped)

pub runs-preserved : goal.runs-preserved
runs-preserved g c =
    let l = c.runs in
    let came = c.in_ok-came.came in
    let wanted = option_map (λ (r : Bor Goal). r.now) c.args.goal in
    more c.args.script.now g.O.Opening.opening wanted came.shown l.done l.ends.items c.run_once.new.ends.items l.tally c.tallied-tally.result came.has_faulted came.fate
    l.invariant c.in_ok-came.ensures.noted
    (record { faults = c.tallied-tally.ensures.faulted; stuck = c.tallied-tally.ensures.stuck; stopped = c.tallied-tally.ensures.stopped })

pub returns-in-Some-clause-counted : goal.returns-in-Some-clause-counted
returns-in-Some-clause-counted g c =
    let l = c.runs in
    let came = c.in_ok-came.came in
    let wanted = option_map (λ (r : Bor Goal). r.now) c.args.goal in
    were c.args.script.now g.O.Opening.opening wanted came.shown c.in-Some.finding l.done l.ends.items c.run_once.new.ends.items l.tally c.tallied-tally.result
    came.has_faulted came.fate c.in-Some.is l.invariant c.in_ok-came.ensures.noted
    (record { faults = c.tallied-tally.ensures.faulted; stuck = c.tallied-tally.ensures.stuck; stopped = c.tallied-tally.ensures.stopped })
