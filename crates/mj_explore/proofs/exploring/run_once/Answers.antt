use Rattle.std.proofs.Common.{Bor}
use Rattle.std.specs.Prelude.{option_map}
use Rattle.mj_explore.specs.declared.goals.Goal.{Goal}
use Rattle.mj_explore.proofs.Making.{are_made, all_found, is_come}
use Rattle.mj_explore.proofs.exploring.run_once.Goals as goal

pub returns-clause-found : goal.returns-clause-found
returns-clause-found g c =
    let begun = c.in_ok-jobs.ensures in
    let made = c.in_ok-made.made in
    let core = c.step_by_choice.new.jobs in
    let opening = g.O.Opening.opening in
    let script = c.args.script.now in
    let wanted = option_map (λ (r : Bor Goal). r.now) c.args.goal in
    all_found script opening wanted made.steps.items made.ending core c.in_ok-came.came.0
    (are_made script opening made.steps.items made.ending c.in_ok-jobs.jobs core begun.0 begun.1 begun.2 c.in_ok-made.ensures.listed)
    c.in_ok-came.ensures.shown c.in_ok-came.ensures.over

pub returns-clause-noted : goal.returns-clause-noted
returns-clause-noted g c =
    let begun = c.in_ok-jobs.ensures in
    let made = c.in_ok-made.made in
    let core = c.step_by_choice.new.jobs in
    let opening = g.O.Opening.opening in
    let script = c.args.script.now in
    let wanted = option_map (λ (r : Bor Goal). r.now) c.args.goal in
    is_come script opening wanted made.steps.items made.ending core c.in_ok-came.came.0 c.in_ok-came.came.1 c.in_ok-came.came.2 c.args.ends.now.items
    c.told.new.ends.items
    (are_made script opening made.steps.items made.ending c.in_ok-jobs.jobs core begun.0 begun.1 begun.2 c.in_ok-made.ensures.listed)
    c.in_ok-came.ensures.granted c.in_ok-came.ensures.shown c.in_ok-came.ensures.fate c.in_ok-came.ensures.faulted c.in_ok-came.ensures.noted
