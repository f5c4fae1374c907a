use Rattle.std.proofs.Common.{◌≡◌, true, eqb, eqb-true}
use Rattle.mj_judge.specs.Judged.{by_memory}
use Rattle.mj_explore.proofs.Holding.{waits_still, ended_still}
use Rattle.mj_explore.proofs.waiting.waits.Goals as goal

pub returns-in-Ok-Waits : goal.returns-in-Ok-Waits
returns-in-Ok-Waits g c =
    let rows = c.jobs-rows in
    let step = c.in-Ok-Waits in
    let still = waits_still by_memory g.O.Opening.opening c.jobs.inside.core c.args.jobs.now c.step.new.self c.args.job rows.result c.jobs.view_is
    c.len-events.ensures.stands rows.ensures.value rows.ensures.bound step.field-0 step.field-0-is step.ensures in
    record { held = λ is. still.0; history = λ is. still.1; image = λ is. still.2 }

pub returns-in-Ok-Ended : goal.returns-in-Ok-Ended
returns-in-Ok-Ended g c =
    let rows = c.jobs-rows in
    let step = c.in-Ok-Ended in
    let events = c.len-events in
    let later = c.len in
    let still = λ (is : eqb later.result events.result ≡ true).
    ended_still by_memory g.O.Opening.opening c.jobs.inside.core c.args.jobs.now c.step.new.self c.args.job rows.result c.jobs.view_is events.ensures.stands
    rows.ensures.value rows.ensures.bound step.field-0 c.jobs-2.inside.core events.result later.result step.field-0-is step.ensures c.jobs-2.view_is
    events.ensures.value later.ensures.value (eqb-true later.result events.result is) in
    record { held = λ is. (still is).0; history = λ is. (still is).1; image = λ is. (still is).2 }
