use Rattle.std.proofs.Common.{ℕ, ◌≤◌, Some, Ok, subst}
use Rattle.mj_jobs.specs.Rows.{rows_limit}
use Rattle.mj_steps.specs.declared.step.Step.{Step}
use Rattle.mj_core.specs.declared.seen.Seen.{Seen}
use Rattle.mj_core.specs.Recorded.{RecordStepGives}
use Rattle.mj_retrace.proofs.Stepped.{going_on, event_run}
use Rattle.mj_retrace.proofs.doing.told_there.Goals as goal

pub loop-preserved : goal.loop-preserved
loop-preserved g c =
    let step : Step = record { job = c.args.job; way = c.way_of.result } in
    let few = subst (λ (n : ℕ). n ≤ rows_limit) c.jobs-jobs.ensures.value c.jobs-jobs.ensures.bound in
    let P : Seen → Type 0 = λ w. RecordStepGives g.O.Opening.opening c.loop.core step (Some c.args.reply.now) (Ok w) c.step_with.new.self in
    going_on g.O.Opening.opening c.args.core.now c.loop.core c.step_with.new.self step (Some c.args.reply.now) c.loop.counter few c.loop-test.true
    c.loop.invariant (subst P c.in-Ran.is c.in-Ok.ensures)

pub returns-in-Event : goal.returns-in-Event
returns-in-Event g c =
    let step : Step = record { job = c.args.job; way = c.way_of.result } in
    let few = subst (λ (n : ℕ). n ≤ rows_limit) c.jobs-jobs.ensures.value c.jobs-jobs.ensures.bound in
    let P : Seen → Type 0 = λ w. RecordStepGives g.O.Opening.opening c.loop.core step (Some c.args.reply.now) (Ok w) c.step_with.new.self in
    event_run g.O.Opening.opening c.args.core.now c.loop.core c.step_with.new.self step (Some c.args.reply.now) c.args.ask.now c.in-Event.place c.loop.counter few
    c.loop.invariant (subst P c.in-Event.is c.in-Ok.ensures) c.len-made.ensures.run c.reply_at.result c.reply_at.ensures
