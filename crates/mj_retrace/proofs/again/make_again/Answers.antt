use Rattle.std.proofs.Common.{ℕ, ◌≤◌, Some, Ok, Err, sym, ◌∙◌, subst}
use Rattle.mj_jobs.specs.Rows.{rows_limit}
use Rattle.mj_steps.specs.declared.step.Step.{Step}
use Rattle.mj_core.specs.declared.seen.Seen.{Seen}
use Rattle.mj_core.specs.Recorded.{RecordStepGives}
use Rattle.mj_retrace.proofs.Noting.{true_not}
use Rattle.mj_retrace.proofs.Stepped.{step_image, going_on, going_long, event_made}
use Rattle.mj_retrace.proofs.Unmade.{made_other, made_none, step_refused}
use Rattle.mj_retrace.proofs.again.make_again.Goals as goal

pub loop-preserved : goal.loop-preserved
loop-preserved g c =
    let step : Step = record { job = c.args.job; way = c.way_of.result } in
    let few = subst (λ (n : ℕ). n ≤ rows_limit) c.jobs-jobs.ensures.value c.jobs-jobs.ensures.bound in
    let P : Seen → Type 0 = λ w. RecordStepGives g.O.Opening.opening c.loop.core step (Some c.args.reply.now) (Ok w) c.step_with.new.self in
    going_on g.O.Opening.opening c.args.core.now c.loop.core c.step_with.new.self step (Some c.args.reply.now) c.loop.counter few c.loop-test.true
    c.loop.invariant (subst P c.in-Ran.is c.in-Ok.ensures)

pub returns-in-Event-clause-made : goal.returns-in-Event-clause-made
returns-in-Event-clause-made g c = λ yes.
    let step : Step = record { job = c.args.job; way = c.way_of.result } in
    let few = subst (λ (n : ℕ). n ≤ rows_limit) c.jobs-jobs.ensures.value c.jobs-jobs.ensures.bound in
    let P : Seen → Type 0 = λ w. RecordStepGives g.O.Opening.opening c.loop.core step (Some c.args.reply.now) (Ok w) c.step_with.new.self in
    (event_made g.O.Opening.opening c.args.core.now c.loop.core c.step_with.new.self step (Some c.args.reply.now) c.args.ask.now c.args.reply.now c.in-Event.place c.loop.counter
    few c.loop.invariant (c.is_event.ensures.0 yes) (subst P c.in-Event.is c.in-Ok.ensures)).0

pub returns-in-Event-clause-unmade : goal.returns-in-Event-clause-unmade
returns-in-Event-clause-unmade g c = λ isnt.
    let step : Step = record { job = c.args.job; way = c.way_of.result } in
    made_other g.O.Opening.opening c.args.core.now c.loop.core c.step_with.new.self step c.args.ask.now c.args.reply.now c.loop.counter c.loop.invariant c.way_of.ensures
    c.requires.short c.requires.going c.in-Ok.seen c.in-Event.place c.in-Event.is (λ there. true_not (sym (c.is_event.ensures.1 there) ∙ isnt)) c.in-Ok.ensures

pub returns-in_default : goal.returns-in_default
returns-in_default g c =
    let step : Step = record { job = c.args.job; way = c.way_of.result } in
    record {
      run = c.len-events.ensures.run;
      image =
          step_image g.O.Opening.opening c.loop.core c.step_with.new.self step (Some c.args.reply.now) (Ok c.in-Ok.seen) c.in-Ok.ensures
          ∙ c.loop.invariant.image;
      made = λ yes. absurd (true_not (sym yes));
      over = λ yes. absurd (true_not (sym yes));
      unmade = λ _.
          made_none g.O.Opening.opening c.args.core.now c.loop.core c.step_with.new.self step c.args.ask.now c.args.reply.now c.loop.counter c.loop.invariant c.way_of.ensures
          c.requires.short c.requires.going c.in-Ok.seen c.in_default.not-Ran c.in_default.not-Event c.in-Ok.ensures;
    }

pub returns-in_default-why : goal.returns-in_default-why
returns-in_default-why g c =
    let step : Step = record { job = c.args.job; way = c.way_of.result } in
    record {
      run = c.len-events.ensures.run;
      image =
          step_image g.O.Opening.opening c.loop.core c.step_with.new.self step (Some c.args.reply.now) (Err c.in-Err.why) c.in-Err.ensures
          ∙ c.loop.invariant.image;
      made = λ yes. absurd (true_not (sym yes));
      over = λ yes. absurd (true_not (sym yes));
      unmade = λ _.
          step_refused g.O.Opening.opening c.args.core.now c.loop.core c.step_with.new.self step c.args.ask.now c.args.reply.now c.loop.counter c.loop.invariant c.way_of.ensures
          c.requires.short c.requires.going c.in-Err.why c.in_default-why.not-Memory c.in-Err.ensures;
    }

pub returns-clause-unmade : goal.returns-clause-unmade
returns-clause-unmade g c = λ _.
    going_long g.O.Opening.opening c.args.core.now c.loop.core c.args.job c.loop.counter c.args.ask.now c.args.reply.now c.loop-test.false c.loop.invariant
