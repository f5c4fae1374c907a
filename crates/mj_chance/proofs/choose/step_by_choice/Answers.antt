use Rattle.std.proofs.Common.{ℕ, ◌+◌, List, [], ◌∷◌, ◌++◌, length, sym, ap, subst, arith}
use Rattle.std.proofs.lemmas.List.{length-append}
use Rattle.mj_steps.specs.declared.step.Step.{Step}
use Rattle.mj_steps.specs.declared.drive.Ending.TheVariants as endings
use Rattle.mj_steps.specs.Driven.{ByList}
use Rattle.mj_chance.proofs.Choosing.{goes_on, stops}
use Rattle.mj_chance.proofs.choose.step_by_choice.Goals as goal

pub returns-in-Err-clause-listed : goal.returns-in-Err-clause-listed
returns-in-Err-clause-listed g c =
    let l = c.choices in
    let P : List Step → Type 0 = λ s. ByList g.J.Stepped.makes 0 s c.args.jobs.now (endings.Refused c.in-Err.why (l.done + 1)) c.step.new.self in
    subst P (sym c.in_ok-push.ensures.items)
    (stops g.J.Stepped.makes l.steps.items c.in-Some.step c.in-Err.why (l.done + 1) c.args.jobs.now l.jobs c.step.new.self l.invariant.listed c.in-Err.ensures
    (omega (arith, l.invariant.count)))

pub choices-preserved : goal.choices-preserved
choices-preserved g c =
    let l = c.choices in
    let P : List Step → Type 0 = λ s. ByList g.J.Stepped.makes 0 s c.args.jobs.now endings.Over c.step.new.self in
    record {
      listed = subst P (sym c.in_ok-push.ensures.items)
          (goes_on g.J.Stepped.makes l.steps.items c.in-Some.step c.in-Ok.standing c.args.jobs.now l.jobs c.step.new.self l.invariant.listed c.in-Ok.ensures);
      count = omega (arith, ap length c.in_ok-push.ensures.items, length-append l.steps.items (c.in-Some.step ∷ []), l.invariant.count);
    }
