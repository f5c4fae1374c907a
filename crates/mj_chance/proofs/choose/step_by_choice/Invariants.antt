use Rattle.std.specs.Prelude.{◌≡◌, length}
use Rattle.mj_steps.specs.declared.drive.Ending.TheVariants as endings
use Rattle.mj_steps.specs.Driven.{ByList}
use Rattle.mj_chance.proofs.choose.step_by_choice.Given as goal

-- the steps so far were all made, one each time
abbrev pub invariant-choices : goal.invariant-choices
invariant-choices g l = record {
  listed : ByList g.J.Stepped.makes 0 l.steps.items l.initial.jobs endings.Over l.jobs;
  count : length l.steps.items ≡ l.done;
}
