use Rattle.std.proofs.Common.{Bool, ap, ◌∙◌}
use Rattle.std.specs.Prelude.{nat_lt}
use Rattle.std.specs.List.{count_by}
use Rattle.mj_core.specs.Shown.{Shown}
use Rattle.mj_judge.specs.declared.marks.Mark.TheVariants as marks
use Rattle.mj_explore.specs.Ends.{end_text}
use Rattle.mj_judge.specs.Marks.{bears}
use Rattle.mj_explore.proofs.Making.{noted_as}
use Rattle.mj_explore.proofs.exploring.told.Goals as goal

pub returns-clause-faulted : goal.returns-clause-faulted
returns-clause-faulted g c =
    let faults : Shown → Bool = λ s. nat_lt 0 (count_by (bears marks.Fault) s.history) in
    c.has-has_faulted.ensures ∙ ap faults c.jobs.view_is

pub returns-clause-noted : goal.returns-clause-noted
returns-clause-noted g c =
    let opening = g.O.Opening.opening in
    noted_as (c.in_ok-end_text.ensures ∙ ap (λ (s : Shown). end_text opening s.history) c.jobs.view_is) c.in_ok-note.ensures.ok
