use Rattle.std.proofs.Common.{codes, Some}
use Rattle.std.proofs.lemmas.Bool.Decides.{Decides-eqb}
use Rattle.std.proofs.lemmas.Slice.Eq.{strip_suffix_is}
use Rattle.mj_steps.proofs.Spelled.{late_line, late_none}
use Rattle.mj_steps.proofs.line.step_of.Goals as goal

pub returns-in_default-clause-none : goal.returns-in_default-clause-none
returns-in_default-clause-none c =
    λ step is. late_none c.args.line.now c.in-Some.number.now step (strip_suffix_is Decides-eqb c.args.line.now (codes " late") (Some c.in-Some.number) c.in-Some.ensures.cases)
    c.in_default.ensures.none is

pub returns-in-Some-job_of-clause-some : goal.returns-in-Some-job_of-clause-some
returns-in-Some-job_of-clause-some c = (
  c.in-Some-job_of.ensures.some.0,
  late_line c.args.line.now c.in-Some.number.now c.in-Some-job_of.job (strip_suffix_is Decides-eqb c.args.line.now (codes " late") (Some c.in-Some.number) c.in-Some.ensures.cases)
      c.in-Some-job_of.ensures.some.1,
)
