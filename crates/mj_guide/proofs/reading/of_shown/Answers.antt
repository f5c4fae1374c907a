use Rattle.std.proofs.Common.{Some, codes}
use Rattle.std.proofs.lemmas.Bool.Decides.{Decides-eqb}
use Rattle.std.proofs.lemmas.Slice.Eq.{strip_prefix_is}
use Rattle.mj_guide.proofs.Showing.{shows_none}
use Rattle.mj_guide.proofs.reading.of_shown.Goals as goal

pub returns-in-None-clause-none : goal.returns-in-None-clause-none
returns-in-None-clause-none c =
    let front = strip_prefix_is Decides-eqb c.args.line.now (codes "p ") (Some c.in-Some.rest) c.in-Some.ensures.cases in
    let job = c.in-Some-job_in.ensures.some in
    let names = rw c.in_default-2.is at c.in_ok-name.ensures.none in
    let own = rw c.in-None.is at c.in_ok-name-2.ensures.none in
    λ request shows so same. shows_none c.args.line.now c.in-Some.rest.now c.in-Some-job_in.behind.now c.in-Some-job_in.job
    front c.in_default-special_of.ensures.none names job.0 job.1 c.in_default-special_of-2.ensures.none own request shows so same
