use Rattle.std.proofs.Common.{◌∙◌, decimal, sym}
use Rattle.mj_guide.proofs.Splits.{cut_number, joined, no_blank}
use Rattle.mj_guide.proofs.reading.job_in.Goals as goal

pub returns-in_default-clause-none : goal.returns-in_default-clause-none
returns-in_default-clause-none c = λ job behind is same. no_blank c.args.bytes.now behind job (sym c.blank.ensures.value ∙ c.in_default.is) is same

pub returns-in_default-job_of-clause-none : goal.returns-in_default-job_of-clause-none
returns-in_default-job_of-clause-none c = λ job behind is same.
    c.in_default-job_of.ensures.none job is (cut_number c.args.bytes.now behind c.in-Some.at job (sym c.blank.ensures.value ∙ c.in-Some.is) is same)

pub returns-clause-some : goal.returns-clause-some
returns-clause-some c =
    let job = c.in-Some-job_of.ensures.some in
    (job.0, joined c.args.bytes.now (decimal c.in-Some-job_of.job) c.in-Some.at (sym c.blank.ensures.value ∙ c.in-Some.is) job.1)
