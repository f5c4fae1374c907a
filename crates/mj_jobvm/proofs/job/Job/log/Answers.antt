use Rattle.std.proofs.Common.{sym, ap, ◌∙◌, subst}
use Rattle.mj_load.specs.Image.{program_of}
use Rattle.mj_jobvm.specs.Limit.{IsLimited}
use Rattle.mj_jobvm.proofs.Limit.{trace_is_limited}
use Rattle.mj_jobvm.proofs.job.Job.log.Goals as goal

pub returns-clause-limit : goal.returns-clause-limit
returns-clause-limit c = λ image start is.
    subst (IsLimited image.bounds.events) (sym (c.as_slice.ensures.value ∙ ap (λ j. j.run.log) c.self.view_is))
    (trace_is_limited (program_of image) start c.args.self.now.run.log is.1.trace)
