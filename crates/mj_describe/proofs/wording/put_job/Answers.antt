use Rattle.std.proofs.Common.{◌++◌, Option, codes, ap, ◌∙◌}
use Rattle.mj_ask.specs.declared.noted.Noted.{Noted}
use Rattle.mj_describe.specs.Words.{Shown, job_of, job_text}
use Rattle.mj_explain.proofs.Begun.{got}
use Rattle.mj_describe.proofs.Putting.{put_last}
use Rattle.mj_describe.proofs.wording.put_job.Goals as goal

pub returns : goal.returns
returns c =
    put_last c.put_job_of.result _ _ _ _ _ _ c.in_ok-put.ensures
    (ap (λ (o : Option Noted). codes "job " ++ job_of o) (got c.shown.inside.events.now c.args.place c.get.result c.get.ensures.lookup)
    ∙ ap (λ (v : Shown). job_text v c.args.place) c.shown.view_is)
    c.put_job_of.ensures
