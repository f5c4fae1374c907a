use Rattle.mj_locktab.specs.Locks.{job_of, name_of}
use Rattle.mj_locktab.proofs.Listed.{listed_one, listed_all}
use Rattle.mj_locktab.proofs.held.list.Goals as goal

pub loop-job-preserved : goal.loop-job-preserved
loop-job-preserved c =
    listed_one (λ e. (job_of e.0, name_of e.0, e.1)) c.loop-job.list.items c.list.new.list.items _ c.loop-job.job-iterator c.next.new.self _
    c.loop-job.invariant c.in-Some.ensures.steps c.in_ok-list.ensures

pub returns : goal.returns
returns c = listed_all (λ e. (job_of e.0, name_of e.0, e.1)) c.loop-job.list.items _ c.loop-job.job-iterator c.loop-job.invariant c.in-None.ensures.steps.0
