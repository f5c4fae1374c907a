use Rattle.std.proofs.Common.{[], ap, ◌∙◌}
use Rattle.mj_ask.specs.Started.{Started}
use Rattle.mj_jobvm.specs.Jobs.{Running}
use Rattle.mj_work.proofs.Standing.{begins_at}
use Rattle.mj_work.proofs.job.start_job.Goals as goal

pub returns : goal.returns
returns g c =
    let start = c.in_ok-try_clone.ensures ∙ c.start.ensures in
    begins_at g.A.Answerer.answering c.args.image.now c.args.claim.now c.requires.none c.requires.long c.job.result c.into_parts-entry.result.0 c.into_parts-entry.result.1.items
    c.start-job.result c.open.new.self c.job.ensures.value (c.into_parts-entry.ensures.entry ∙ ap (λ (s : Started). s.entry) start)
    (c.into_parts-entry.ensures.values ∙ ap (λ (s : Started). s.values) start) c.start-job.ensures.run
    (ap (λ (j : Running). j.run.log) c.start-job.ensures.opening) (c.open.ensures.of [] (c.make_room.ensures.stays.0 [] c.new-answerer.ensures.of))
