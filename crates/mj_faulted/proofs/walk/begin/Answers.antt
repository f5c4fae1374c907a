use Rattle.std.proofs.Common.{ap, ◌∙◌}
use Rattle.mj_ask.specs.declared.bounds.Bounds.{Bounds}
use Rattle.mj_turn.specs.Starts.{start_of}
use Rattle.mj_jobvm.specs.Jobs.{opening_at}
use Rattle.mj_faulted.proofs.Walked.{begun_walk}
use Rattle.mj_faulted.proofs.walk.begin.Goals as goal

pub returns : goal.returns
returns c = λ replies.
    begun_walk c.args.image.now (start_of c.args.start.now) replies c.opening.result c.units.ensures.are
    (c.opening.ensures ∙ ap (λ (b : Bounds). opening_at b c.args.start.now.job) c.bounds.ensures.which)
