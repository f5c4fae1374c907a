use Rattle.std.proofs.Common.{ℕ, List, length, ap, ◌∙◌}
use Rattle.std.proofs.lemmas.List.{length-replicate}
use Rattle.mj_gather.specs.Lent.{left_at}
use Rattle.mj_gather.proofs.Written.{left_all, none_yet}
use Rattle.mj_gather.proofs.gathering.begin_places.Goals as goal

pub returns : goal.returns
returns c =
    let zeros = none_yet c.resize.new.self.items c.new-places.result.items c.args.jobs c.new-places.result.len c.in_ok-resize.ensures.items c.new-places.ensures.items c.new-places.ensures.len in (
      ap (λ (l : List ℕ). length l) zeros ∙ length-replicate c.args.jobs 0,
      λ logs. ap (λ (l : List ℕ). left_at logs l) zeros ∙ left_all c.args.jobs logs,
    )
