use Rattle.std.proofs.Common.{Some, None, sym, ap, ◌∙◌}
use Rattle.mj_locktab.specs.Locks.{Locks, count_of}
use Rattle.mj_locktab.proofs.Parts.{count_parts}
use Rattle.mj_locktab.proofs.Refilled.{part_found}
use Rattle.mj_locktab.proofs.held.count.Goals as goal

pub returns-in-None : goal.returns-in-None
returns-in-None c =
    let parts = c.args.parts.now.entries in
    sym (count_parts parts c.requires c.args.job c.args.name.now ∙ ap (λ (l : Locks). count_of l c.args.job c.args.name.now) (part_found parts c.args.job None c.in-None.ensures.value))

pub returns-in-Some : goal.returns-in-Some
returns-in-Some c =
    let parts = c.args.parts.now.entries in
    c.count.ensures c.args.job
    ∙ sym (count_parts parts c.requires c.args.job c.args.name.now
    ∙ ap (λ (l : Locks). count_of l c.args.job c.args.name.now) (part_found parts c.args.job (Some c.in-Some.part.now) c.in-Some.ensures.value))
