use Rattle.std.proofs.Common.{◌+◌, ap, ◌∙◌, drop}
use Rattle.mj_locktab.specs.Locks.{Locks}
use Rattle.mj_locktab.specs.Changes.{after_give}
use Rattle.mj_locktab.specs.Parts.{holds_of}
use Rattle.mj_locktab.proofs.Kept.{one_given}
use Rattle.mj_locktab.proofs.held.give_each.Goals as goal

pub loop-name-preserved : goal.loop-name-preserved
loop-name-preserved c =
    let n = c.name-item.result in
    let locks = holds_of c.loop-name.parts.entries in record {
      parts = c.give.ensures.parts;
      same =
          ap (λ (l : Locks). after_give l c.args.job (drop (c.loop-name.name-index + 1) c.args.names.now)) c.give.ensures.after
          ∙ one_given locks c.args.job c.args.names.now c.loop-name.name-index n c.loop-name-test.true c.name-item.is
          ∙ c.loop-name.invariant.same;
      told = c.give.ensures.told;
    }
