use Rattle.std.proofs.Common.{Bool, refl, sym, ap, ◌∙◌, subst}
use Rattle.mj_locktab.specs.Locks.{Locks, is_past_limit}
use Rattle.mj_locktab.specs.Changes.{one_more}
use Rattle.mj_locktab.specs.Tries.{TakeLeaves}
use Rattle.mj_locktab.specs.Told.{IsFree}
use Rattle.mj_locktab.specs.Parts.{holds_of}
use Rattle.mj_locktab.proofs.Kept.{one_step, over_at, undone}
use Rattle.mj_locktab.proofs.Follows.{free_at}
use Rattle.mj_locktab.proofs.held.take_each.Goals as goal

pub loop-i-init : goal.loop-i-init
loop-i-init c = record { parts = c.requires.parts; same = refl; within = c.requires.kept.within c.args.job; told = c.requires.told }

pub take-requires-clause-free : goal.take-requires-clause-free
take-requires-clause-free c =
    let locks = holds_of c.args.parts.now.entries in
    subst (λ (l : Locks). IsFree l c.args.job c.index-names-i.result) (sym c.loop-i.invariant.same)
    (free_at locks c.args.job c.args.names.now c.loop-i.i c.index-names-i.result c.requires.free c.loop-i-test.true c.index-names-i.is)

pub loop-i-preserved : goal.loop-i-preserved
loop-i-preserved c =
    let locks = holds_of c.loop-i.parts.entries in
    let new = holds_of c.take.new.parts.entries in
    let n = c.index-names-i.result in
    let t = subst (λ (b : Bool). TakeLeaves locks (one_more locks c.args.job n) c.args.job b new) c.in-Ok-true.field-0-test c.in-Ok-true.ensures.ok in record {
      parts = c.take.ensures.parts;
      same =
          t.0
          ∙ ap (λ (l : Locks). one_more l c.args.job n) c.loop-i.invariant.same
          ∙ sym (one_step (holds_of c.args.parts.now.entries) c.args.job c.args.names.now c.loop-i.i n c.loop-i-test.true c.index-names-i.is);
      within = ap (λ (l : Locks). is_past_limit l c.args.job) t.0 ∙ t.1;
      told = c.take.ensures.told;
    }

pub returns-in-Ok-false-clause-ok : goal.returns-in-Ok-false-clause-ok
returns-in-Ok-false-clause-ok c =
    let old = holds_of c.args.parts.now.entries in
    let locks = holds_of c.loop-i.parts.entries in
    let new = holds_of c.take.new.parts.entries in
    let n = c.index-names-i.result in
    let t = subst (λ (b : Bool). TakeLeaves locks (one_more locks c.args.job n) c.args.job b new) c.in-Ok-false.field-0-test c.in-Ok-false.ensures.ok in (
      c.give_each.ensures.after ∙ undone old new c.args.job c.args.names.now c.loop-i.i c.requires.kept (t.0 ∙ c.loop-i.invariant.same),
      over_at old c.args.job c.args.names.now c.loop-i.i n c.loop-i-test.true c.index-names-i.is
          (ap (λ (l : Locks). is_past_limit (one_more l c.args.job n) c.args.job) (sym c.loop-i.invariant.same) ∙ t.1),
    )

pub returns-in-Err-clause-err : goal.returns-in-Err-clause-err
returns-in-Err-clause-err c =
    c.give_each-in-Err.ensures.after
    ∙ undone (holds_of c.args.parts.now.entries) (holds_of c.take.new.parts.entries) c.args.job c.args.names.now c.loop-i.i c.requires.kept (c.in-Err.ensures.err ∙ c.loop-i.invariant.same)
