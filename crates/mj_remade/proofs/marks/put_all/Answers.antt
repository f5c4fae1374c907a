use Rattle.std.proofs.Common.{◌≡◌, ◌∷◌, ◌+◌, drop, ap, ◌∙◌, arith}
use Rattle.std.proofs.lemmas.Grind.{common_steps}
use Rattle.mj_core.specs.Shown.{Shown}
use Rattle.mj_remade.proofs.Keeping.{put_next}
use Rattle.mj_remade.proofs.marks.put_all.Goals as goal

-- one more is put
pub loop-mark-preserved : goal.loop-mark-preserved
loop-mark-preserved g c =
    let first = c.args.debugger.now in
    let before = c.loop-mark.debugger in
    let marks = c.args.marks.now in
    let i = c.loop-mark.mark-index in
    let m = c.mark-item.result in
    let there : drop i marks ≡ m ∷ drop (i + 1) marks = grind (arith, common_steps, c.mark-item.is) in
    record {
      core = c.put.ensures.core ∙ c.loop-mark.invariant.core;
      marks = put_next first.core.image before.core.image first.marks before.marks c.put.new.debugger.marks marks i m
          (ap (λ (core : Shown). core.image) c.loop-mark.invariant.core) there c.in_ok-put.ensures.marks c.loop-mark.invariant.marks;
    }
