use Rattle.std.proofs.Common.{◌≡◌, ℕ, ◌-◌, ◌++◌, List, refl, ap, sym, ◌∙◌, append-nil, arith}
use Rattle.mj_explain.specs.declared.landings.Landing.{Landing}
use Rattle.mj_explain.specs.Landings.{landed, landed_in}
use Rattle.mj_explain.proofs.Counting.{on_more, same_span, landed_on, landed_none}
use Rattle.mj_explain.proofs.landings.add_landed.Goals as goal

pub loop-write-init : goal.loop-write-init
loop-write-init c =
    let ls = c.args.landings.now.items in
    let none = landed_none c.args.events.now c.args.job c.args.made c.args.from c.args.from (omega arith) in
    (sym (append-nil ls) ∙ ap (λ (more : List Landing). ls ++ more) (sym none), λ _. refl)

pub loop-write-preserved : goal.loop-write-preserved
loop-write-preserved c =
    let es = c.args.events.now in
    let w = c.loop-write.write in (
      on_more c.args.landings.now.items (landed_in es c.args.job c.args.made c.args.from (w - c.args.from)) c.loop-write.landings.items
          c.add_one.new.landings.items (landed es c.args.job c.args.made w) _ c.loop-write.invariant.0 c.in_ok-add_one.ensures
          (landed_on es c.args.job c.args.made c.args.from w c.loop-write.auto.write),
      λ less. absurd (omega (arith, less)),
    )

pub returns : goal.returns
returns c =
    let ls = c.args.landings.now.items in
    let same : c.loop-write.write - c.args.from ≡ c.args.made - c.args.from =
    same_span c.args.from c.args.made c.loop-write.write c.loop-write.auto.write c.loop-write-test.false c.loop-write.auto.write-end c.loop-write.invariant.1 in
    c.loop-write.invariant.0 ∙ ap (λ (n : ℕ). ls ++ landed_in c.args.events.now c.args.job c.args.made c.args.from n) same
