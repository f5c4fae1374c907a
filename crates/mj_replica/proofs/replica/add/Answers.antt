use Rattle.std.proofs.Common.{◌≡◌, suc, ◌+◌, sym, ap, ◌∙◌, arith}
use Rattle.mj_dev.specs.Shelves.{added}
use Rattle.mj_replica.proofs.Pools.{after_adds, add_on, of_ok}
use Rattle.mj_replica.proofs.replica.add.Goals as goal

pub loop-preserved : goal.loop-preserved
loop-preserved c =
    let next : suc c.loop.counter ≡ c.loop.counter + 1 = omega arith in
    let grown : c.add.new.self ≡ added c.args.name.now c.loop.pool = of_ok c.add.result _ c.add.ensures.added (sym c.is_err.ensures.value ∙ c.if-is_err.false) in
    grown ∙ ap (λ p. added c.args.name.now p) c.loop.invariant ∙ add_on c.args.name.now c.loop.counter c.args.pool.now c.requires.below
    ∙ ap (λ n. after_adds c.args.name.now n c.args.pool.now) next
