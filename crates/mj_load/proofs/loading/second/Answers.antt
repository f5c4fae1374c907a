use Rattle.std.proofs.Common.{sym, ◌∙◌}
use Rattle.mj_load.proofs.Names.{is_second, goes_on}
use Rattle.mj_load.proofs.loading.second.Goals as goal

pub returns-then-has_name : goal.returns-then-has_name
returns-then-has_name c = (
  c.loop-k-test.true,
  λ d. is_second c.args.routines.now c.loop-k.k c.index-routines-k.result d c.loop-k-test.true c.index-routines-k.is c.loop-k.invariant (sym c.has_name.ensures ∙ c.if-has_name.true),
)

pub loop-k-preserved : goal.loop-k-preserved
loop-k-preserved c =
    goes_on c.args.routines.now c.loop-k.k c.index-routines-k.result c.loop-k-test.true c.index-routines-k.is c.loop-k.invariant (sym c.has_name.ensures ∙ c.if-has_name.false)
