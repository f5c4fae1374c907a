use Rattle.mj_sys.proofs.First.{kept_first}
use Rattle.mj_sys.proofs.system.System.new.Goals as goal

pub invariant_of-result : goal.invariant_of-result
invariant_of-result g c =
    kept_first c.args.globals.content c.args.pool c.args.starts.items g.O.Opening.opening c.requires.opening c.requires.global c.in_ok-new.field-0 c.new-2.result.items c.new-3.result.items
    c.in_ok-new.ensures.ok c.new-2.ensures.items c.new-3.ensures.items
