use Rattle.mj_sys.proofs.Passing.{kept_passed}
use Rattle.mj_sys.proofs.ongoing.keep.Goals as goal

pub returns-in-Ok : goal.returns-in-Ok
returns-in-Ok c g gone is were =
    kept_passed g gone c.insert-kept.result _ c.args.passed.now.entries c.insert-kept.new.self.entries c.in-Ok.key c.args.word c.insert-kept.ensures.entries c.insert-kept.ensures.err is were
