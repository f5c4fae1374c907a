use Rattle.std.proofs.Common.{sym, subst}
use Rattle.mj_txlog.specs.Skips.{AreOf}
use Rattle.mj_txlog.proofs.Only.{killed_of}
use Rattle.mj_txlog.proofs.skips.Skips.forget.Goals as goal

pub invariant_of-self : goal.invariant_of-self
invariant_of-self c = λ one. subst (AreOf c.self.inside.of) (sym c.kill.ensures) (killed_of c.self.inside.of c.self.inside.runs c.args.name.now (c.self.invariant one))
