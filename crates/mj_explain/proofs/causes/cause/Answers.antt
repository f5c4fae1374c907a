use Rattle.std.proofs.Common.{◌≡◌, subst}
use Rattle.std.specs.Prelude.{IfOk}
use Rattle.mj_store.specs.Questions.{Content}
use Rattle.mj_explain.specs.Clashes.{told_at, IsCause}
use Rattle.mj_explain.proofs.causes.cause.Goals as goal

pub returns-in-Ok-clause-now : goal.returns-in-Ok-clause-now
returns-in-Ok-clause-now c =
    subst (λ (g : Content). IfOk c.cause_over.result (λ found. found.0 ≡ told_at c.args.events.now g c.args.read.now c.args.own.now c.args.end))
    c.in_ok-globals.ensures.content c.cause_over.ensures.now

pub returns-in-Ok-clause-cause : goal.returns-in-Ok-clause-cause
returns-in-Ok-clause-cause c =
    subst (λ (g : Content). IfOk c.cause_over.result (λ found. IsCause c.args.events.now g c.args.read.now c.args.own.now c.args.from c.args.end found.1))
    c.in_ok-globals.ensures.content c.cause_over.ensures.cause
