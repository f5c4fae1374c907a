use Rattle.std.proofs.Common.{◌≡◌, ℕ, suc, sym, ap, ◌∙◌, arith}
use Rattle.mj_sys.specs.History.{log_of}
use Rattle.mj_core.proofs.Views.{found_at}
use Rattle.mj_gather.specs.Lent.{Ordered}
use Rattle.mj_gather.proofs.Shown.{log_lent}
use Rattle.mj_gather.proofs.run.Run.log.Goals as goal

pub returns-in-Some-get : goal.returns-in-Some-get
returns-in-Some-get c =
    let i = c.self.inside in
    let lookup = c.in-Some-get.ensures.lookup in
    let here = found_at c.deref.result.now i.logs.items c.in-Some.at c.in-Some-get.log.now c.deref.ensures.value lookup.0 lookup.1 in
    let job : c.args.job ≡ suc c.in-Some.at = (let e = c.in-Some.ensures in omega (arith, e)) in
    sym (log_lent i.logs.items c.in-Some.at c.in-Some-get.log.now here)
    ∙ (sym (c.self.invariant.whole (suc c.in-Some.at)) ∙ (ap (λ (o : Ordered). log_of (suc c.in-Some.at) o.history) c.self.view_is
    ∙ ap (λ (k : ℕ). log_of k c.args.self.now.history) (sym job)))
