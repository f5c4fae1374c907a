use Rattle.std.proofs.Common.{false, subst}
use Rattle.std.specs.Result.{IfOk}
use Rattle.mj_ask.specs.declared.ask.Ask.TheVariants as asks
use Rattle.mj_ask.specs.declared.ask.SharedAsk.TheVariants as shared_asks
use Rattle.mj_sys.specs.declared.served.Served.TheVariants as serveds
use Rattle.mj_sys.specs.System.{Recorded}
use Rattle.mj_sys.specs.Told.{Serves}
use Rattle.mj_sys.proofs.Serving.{IsReady, ready_by, kept_if, serves_if}
use Rattle.mj_sys.proofs.system.System.access.Given.{Over}
use Rattle.mj_sys.proofs.system.System.access.Goals as goal

ready : (g : Over) (c : goal.After-access_next g)
    → IsReady g.O.Opening.opening c.self.inside.shared c.self.inside.history.items c.self.inside.counts.items c.args.claim.now (shared_asks.Access c.args.access) false
ready g c =
    let may = c.in_ok-may_follow.ensures in
    ready_by g.O.Opening.opening c.self.inside.shared c.self.inside.history.items c.self.inside.counts.items c.args.claim.now (shared_asks.Access c.args.access) false
    c.args.self.now c.self.view_is c.self.invariant.0 c.self.invariant.1 may.ok.0 may.ok.1

pub invariant_of-self : goal.invariant_of-self
invariant_of-self g c =
    let n = c.access_next.new in
    kept_if g.O.Opening.opening c.self.inside.shared c.self.inside.history.items c.self.inside.counts.items c.args.claim.now (shared_asks.Access c.args.access) false (ready g c)
    n.shared n.history.items n.counts.items n.claim c.access_next.ensures.apart serveds.Reply c.access_next.result c.access_next.ensures.ok c.access_next.ensures.kept

pub returns-clause-ok : goal.returns-clause-ok
returns-clause-ok g c =
    let n = c.access_next.new in
    let after : Recorded = record { history = n.history.items; claimed = n.shared.claimed } in
    let ask = asks.Shared (shared_asks.Access c.args.access) in
    subst (λ (r : Recorded). IfOk c.access_next.result (λ t. Serves g.O.Opening.opening r c.args.claim.now ask false (serveds.Reply t) after n.claim)) c.self.view_is
    (serves_if g.O.Opening.opening c.self.inside.shared c.self.inside.history.items c.self.inside.counts.items c.args.claim.now (shared_asks.Access c.args.access) false (ready g c)
    n.shared n.history.items n.counts.items n.claim c.access_next.ensures.apart serveds.Reply c.access_next.result c.access_next.ensures.ok)
