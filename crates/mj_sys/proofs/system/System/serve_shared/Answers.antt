use Rattle.std.proofs.Common.{subst}
use Rattle.std.specs.Result.{IfOk}
use Rattle.mj_ask.specs.declared.ask.Ask.TheVariants as asks
use Rattle.mj_sys.specs.System.{Recorded}
use Rattle.mj_sys.specs.Told.{Serves}
use Rattle.mj_sys.proofs.Serving.{IsReady, ready_by, kept_if, serves_if}
use Rattle.mj_sys.proofs.system.System.serve_shared.Given.{Over}
use Rattle.mj_sys.proofs.system.System.serve_shared.Goals as goal

ready : (g : Over) (c : goal.After-serve_next g)
    → IsReady g.O.Opening.opening c.self.inside.shared c.self.inside.history.items c.self.inside.counts.items c.args.claim.now c.args.ask.now c.args.late
ready g c =
    let may = c.in_ok-may_follow.ensures in
    ready_by g.O.Opening.opening c.self.inside.shared c.self.inside.history.items c.self.inside.counts.items c.args.claim.now c.args.ask.now c.args.late
    c.args.self.now c.self.view_is c.self.invariant.0 c.self.invariant.1 may.ok.0 may.ok.1

pub invariant_of-self : goal.invariant_of-self
invariant_of-self g c =
    let n = c.serve_next.new in
    kept_if g.O.Opening.opening c.self.inside.shared c.self.inside.history.items c.self.inside.counts.items c.args.claim.now c.args.ask.now c.args.late (ready g c)
    n.shared n.history.items n.counts.items n.claim c.serve_next.ensures.apart (λ t. t) c.serve_next.result c.serve_next.ensures.ok c.serve_next.ensures.kept

pub returns-clause-ok : goal.returns-clause-ok
returns-clause-ok g c =
    let n = c.serve_next.new in
    let after : Recorded = record { history = n.history.items; claimed = n.shared.claimed } in
    subst (λ (r : Recorded). IfOk c.serve_next.result (λ t. Serves g.O.Opening.opening r c.args.claim.now (asks.Shared c.args.ask.now) c.args.late (t) after n.claim)) c.self.view_is
    (serves_if g.O.Opening.opening c.self.inside.shared c.self.inside.history.items c.self.inside.counts.items c.args.claim.now c.args.ask.now c.args.late (ready g c)
    n.shared n.history.items n.counts.items n.claim c.serve_next.ensures.apart (λ t. t) c.serve_next.result c.serve_next.ensures.ok)
