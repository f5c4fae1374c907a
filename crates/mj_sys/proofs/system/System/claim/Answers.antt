use Rattle.std.proofs.Common.{◌++◌, ◌∷◌, [], sym, ap, ◌∙◌, subst}
use Rattle.mj_sys.specs.System.{Recorded, AreCounts}
use Rattle.mj_sys.proofs.Together.{some_is}
use Rattle.mj_sys.proofs.Replays.{kept_wider, counts_wider}
use Rattle.mj_sys.proofs.system.System.claim.Goals as goal

pub invariant_of-self-2 : goal.invariant_of-self-2
invariant_of-self-2 g c =
    let opening = g.O.Opening.opening in
    let i = c.self.inside in
    let seen : Recorded = record { history = i.history.items; claimed = i.shared.claimed } in
    let claim = some_is c.in_ok-claimed.field-0 (c.in-Some.claimed, c.in-Some.session) _ c.in-Some.is c.in_ok-claimed.ensures.some in (
      kept_wider opening i.shared.state i.counts.items seen c.self.invariant.0 c.self.invariant.1 c.claim.new.self.claimed claim.1 c.claim.new.self.state c.claim.ensures.state,
      subst (λ l. AreCounts l (record { history = i.history.items; claimed = c.claim.new.self.claimed }))
          (sym (c.push_reserved.ensures.items ∙ ap (λ l. l ++ 0 ∷ []) c.in_ok-reserve.ensures.items))
          (counts_wider opening i.shared.state i.counts.items seen c.self.invariant.0 c.self.invariant.1 c.claim.new.self.claimed claim.1),
    )
