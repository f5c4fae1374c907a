use Rattle.std.proofs.Common.{◌≡◌, ◌<◌, ◌≤◌, length, ap, sym, ◌∙◌, arith}
use Rattle.mj_sys.specs.History.{events_of}
use Rattle.mj_sys.specs.System.{Recorded}
use Rattle.mj_sys.proofs.Replays.{none_of_0, no_events}
use Rattle.mj_sys.proofs.system.System.events.Goals as goal

pub returns-in-None : goal.returns-in-None
returns-in-None g c =
    let job = c.args.job in
    let none = c.in-None.ensures in
    let is : job ≡ 0 = omega (arith, none) in
    sym (ap (λ (r : Recorded). events_of job r.history) (sym c.self.view_is)
    ∙ ap (λ j. events_of j c.self.inside.history.items) is
    ∙ none_of_0 g.O.Opening.opening c.self.inside.history.items c.self.invariant.0.served)

pub returns-in-None-get : goal.returns-in-None-get
returns-in-None-get g c =
    let job = c.args.job in
    let i = c.self.inside in
    let missed = c.in-None-get.ensures.lookup.0 in
    let past : length c.deref.result.now ≤ c.in-Some.at = grind (arith, missed) in
    let all : length c.deref.result.now ≡ i.shared.claimed = ap (λ l. length l) c.deref.ensures.value ∙ c.self.invariant.1.all in
    let numbered = c.in-Some.ensures.0 in
    let at = c.in-Some.ensures.1 in
    let above : i.shared.claimed < job = omega (arith, past, all, numbered, at) in
    sym (ap (λ (r : Recorded). events_of job r.history) (sym c.self.view_is)
    ∙ no_events job i.history.items (c.self.invariant.0.unclaimed job above))
