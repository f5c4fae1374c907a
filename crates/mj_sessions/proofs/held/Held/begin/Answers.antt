use Rattle.std.proofs.Common.{◌≡◌, sym, ◌∙◌}
use Rattle.mj_dev.specs.declared.talk.State.TheVariants as states
use Rattle.mj_sessions.proofs.Hearing.{begun}
use Rattle.mj_sessions.proofs.held.Held.begin.Goals as goal

pub returns-in-Open-clause-heard : goal.returns-in-Open-clause-heard
returns-in-Open-clause-heard g c = λ late.
    let usable : c.self.inside.session.state ≡ states.Open = sym c.state.ensures.state ∙ c.in-Open.is in
    rw (← c.self.view_is, c.to_call.ensures) (begun c.self.inside.session c.begin.new.self usable late c.begin.result c.begin.ensures.heard)
