use Rattle.std.proofs.Common.{◌≡◌, sym, ◌∙◌, subst, List, ℕ}
use Rattle.mj_dev.specs.declared.talk.State.TheVariants as states
use Rattle.mj_dev.specs.Heard.{Writes}
use Rattle.mj_sessions.proofs.Hearing.{wrote}
use Rattle.mj_sessions.proofs.held.Held.write.Goals as goal

pub returns-in-Open-clause-heard : goal.returns-in-Open-clause-heard
returns-in-Open-clause-heard g c = λ late.
    let usable : c.self.inside.session.state ≡ states.Open = sym c.state.ensures.state ∙ c.in-Open.is in
    let P : List ℕ → Type 0 = λ b. Writes c.self.inside.session b c.write.result c.write.new.self in
    let wrote_is : Writes c.self.inside.session c.args.bytes.now c.write.result c.write.new.self = subst P c.bytes.ensures.value c.write.ensures.heard in
    rw (← c.self.view_is, c.to_call.ensures) (wrote c.self.inside.session c.write.new.self usable c.args.bytes.now late c.write.result wrote_is)
