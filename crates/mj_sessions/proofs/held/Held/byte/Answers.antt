use Rattle.std.proofs.Common.{◌≡◌, sym, ◌∙◌}
use Rattle.mj_dev.specs.declared.talk.State.TheVariants as states
use Rattle.mj_sessions.proofs.Hearing.{byte_read}
use Rattle.mj_sessions.proofs.held.Held.byte.Goals as goal

pub returns-in-Open-clause-heard : goal.returns-in-Open-clause-heard
returns-in-Open-clause-heard g c =
    let usable : c.self.inside.session.state ≡ states.Open = sym c.state.ensures.state ∙ c.in-Open.is in
    rw (← c.self.view_is, c.to_byte.ensures, c.is_timed_out.ensures) (byte_read c.self.inside.session c.byte.new.self usable c.args.timeout c.args.late c.byte.result c.byte.ensures.heard)
