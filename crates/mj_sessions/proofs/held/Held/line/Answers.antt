use Rattle.std.proofs.Common.{◌≡◌, sym, ◌∙◌}
use Rattle.mj_dev.specs.declared.talk.State.TheVariants as states
use Rattle.mj_sessions.proofs.Hearing.{line_read}
use Rattle.mj_sessions.proofs.held.Held.line.Goals as goal

pub returns-in-Open-clause-heard : goal.returns-in-Open-clause-heard
returns-in-Open-clause-heard g c =
    let usable : c.self.inside.session.state ≡ states.Open = sym c.state.ensures.state ∙ c.in-Open.is in
    rw (← c.self.view_is, c.to_line.ensures, c.is_timed_out.ensures) (line_read c.self.inside.session c.line.new.self usable c.args.timeout c.args.late c.line.result c.line.ensures.heard)
