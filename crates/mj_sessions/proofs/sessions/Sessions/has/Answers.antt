use Rattle.std.proofs.Common.{sym, ◌∙◌, ap}
use Rattle.std.specs.Prelude.{is_some}
use Rattle.mj_sessions.specs.Named.{is_named}
use Rattle.mj_sessions.proofs.Places.{absent, present}
use Rattle.mj_sessions.proofs.sessions.Sessions.has.Goals as goal

pub returns-in-None : goal.returns-in-None
returns-in-None g c = sym (ap is_some (absent (is_named c.args.name.now) c.args.self.now.sessions (sym c.place.ensures ∙ c.in-None.is)))

pub returns-in-Some : goal.returns-in-Some
returns-in-Some g c = sym (present c.args.name.now c.args.self.now.sessions c.in-Some.field-0 (sym c.place.ensures ∙ c.in-Some.is))
