use Rattle.std.proofs.Common.{◌≡◌, sym, ◌∙◌, ap, Some}
use Rattle.std.specs.List.{position}
use Rattle.mj_sessions.specs.Named.{Roomy, is_named, session_of}
use Rattle.mj_sessions.proofs.Places.{absent, found_session}
use Rattle.mj_sessions.proofs.sessions.Sessions.taken.Goals as goal

pub returns-in-None-clause-none : goal.returns-in-None-clause-none
returns-in-None-clause-none g c = absent (is_named c.args.name.now) c.args.self.now.sessions (sym c.place.ensures ∙ c.in-None.is)

pub returns-in-Some-clause-some : goal.returns-in-Some-clause-some
returns-in-Some-clause-some g c =
    let found : position (is_named c.args.name.now) c.self.inside.held.items ≡ Some c.in-Some.place =
    ap (λ (r : Roomy). position (is_named c.args.name.now) r.sessions) c.self.view_is ∙ sym c.place.ensures ∙ c.in-Some.is in (
      c.index.result.now,
      sym (ap (λ (r : Roomy). session_of c.args.name.now r.sessions) c.self.view_is)
          ∙ found_session c.args.name.now c.self.inside.held.items c.in-Some.place c.index.result.now found c.index.ensures,
      c.taken.ensures,
    )
