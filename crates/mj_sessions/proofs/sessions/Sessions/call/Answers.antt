use Rattle.std.proofs.Common.{◌≡◌, sym, ◌∙◌, ap, Some, inl, inr, refl}
use Rattle.std.specs.List.{position}
use Rattle.mj_sessions.specs.Named.{Roomy, is_named}
use Rattle.mj_sessions.proofs.Places.{absent, found_asked, found_apart, found_session, found_set}
use Rattle.mj_sessions.proofs.sessions.Sessions.call.Goals as goal

pub returns-in-None-clause-answers : goal.returns-in-None-clause-answers
returns-in-None-clause-answers g c = inl (absent (is_named c.args.name.now) c.args.self.now.sessions (sym c.place.ensures ∙ c.in-None.is), refl, refl)

pub invariant_of-self : goal.invariant_of-self
invariant_of-self g c =
    let found : position (is_named c.args.name.now) c.self.inside.held.items ≡ Some c.in-Some.place =
    ap (λ (r : Roomy). position (is_named c.args.name.now) r.sessions) c.self.view_is ∙ sym c.place.ensures ∙ c.in-Some.is in
    found_apart c.args.name.now c.self.inside.held.items c.in-Some.place c.index_mut-held.result.now found c.index_mut-held.ensures.value c.serve.new.self c.serve.ensures.name c.self.invariant

pub returns-in-Some-clause-answers : goal.returns-in-Some-clause-answers
returns-in-Some-clause-answers g c =
    let found : position (is_named c.args.name.now) c.self.inside.held.items ≡ Some c.in-Some.place =
    ap (λ (r : Roomy). position (is_named c.args.name.now) r.sessions) c.self.view_is ∙ sym c.place.ensures ∙ c.in-Some.is in
    rw (← c.self.view_is) (found_asked c.args.name.now c.self.inside.held.items c.in-Some.place c.index_mut-held.result.now found c.index_mut-held.ensures.value
    c.args.ask.now c.args.late c.serve.result c.serve.new.self c.serve.ensures.name c.serve.ensures.heard)

pub returns-in-Some-clause-asked : goal.returns-in-Some-clause-asked
returns-in-Some-clause-asked g c =
    let found : position (is_named c.args.name.now) c.self.inside.held.items ≡ Some c.in-Some.place =
    ap (λ (r : Roomy). position (is_named c.args.name.now) r.sessions) c.self.view_is ∙ sym c.place.ensures ∙ c.in-Some.is in
    elim c.serve.ensures.asked [
      | inl unfit ↦ inl unfit
      | inr asked ↦ rw (← c.self.view_is) (inr (
        c.index_mut-held.result.now,
        found_session c.args.name.now c.self.inside.held.items c.in-Some.place c.index_mut-held.result.now found c.index_mut-held.ensures.value,
        (
          c.serve.new.self.session,
          asked,
          found_set c.args.name.now c.self.inside.held.items c.in-Some.place c.index_mut-held.result.now found c.index_mut-held.ensures.value c.serve.new.self c.serve.ensures.name,
        ),
      ))
    ]
