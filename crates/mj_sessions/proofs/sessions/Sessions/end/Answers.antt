use Rattle.std.proofs.Common.{◌≡◌, sym, ◌∙◌, ap, subst, List, Some, inl, inr, refl}
use Rattle.std.specs.List.{position}
use Rattle.mj_sessions.specs.Named.{Named, Roomy, is_named, AreApart, session_of}
use Rattle.mj_sessions.proofs.Places.{absent, found_ends, found_left, found_session}
use Rattle.mj_sessions.proofs.sessions.Sessions.end.Goals as goal

pub returns-in-None-clause-ends : goal.returns-in-None-clause-ends
returns-in-None-clause-ends g c = inl (absent (is_named c.args.name.now) c.args.self.now.sessions (sym c.place.ensures ∙ c.in-None.is), refl, refl)

pub invariant_of-self : goal.invariant_of-self
invariant_of-self g c =
    let found : position (is_named c.args.name.now) c.self.inside.held.items ≡ Some c.in-Some.place =
    ap (λ (r : Roomy). position (is_named c.args.name.now) r.sessions) c.self.view_is ∙ sym c.place.ensures ∙ c.in-Some.is in
    let P : List Named → Type 0 = λ l. AreApart l in
    subst P (sym c.remove-held.ensures.items) (found_left c.args.name.now c.self.inside.held.items c.in-Some.place c.remove-held.result found c.remove-held.ensures.value c.self.invariant)

pub returns-in-Some-clause-ends : goal.returns-in-Some-clause-ends
returns-in-Some-clause-ends g c =
    let found : position (is_named c.args.name.now) c.self.inside.held.items ≡ Some c.in-Some.place =
    ap (λ (r : Roomy). position (is_named c.args.name.now) r.sessions) c.self.view_is ∙ sym c.place.ensures ∙ c.in-Some.is in
    rw (← c.self.view_is, c.remove-held.ensures.items)
    (found_ends c.args.name.now c.self.inside.held.items c.in-Some.place c.remove-held.result found c.remove-held.ensures.value c.end.result c.end.ensures.ending)

pub returns-in-Some-clause-asked : goal.returns-in-Some-clause-asked
returns-in-Some-clause-asked g c =
    let found : position (is_named c.args.name.now) c.self.inside.held.items ≡ Some c.in-Some.place =
    ap (λ (r : Roomy). position (is_named c.args.name.now) r.sessions) c.self.view_is ∙ sym c.place.ensures ∙ c.in-Some.is in
    inr (
      c.remove-held.result,
      sym (ap (λ (r : Roomy). session_of c.args.name.now r.sessions) c.self.view_is)
          ∙ found_session c.args.name.now c.self.inside.held.items c.in-Some.place c.remove-held.result found c.remove-held.ensures.value,
      c.end.ensures.asked,
    )
