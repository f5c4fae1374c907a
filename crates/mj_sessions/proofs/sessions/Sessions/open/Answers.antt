use Rattle.std.proofs.Common.{◌≡◌, ◌++◌, ◌∷◌, [], None, sym, ◌∙◌, ap, subst, List}
use Rattle.mj_sessions.specs.Named.{Named, Roomy, AreApart, AreTold, session_of}
use Rattle.mj_sessions.proofs.Places.{apart_more}
use Rattle.mj_sessions.proofs.Telling.{told_open, told_shared}
use Rattle.mj_sessions.proofs.sessions.Sessions.open.Goals as goal

pub invariant_of-self : goal.invariant_of-self
invariant_of-self g c =
    let s : Named = record { name = c.args.name; session = c.args.session } in
    let items = c.self.inside.held.items in
    let absent : session_of c.args.name items ≡ None = ap (λ (r : Roomy). session_of c.args.name r.sessions) c.self.view_is ∙ c.requires.absent in
    let P : List Named → Type 0 = λ l. AreApart l in
    subst P (sym (c.push_reserved.ensures.items ∙ ap (λ t. items ++ t ∷ []) c.new.ensures)) (apart_more items s absent c.self.invariant)

pub returns-clause-told : goal.returns-clause-told
returns-clause-told g c = λ log ask reply shared all.
    let s : Named = record { name = c.args.name; session = c.args.session } in
    let items = c.self.inside.held.items in
    let absent : session_of c.args.name items ≡ None = ap (λ (r : Roomy). session_of c.args.name r.sessions) c.self.view_is ∙ c.requires.absent in
    let Q : Roomy → Type 0 = λ r. AreTold log r.sessions in
    let P : List Named → Type 0 = λ l. AreTold (log ++ (ask, reply) ∷ []) l in
    subst P (sym (c.push_reserved.ensures.items ∙ ap (λ t. items ++ t ∷ []) c.new.ensures))
    (told_shared log (items ++ s ∷ []) ask reply shared (told_open log items s absent c.requires.new (subst Q (sym c.self.view_is) all)))
