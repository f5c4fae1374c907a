use Rattle.std.proofs.Common.{List, true, sym, ap, ◌∙◌, subst}
use Rattle.std.specs.Prelude.{if◌then◌else◌}
use Rattle.std.specs.Option.{is_some}
use Rattle.std.specs.Str.{bytes_eq}
use Rattle.mj_sessions.specs.Named.{Named, session_of, AreTold}
use Rattle.mj_sessions.proofs.Telling.{told_open}
use Rattle.mj_core.proofs.Serving.{there_more}
use Rattle.mj_core.proofs.by_sessions.SessionsAnswererFresh.open.Goals as goal

pub returns-clause-of : goal.returns-clause-of
returns-clause-of g c = λ log told.
    let s : Named = record { name = c.args.name; session = c.session.result } in
    let T : List Named → Type 0 = λ l. AreTold log l in
    subst T (sym c.open.ensures.sessions) (told_open log c.args.self.now.sessions s c.requires.1 c.session.ensures.new told)

pub returns-clause-there : goal.returns-clause-there
returns-clause-there g c = λ other has held.
    let s : Named = record { name = c.args.name; session = c.session.result } in
    ap (λ l. is_some (session_of other l)) c.open.ensures.sessions ∙ there_more other c.args.self.now.sessions s
    ∙ ap (λ b. if bytes_eq c.args.name other then true else b) held
