use Rattle.std.proofs.Common.{[], List, refl, sym, ap, subst}
use Rattle.std.specs.Option.{is_some}
use Rattle.mj_sessions.specs.Named.{Named, session_of, AreTold}
use Rattle.mj_core.proofs.by_sessions.SessionsAnswererFresh.new.Goals as goal

pub returns-clause-of : goal.returns-clause-of
returns-clause-of g c = let T : List Named → Type 0 = λ l. AreTold [] l in subst T (sym c.new.ensures) (λ name. (refl, refl, refl))

pub returns-clause-none : goal.returns-clause-none
returns-clause-none g c = λ name. ap (λ l. is_some (session_of name l)) c.new.ensures
