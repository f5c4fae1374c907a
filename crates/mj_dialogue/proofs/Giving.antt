-- What a command leaves, and what is written of it.
use Rattle.std.proofs.Common.{◌≡◌, ℕ, Bool, List, Option, Some, None, Result, IfOk, sym, ap, ◌∙◌, subst}
use Rattle.std.proofs.lemmas.Result.{IfOk-weaker}
use Rattle.std.specs.Io.KnownBytes.{Appends}
use Rattle.mj_debug.specs.Walks.{Walk, GoesBack, GoesForth}
use Rattle.mj_dialogue.specs.Says.{ChangesNothing}

-- whether what is shown is at hand afterwards or not, nothing else changes
pub kept : (old new : Walk) (ready : Bool) → new ≡ record old { ready = ready } → ChangesNothing old new
kept old new ready e = e ∙ ap (λ (r : Bool). record old { ready = r }) (sym (ap (λ (w : Walk). w.ready) e))

-- what holds of an answer holds of what is written
pub gives : {E : Type 0} (r : Result Bool E) (P : List ℕ → Bool → Type 0) (old new : Option (List ℕ)) (bytes : List ℕ) (full : Bool)
    → P bytes full → IfOk r (λ told. (told ≡ full) × Appends old new bytes) → IfOk r (λ told. (x : List ℕ) × P x told × Appends old new x)
gives r P old new bytes full says put =
    IfOk-weaker r (λ told. (told ≡ full) × Appends old new bytes) (λ told. (x : List ℕ) × P x told × Appends old new x)
    (λ told is. (bytes, subst (P bytes) (sym is.0) says, is.1)) put

-- a step along the record leaves the jobs as they are
pub core_back : (old new : Walk) (at : Option ℕ) → GoesBack old at new → new.core ≡ old.core
core_back old new None is = ap (λ (w : Walk). w.core) is.1
core_back old new (Some at) is = ap (λ (w : Walk). w.core) is.1

pub core_forth : (old new : Walk) (at : Option ℕ) → GoesForth old at new → new.core ≡ old.core
core_forth old new None is = ap (λ (w : Walk). w.core) is.1
core_forth old new (Some at) is = ap (λ (w : Walk). w.core) is.2
