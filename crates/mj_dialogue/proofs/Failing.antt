-- Commands that aren't answered.
use Rattle.std.proofs.Common.{◌≡◌, ℕ, List, [], Bool, true, Option, Result, Ok, Err, IfErr, OnErr, IsErrAnd, sym, subst, inl}
use Rattle.std.proofs.lemmas.Result.{IfErr-weaker}
use Rattle.std.specs.Io.KnownBytes.{Appends}
use Rattle.mj_sys.specs.Shared.{Shared}
use Rattle.mj_replica.specs.declared.replica.Unshown.{Unshown}
use Rattle.mj_replica.specs.declared.replica.Unshown.TheVariants as unshown
use Rattle.mj_replica.specs.Replicas.{IsUnshown}
use Rattle.mj_debug.specs.Goes.{IsLeftUnmade}
use Rattle.mj_debug.specs.Walks.{Walk}
use Rattle.mj_dialogue.specs.declared.command.Command.{Command}
use Rattle.mj_dialogue.specs.declared.answering.Unanswered.{Unanswered}
use Rattle.mj_dialogue.specs.declared.answering.Unanswered.TheVariants as unanswered
use Rattle.mj_dialogue.specs.Fails.{Fails, IsHidden, IsCut, IsDone, IsUnanswered, IsOutputWritten, is_show, unanswered_of}
use Rattle.mj_dialogue.proofs.Going.{appends_none}

-- what holds of an error holds of what the exit of a `?` gives
pub at_err : {X E : Type 0} (r : Result X E) (e : E) (P : E → Type 0) → P e → IsErrAnd r (λ x. x ≡ e) → IfErr r P
at_err (Ok x) e P holds is = absurd is
at_err (Err x) e P holds is = subst P (sym is) holds

-- what holds in any case holds at an error
pub at_any_err : {X E P : Type 0} (r : Result X E) → P → OnErr r P
at_any_err (Ok x) holds = tt
at_any_err (Err e) holds = holds

-- where this was written, so it was whatever isn't answered then
pub written : (why : Unanswered) (old new : Option (List ℕ)) (bytes : List ℕ) → Appends old new bytes → IsOutputWritten why old new bytes
written unanswered.Memory old new bytes so = so
written unanswered.Long old new bytes so = so
written unanswered.Unwritten old new bytes so = tt

-- a show that isn't
pub hidden : (opening : Shared) (old new : Walk) (command : Command) (why : Unshown)
    → is_show command ≡ true → IsDone opening old command new → IsHidden opening old why new → IsUnanswered opening old command (unanswered_of why) new
hidden opening old new command unshown.Memory show done hides = done
hidden opening old new command unshown.Long show done hides = (show, hides)

-- a step of many in turn that isn't made
pub cut : (opening : Shared) (old new : Walk) (first : Bool) (why : Unshown) → IsLeftUnmade opening old first why new
    → IsUnshown old.core.image opening old.core.history old.place why → IsCut opening old first (unanswered_of why) new
cut opening old new first unshown.Memory left is = inl left
cut opening old new first unshown.Long left is = (left, is)

-- a command of which nothing was told
pub untold : (opening : Shared) (old new : Walk) (given command : Command) (why : Unanswered) (r : Result Bool Unanswered) (out : Option (List ℕ))
    → given ≡ command → Fails opening old command [] why new → IsErrAnd r (λ e. e ≡ why)
    → IfErr r (λ e. (bytes : List ℕ) × Fails opening old given bytes e new × IsOutputWritten e out out bytes)
untold opening old new given command why r out is fails err =
    let P : Unanswered → Type 0 = λ e. (bytes : List ℕ) × Fails opening old given bytes e new × IsOutputWritten e out out bytes in
    let C : Command → Type 0 = λ command. Fails opening old command [] why new in
    at_err r why P ([], subst C (sym is) fails, written why out out [] (appends_none out)) err

-- a command whose answer isn't written
pub unwritten : (opening : Shared) (old new : Walk) (given command : Command) (r : Result Bool Unanswered) (before after : Option (List ℕ))
    → given ≡ command → Fails opening old command [] unanswered.Unwritten new → IfErr r (λ e. e ≡ unanswered.Unwritten)
    → IfErr r (λ e. (bytes : List ℕ) × Fails opening old given bytes e new × IsOutputWritten e before after bytes)
unwritten opening old new given command r before after is fails err =
    let P : Unanswered → Type 0 = λ e. (bytes : List ℕ) × Fails opening old given bytes e new × IsOutputWritten e before after bytes in
    let C : Command → Type 0 = λ command. Fails opening old command [] unanswered.Unwritten new in
    IfErr-weaker r (λ e. e ≡ unanswered.Unwritten) P (λ e same. subst P (sym same) ([], subst C (sym is) fails, tt)) err
