-- What a live step comes to.
use Rattle.std.proofs.Common.{◌≡◌, ◌∙◌, inl, inr, ℕ, List, Bool, true, false, Result, Ok, Err, Option, refl, sym, ap, subst, length}
use Rattle.mj_sessions.specs.Asked.{Answering}
use Rattle.mj_sys.specs.Shared.{Shared}
use Rattle.mj_sys.specs.History.{History}
use Rattle.mj_core.specs.Shown.{Shown}
use Rattle.mj_steps.specs.declared.step.Step.{Step}
use Rattle.mj_steps.specs.declared.step.Refusal.{Refusal}
use Rattle.mj_steps.specs.declared.round.Standing.{Standing}
use Rattle.mj_run.specs.Stepping.{StepsAs}
use Rattle.mj_live.specs.Events.{session_after, IsShownAt, bytes_at}
use Rattle.mj_live.specs.Shows.{Living, LiveStep, IsLooking}
use Rattle.mj_live.proofs.Growing.{made, stays}
use Rattle.mj_live.proofs.Printing.{printed_on, session_on}
use Rattle.mj_live.proofs.Turning.{shows_none, differ}
use Rattle.std.specs.Prelude.{slice_get}

module _ (tells : Answering) (opening : Shared) (old new : Living) (step : Step) where
  -- nothing could be written before
  pub closed_step : (why : Refusal) → old.closed ≡ true → new ≡ old → LiveStep tells opening old step (Err why) new
  closed_step why closed same = inr (ap (λ (l : Living). l.closed) same ∙ closed, inl (ap (λ (l : Living). l.core) same, closed))

  -- it isn't made
  pub refused_step : (why : Refusal) → StepsAs tells opening old.core step (Err why) new.core → old.closed ≡ false → new.closed ≡ false → new.contents ≡ old.contents
      → LiveStep tells opening old step (Err why) new
  refused_step why steps unclosed still kept = inl (steps, unclosed, still, shows_none old new kept (stays tells opening old.core new.core step why steps))

  -- it is made, and shown
  pub shown_step : (standing : Standing) (place : ℕ) → StepsAs tells opening old.core step (Ok standing) new.core → old.closed ≡ false → new.closed ≡ false
      → IsLooking old.core.history old.session old.closed → place ≡ length old.core.history
      → IsShownAt new.core.history place old.session old.contents new.session new.contents → LiveStep tells opening old step (Ok standing) new
  shown_step standing place steps unclosed still looking at shown = (
    steps,
    unclosed,
    still,
    (
      bytes_at old.session (slice_get new.core.history place),
      shown.1,
      printed_on old.core.history new.core.history place old.session (made tells opening old.core new.core step standing steps) at (looking unclosed),
    ),
  )

  -- it is made, and its bytes are lost
  pub lost_step : (standing : Standing) (why : Refusal) → StepsAs tells opening old.core step (Ok standing) new.core → new.closed ≡ true
      → LiveStep tells opening old step (Err why) new
  lost_step standing why steps closed = inr (closed, inr (standing, steps))

  -- which session is looked at behind it
  pub looking_on : (standing : Standing) (place : ℕ) → StepsAs tells opening old.core step (Ok standing) new.core → old.closed ≡ false
      → IsLooking old.core.history old.session old.closed → place ≡ length old.core.history
      → IsShownAt new.core.history place old.session old.contents new.session new.contents → IsLooking new.core.history new.session new.closed
  looking_on standing place steps unclosed looking at shown still =
      session_on old.core.history new.core.history place old.session new.session (made tells opening old.core new.core step standing steps) at (looking unclosed) shown.0

  pub looking_still : (why : Refusal) → StepsAs tells opening old.core step (Err why) new.core → old.closed ≡ false
      → IsLooking old.core.history old.session old.closed → new.session ≡ old.session → IsLooking new.core.history new.session new.closed
  looking_still why steps unclosed looking same still =
      same ∙ looking unclosed ∙ ap (session_after 1) (sym (stays tells opening old.core new.core step why steps))

pub looking_closed : (history : History) (session : ℕ) → IsLooking history session true
looking_closed history session unclosed = absurd (differ true refl unclosed)
