-- Whose step it is, and what comes of it.
use Rattle.std.specs.Prelude.{Result, Ok}
use Rattle.std.proofs.Common.{◌≡◌, ℕ, suc, ◌≤◌, arith, List, ◌∷◌, length, Bool, true, false, refl, sym, ap, ◌∙◌, subst, inl, inr}
use Rattle.mj_load.specs.Image.{Loaded}
use Rattle.mj_semantics.specs.State.{Place}
use Rattle.mj_jobvm.specs.declared.job.Turn.{Turn}
use Rattle.mj_jobvm.specs.declared.job.Turn.TheVariants as turns
use Rattle.mj_sys.specs.Shared.{Shared}
use Rattle.mj_sys.specs.History.{History, state_of}
use Rattle.mj_steps.specs.declared.step.Refusal.{Refusal}
use Rattle.mj_core.specs.Gives.{GivesReady}
use Rattle.mj_replica.specs.declared.replica.Unshown.{Unshown}
use Rattle.mj_replica.specs.declared.replica.Unshown.TheVariants as unshown
use Rattle.mj_replica.specs.InTurn.{AreOver, IsTurnOf}
use Rattle.mj_replica.specs.Replicas.{Replayed, IsReplica}
use Rattle.mj_replica.proofs.Standing.{shared_there}
use Rattle.mj_debug.specs.declared.breaks.BreakMark.{BreakMark}
use Rattle.mj_debug.specs.declared.debugger.Gone.{Gone}
use Rattle.mj_debug.specs.declared.debugger.Gone.TheVariants as gones
use Rattle.mj_debug.specs.Goes.{IsStop, IsPassed, IsLeftUnmade, GoGives}
use Rattle.mj_debug.specs.Walks.{Walk}
use Rattle.mj_debug.proofs.Growing.{ready_keeps}
use Rattle.mj_debug.proofs.Stopping.{front_whole}

-- what was stepped by Go at a `go`'s first step is what it passes
pub passed : (opening : Shared) (old : Walk) (job : ℕ) (gone : Gone) (new : Walk) → old.place ≡ length old.core.history
    → IsTurnOf (state_of opening old.core.history).rows old.turn job → IsPassed opening old job gone new → GoGives opening old true gone new
passed opening old job gone new end turn is =
    let P : Gone → Type 0 = λ x. GoGives opening old true x new in
    subst P (sym is.1) (end, turn, is.2, is.3)

-- A job came to its next ask, and so it stands: nothing else changed.
module _ (opening : Shared) (was mid old : Walk) (job : ℕ) (answer : Result Turn Refusal) (same : was ≡ old) (asks : answer ≡ Ok turns.Asks)
    (gives : GivesReady opening was.core job answer mid.core) (rest : mid ≡ record was { core = mid.core }) where
  pub came : GivesReady opening old.core job (Ok turns.Asks) mid.core
  came =
      let P : Walk → Type 0 = λ w. GivesReady opening w.core job (Ok turns.Asks) mid.core in
      let Q : Result Turn Refusal → Type 0 = λ a. GivesReady opening was.core job a mid.core in
      subst P same (subst Q asks gives)

  pub rest_so : mid ≡ record old { core = mid.core }
  rest_so = rest ∙ ap (λ (w : Walk). record w { core = mid.core }) same

  -- whether it stops there is so as it was before
  stop_so : (places : List Place) (stop : Bool) → IsStop opening mid job places stop → IsStop opening old job places stop
  stop_so places stop is =
      let kept = ready_keeps opening old.core mid.core job (Ok turns.Asks) came in
      let at : Loaded → History → List BreakMark → Walk =
      λ i h m. record { core = record old.core { image = i; history = h }; place = old.place; ready = old.ready; marks = m; turn = old.turn } in
      let I : Loaded → Type 0 = λ i. IsStop opening (at i mid.core.history mid.marks) job places stop in
      let H : History → Type 0 = λ h. IsStop opening (at old.core.image h mid.marks) job places stop in
      let M : List BreakMark → Type 0 = λ m. IsStop opening (at old.core.image old.core.history m) job places stop in
      subst M (ap (λ (w : Walk). w.marks) rest_so) (subst H kept.1 (subst I kept.0 is))

  -- it doesn't stop, and is stepped
  pub passed_on : (gone : Gone) (new : Walk) → old.place ≡ length old.core.history → IsTurnOf (state_of opening old.core.history).rows old.turn job
      → (places : List Place) × IsStop opening mid job places false → IsPassed opening mid job gone new → GoGives opening old false gone new
  passed_on gone new end turn stop is =
      let P : Gone → Type 0 = λ x. GoGives opening old false x new in
      let after : List BreakMark → Walk =
      λ m. record { core = new.core; place = length new.core.history; ready = new.ready; marks = m; turn = suc job } in
      subst P (sym is.1)
      (end, turn, inl (stop.0, stop_so stop.0 false stop.1, (mid.core, came, is.2)), is.3 ∙ ap after (ap (λ (w : Walk). w.marks) rest_so))

  -- it stops at a line
  pub stopped : (routine : List ℕ) (line : ℕ) → old.place ≡ length old.core.history → old.ready ≡ true → IsTurnOf (state_of opening old.core.history).rows old.turn job
      → (outer : List Place) × IsStop opening mid job (record { routine = routine; line = line } ∷ outer) true
      → GoGives opening old false (gones.At job routine line) (record mid { turn = job })
  stopped routine line end ready turn stop = (
    end,
    refl,
    turn,
    (stop.0, stop_so (record { routine = routine; line = line } ∷ stop.0) true stop.1),
    came,
    ap (λ (w : Walk). record w { turn = job }) rest_so ∙ ap (λ (b : Bool). record old { core = mid.core; ready = b; turn = job }) ready,
  )

-- ---- a `go` at the record's end

-- a place that isn't before the record's end is that
pub at_end : {inside now : Walk} → inside ≡ now → (end : ℕ) → end ≡ length inside.core.history → end ≤ inside.place → inside.place ≤ length inside.core.history
    → now.place ≡ length now.core.history
at_end is end value past within = subst (λ (w : Walk). w.place ≡ length w.core.history) is (omega (arith, value, past, within))

-- What stands there is at hand.
module _ (opening : Shared) (mid old : Walk) (same : mid ≡ record old { ready = true }) (end : old.place ≡ length old.core.history) where
  pub still_at_end : mid.place ≡ length mid.core.history
  still_at_end = subst (λ (w : Walk). w.place ≡ length w.core.history) (sym same) end

  -- whether it is, is nothing to a `go`
  pub go_so : (first ahead : Bool) (gone : Gone) (new : Walk) → first ≡ ahead → GoGives opening mid ahead gone new → GoGives opening old first gone new
  go_so first ahead gone new is gives =
      let P : Walk → Type 0 = λ w. GoGives opening w ahead gone new in
      let F : Bool → Type 0 = λ b. GoGives opening old b gone new in
      subst F (sym is) (by gone (subst P same gives)) where
        by : (g : Gone) → GoGives opening (record old { ready = true }) ahead g new → GoGives opening old ahead g new
        by gones.NotAtEnd not = absurd (let before = not.0 in omega (arith, before, end))
        by gones.Over over = over
        by (gones.At job routine line) at = at
        by (gones.Step job answer) step = step

  -- So it is whose turn it is in the run that was played again up to there.
  module _ (replica : Replayed) (its : IsReplica mid.core.image opening mid.core.history replica) (made : replica.made ≡ mid.place) where
    played_all : state_of opening replica.system.history ≡ state_of opening mid.core.history
    played_all =
        shared_there mid.core.image opening mid.core.history replica its mid.place made ∙ ap (state_of opening) (front_whole mid.core.history mid.place still_at_end)

    -- no job's
    pub over_so : (first : Bool) → AreOver (state_of opening replica.system.history).rows 0 → GoGives opening old first gones.Over mid
    over_so first over =
        let A : Shared → Type 0 = λ s. AreOver s.rows 0 in
        let B : Walk → Type 0 = λ w. AreOver (state_of opening w.core.history).rows 0 in
        (end, subst B same (subst A played_all over), same)

    module _ (job : ℕ) (inside : Walk) (view_is : inside ≡ mid) (turn : IsTurnOf (state_of opening replica.system.history).rows inside.turn job) where
      -- or this one's
      pub turn_so : IsTurnOf (state_of opening mid.core.history).rows mid.turn job
      turn_so =
          let T : Shared → Type 0 = λ s. IsTurnOf s.rows mid.turn job in
          let N : Walk → Type 0 = λ w. IsTurnOf (state_of opening replica.system.history).rows w.turn job in
          subst T played_all (subst N view_is turn)

      -- which is stepped at the first step
      pub first_so : (first : Bool) (gone : Gone) (new : Walk) → first ≡ true → IsPassed opening mid job gone new → GoGives opening old first gone new
      first_so first gone new is stepped = go_so first true gone new is (passed opening mid job gone new still_at_end turn_so stepped)

      -- or came to its next ask at a later one, and there was no memory
      pub left_so : (first : Bool) (new : Walk) → first ≡ false → new ≡ record mid { core = new.core } → GivesReady opening mid.core job (Ok turns.Asks) new.core
          → IsLeftUnmade opening old first unshown.Memory new
      left_so first new unfirst rest gives =
          let is : new ≡ record old { core = new.core; ready = true } = rest ∙ ap (λ (w : Walk). record w { core = new.core }) same in
          let P : Walk → Type 0 = λ w. IsTurnOf (state_of opening w.core.history).rows w.turn job in
          let Q : Walk → Type 0 = λ w. GivesReady opening w.core job (Ok turns.Asks) new.core in
          (end, inr (unfirst, (job, subst P same turn_so, subst Q same gives, is)))

-- no step of a `go` was made, since what stands at the record's end isn't shown
pub unshown_so : (opening : Shared) (old new : Walk) (first : Bool) (why : Unshown) → old.place ≡ length old.core.history → new ≡ record old { ready = false }
    → IsLeftUnmade opening old first why new
unshown_so opening old new first unshown.Memory end is = (end, inl is)
unshown_so opening old new first unshown.Long end is = (end, is)
