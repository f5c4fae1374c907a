-- Whether a job comes to a line to stop at.
use Rattle.std.specs.Prelude.{Option, Some, None, take, not, ◌&&◌}
use Rattle.std.proofs.Common.{◌≡◌, ℕ, List, [], ◌∷◌, length, map, Bool, true, false, refl, sym, ap, ◌∙◌, subst}
use Rattle.std.proofs.lemmas.Option.{none-some, same_Some}
use Rattle.mj_semantics.specs.State.{State, Frame, Place, places, place_of}
use Rattle.mj_load.specs.Image.{program_of}
use Rattle.mj_jobvm.specs.Jobs.{Running}
use Rattle.mj_sys.specs.Shared.{Shared}
use Rattle.mj_sys.specs.History.{History}
use Rattle.mj_core.specs.Asking.{IsAtAsk}
use Rattle.mj_replica.specs.Shows.{HasStood}
use Rattle.mj_debug.specs.Breaks.{stops, is_breakpoint, is_there}
use Rattle.mj_debug.specs.Goes.{innermost, ComesToAsk, IsStop}
use Rattle.mj_debug.specs.Walks.{Walk}

-- the innermost of a state's lines is its place
pub inner : (s : State) → innermost (places s) ≡ place_of s
inner s = by s.frames where
  by : (fs : List Frame) → innermost (map (λ (f : Frame). f.place) fs) ≡ elim fs [ [] ↦ None | f ∷ fs ↦ Some f.place ]
  by [] = refl
  by (f ∷ fs) = refl

-- and the first of them
pub first_line : (s : State) (p : Place) → place_of s ≡ Some p → (outer : List Place) × (places s ≡ p ∷ outer)
first_line s p is = by s.frames is where
  by : (fs : List Frame) → elim fs [ [] ↦ None | f ∷ fs ↦ Some f.place ] ≡ Some p → (outer : List Place) × (map (λ (f : Frame). f.place) fs ≡ p ∷ outer)
  by [] e = absurd (none-some p e)
  by (f ∷ fs) e = (map (λ (f : Frame). f.place) fs, ap (λ (x : Place). x ∷ map (λ (f : Frame). f.place) fs) (same_Some f.place p e))

take_whole : {X : Type 0} (xs : List X) → take (length xs) xs ≡ xs
take_whole [] = refl
take_whole (x ∷ xs) = ap (λ l. x ∷ l) (take_whole xs)

-- at the record's end all of it is before the place
pub front_whole : (history : History) (place : ℕ) → place ≡ length history → take place history ≡ history
front_whole history place end = ap (λ n. take n history) end ∙ take_whole history

module _ (opening : Shared) (w : Walk) (job : ℕ) (found : Running) (asks : IsAtAsk w.core.image opening w.core.history job found) where
  -- a job that stands at its ask comes to its next ask there
  pub comes : ComesToAsk (program_of w.core.image) opening w.core job (places found.run.at.state)
  comes = (asks.row, asks.there, (asks.needs.0, asks.ask, found.run.at.state.locals, asks.needs.1))

  -- and whether that is one to stop at
  pub stop_is : (before : Running) → HasStood (program_of w.core.image) opening w.core.history job before.run.at.state.locals (places before.run.at.state)
      → (b : Bool) → stops w.core.image w.marks (place_of before.run.at.state) (place_of found.run.at.state) ≡ b
      → IsStop opening w job (places found.run.at.state) b
  stop_is before stood b is = (
    places before.run.at.state,
    before.run.at.state.locals,
    stood,
    comes,
    ap (λ (p : Option Place). stops w.core.image w.marks p (innermost (places found.run.at.state))) (inner before.run.at.state)
        ∙ ap (λ (p : Option Place). stops w.core.image w.marks (place_of before.run.at.state) p) (inner found.run.at.state) ∙ is,
  )

  module _ (before : Running) (stood : HasStood (program_of w.core.image) opening w.core.history job before.run.at.state.locals (places before.run.at.state)) where
    abbrev Stays : Type 0
    Stays = (lines : List Place) × IsStop opening w job lines false

    -- one without a frame doesn't stop
    pub no_line : None ≡ place_of found.run.at.state → Stays
    no_line none = (
      places found.run.at.state,
      stop_is before stood false (ap (λ (p : Option Place). stops w.core.image w.marks (place_of before.run.at.state) p) (sym none)),
    )

    module _ (line : Place) (there : Some line ≡ place_of found.run.at.state) where
      at_line : (b : Bool) → is_breakpoint w.core.image w.marks line ≡ b
          → stops w.core.image w.marks (place_of before.run.at.state) (place_of found.run.at.state) ≡ (b && not (is_there line (place_of before.run.at.state)))
      at_line b bp =
          ap (λ (p : Option Place). stops w.core.image w.marks (place_of before.run.at.state) p) (sym there)
          ∙ ap (λ (x : Bool). x && not (is_there line (place_of before.run.at.state))) bp

      -- nor one at a line that is no breakpoint
      pub no_breakpoint : is_breakpoint w.core.image w.marks line ≡ false → Stays
      no_breakpoint bp = (places found.run.at.state, stop_is before stood false (at_line false bp))

      -- nor one that came from there before
      pub from_there : is_breakpoint w.core.image w.marks line ≡ true → is_there line (place_of before.run.at.state) ≡ true → Stays
      from_there bp at = (places found.run.at.state, stop_is before stood false (at_line true bp ∙ ap (λ (x : Bool). true && not x) at))

      -- any other does
      pub stops_there : is_breakpoint w.core.image w.marks line ≡ true → is_there line (place_of before.run.at.state) ≡ false → (outer : List Place) × IsStop opening w job (line ∷ outer) true
      stops_there bp at =
          let lines = first_line found.run.at.state line (sym there) in
          let P : List Place → Type 0 = λ l. IsStop opening w job l true in
          (lines.0, subst P lines.1 (stop_is before stood true (at_line true bp ∙ ap (λ (x : Bool). true && not x) at)))
