-- The line at which a job stands, and what it asks there.
use Rattle.std.specs.Prelude.{Result, Ok, Err, IfOk, IfSome, take, slice_get}
use Rattle.std.proofs.Common.{◌≡◌, ℕ, ◌≤◌, ◌⊎◌, inl, inr, List, [], ◌∷◌, ◌++◌, length, map, Option, Some, None, refl, sym, ap, ◌∙◌, subst, arith}
use Rattle.std.proofs.lemmas.Option.{same_Some, slice_get_within}
use Rattle.std.proofs.lemmas.List.{take-append-le, length-append}
use Rattle.mj_ask.specs.declared.ask.Ask.{Ask}
use Rattle.mj_semantics.specs.Program.{Program}
use Rattle.mj_semantics.specs.State.{State, Frame, Place, places, place_of}
use Rattle.mj_semantics.specs.Outcome as outcomes
use Rattle.mj_load.specs.Image.{Loaded, program_of}
use Rattle.mj_jobvm.specs.Run.{Run}
use Rattle.mj_jobvm.specs.Jobs.{Running}
use Rattle.mj_sys.specs.declared.event.Event.{Event}
use Rattle.mj_sys.specs.Shared.{Shared}
use Rattle.mj_sys.specs.History.{History}
use Rattle.mj_core.specs.declared.seen.Ready.{Ready}
use Rattle.mj_core.specs.declared.seen.Ready.TheVariants as readies
use Rattle.mj_core.specs.Shown.{AtAsk, Shown}
use Rattle.mj_core.specs.Asking.{IfAsks, IsAtAsk, IsSeenAt}
use Rattle.mj_retrace.specs.Made.{SeesAsk}
use Rattle.mj_retrace.specs.Retraced.{Spot, innermost, AsksFrom, IsSpot, AreSpots, AreAsked}
use Rattle.mj_retrace.proofs.Listed.{get_last, get_front, get_cases, take_front}

-- ---- the innermost line

-- a place as a routine and a line
abbrev spot_at : Option Place → Spot
spot_at None = None
spot_at (Some p) = Some (p.routine, p.line)

innermost_is : (s : State) → innermost (places s) ≡ spot_at (place_of s)
innermost_is s = by s.frames where
  by : (fs : List Frame) → innermost (map (λ (f : Frame). f.place) fs) ≡ spot_at (elim fs as (λ _. Option Place) [ [] ↦ None | f ∷ fs ↦ Some f.place ])
  by [] = refl
  by (f ∷ fs) = refl

pub no_line : (s : State) → None ≡ place_of s → None ≡ innermost (places s)
no_line s none = ap spot_at none ∙ sym (innermost_is s)

pub on_line : (s : State) (routine : List ℕ) (line : ℕ) → Some (record { routine = routine; line = line }) ≡ place_of s → Some (routine, line) ≡ innermost (places s)
on_line s routine line some = ap spot_at some ∙ sym (innermost_is s)

-- ---- a job that waits at its ask

module _ (image : Loaded) (opening : Shared) (history : History) (job : ℕ) (found : Running) (at : IsAtAsk image opening history job found) where
  asks_by : (next : Option (Ask × Spot)) → SeesAsk found.run next → IfSome next (λ a. AsksFrom (program_of image) opening history job a.0 a.1)
  asks_by None sees = tt
  asks_by (Some next) sees =
      let its : at.ask ≡ next.0 = same_Some at.ask next.0 (sym at.waits ∙ sees.0) in
      record {
        row = at.row;
        there = at.there;
        turns = at.needs.0;
        locals = found.run.at.state.locals;
        places = places found.run.at.state;
        asks = at.needs.1 ∙ ap (λ (a : Ask). outcomes.Needs a found.run.at.state.locals (places found.run.at.state)) its;
        line = sees.1;
      }

asks_next : (image : Loaded) (opening : Shared) (history : History) (job : ℕ) {E : Type 0} (told : Result (Option (Ask × Spot)) E)
    → IfOk told (λ next. (found : Running) × IsAtAsk image opening history job found × SeesAsk found.run next)
    → IfOk told (λ next. IfSome next (λ a. AsksFrom (program_of image) opening history job a.0 a.1))
asks_next image opening history job (Ok next) is = asks_by image opening history job is.0 is.1 next is.2
asks_next image opening history job (Err e) is = tt

-- what is seen of it is what it asks next, where nothing was asked or told since
pub asks_still : (first core : Shown) (opening : Shared) (job : ℕ) {E : Type 0} (ready : Ready (Result (Option (Ask × Spot)) E)) (told : Result (Option (Ask × Spot)) E)
    → core.image ≡ first.image → core.history ≡ first.history → ready ≡ readies.Asks told
    → IfAsks (Ok ready) (λ seen. IfOk seen (λ next. (found : Running) × IsAtAsk core.image opening core.history job found × SeesAsk found.run next))
    → IfOk told (λ next. IfSome next (λ a. AsksFrom (program_of first.image) opening first.history job a.0 a.1))
asks_still first core opening job {E = E} ready told image history is asks =
    let A : Ready (Result (Option (Ask × Spot)) E) → Type 0 =
    λ r. IfAsks (Ok r) (λ seen. IfOk seen (λ next. (found : Running) × IsAtAsk core.image opening core.history job found × SeesAsk found.run next)) in
    let P : Loaded → History → Type 0 = λ i h. IfOk told (λ next. IfSome next (λ a. AsksFrom (program_of i) opening h job a.0 a.1)) in
    subst (λ i. P i first.history) image (subst (λ h. P core.image h) history (asks_next core.image opening core.history job told (subst A is asks)))

-- where a job stands that is shown at an ask is the line of that
pub spot_shown : {E : Type 0} (told : Result Spot E) (run : Run) (stand : Option AtAsk) (at : AtAsk) → stand ≡ Some at → (a : AtAsk) × (stand ≡ Some a) × IsSeenAt run a
    → IfOk told (λ spot. spot ≡ innermost (places run.at.state)) → IfOk told (λ spot. spot ≡ innermost at.places)
spot_shown (Ok spot) run stand at there shown is =
    let same : shown.0 ≡ at = same_Some shown.0 at (sym shown.1 ∙ there) in
    is ∙ ap innermost (sym shown.2.1) ∙ ap (λ (a : AtAsk). innermost a.places) same
spot_shown (Err e) run stand at there shown is = tt

asked_on : (image : Program) (opening : Shared) (history : History) (asked : List (ℕ × Ask)) (stands : List Spot) (job : ℕ) (ask : Ask) (spot : Spot)
    → AreAsked image opening history asked stands → AsksFrom image opening history job ask spot
    → AreAsked image opening history (asked ++ (job, ask) ∷ []) (stands ++ spot ∷ [])
asked_on image opening history [] [] job ask spot are asks = (asks, tt)
asked_on image opening history [] (s ∷ stands) job ask spot are asks = absurd are
asked_on image opening history (a ∷ asked) [] job ask spot are asks = absurd are
asked_on image opening history (a ∷ asked) (s ∷ stands) job ask spot are asks = (are.0, asked_on image opening history asked stands job ask spot are.1 asks)

-- one ask more
pub asked_next : (image : Program) (opening : Shared) (history : History) (asked more_asked : List (ℕ × Ask)) (stands more_stands : List Spot) (job : ℕ) (ask : Ask) (spot : Spot)
    (next : Option (Ask × Spot)) → next ≡ Some (ask, spot) → more_asked ≡ asked ++ (job, ask) ∷ [] → more_stands ≡ stands ++ spot ∷ []
    → IfSome next (λ a. AsksFrom image opening history job a.0 a.1) → AreAsked image opening history asked stands → AreAsked image opening history more_asked more_stands
asked_next image opening history asked more_asked stands more_stands job ask spot next is put_ask put_spot asks are =
    let I : Option (Ask × Spot) → Type 0 = λ o. IfSome o (λ a. AsksFrom image opening history job a.0 a.1) in
    let P : List (ℕ × Ask) → List Spot → Type 0 = λ a s. AreAsked image opening history a s in
    subst (λ a. P a more_stands) (sym put_ask) (subst (λ s. P (asked ++ (job, ask) ∷ []) s) (sym put_spot)
    (asked_on image opening history asked stands job ask spot are (subst I is asks)))

-- ---- one event more

module _ (image : Program) (opening : Shared) (history : History) (e : Event) where
  -- where an event comes from doesn't hang on those behind it
  spot_on : (place : ℕ) (spot : Spot) → IsSpot image opening history place spot → IsSpot image opening (history ++ e ∷ []) place spot
  spot_on place spot is =
      let within : place ≤ length history = (let less = slice_get_within history place is.event is.there in omega (arith, less)) in
      let P : History → Type 0 = λ h. AsksFrom image opening h is.event.job is.event.ask spot in
      record {
        event = is.event;
        there = get_front history e place is.event is.there;
        asks = subst P (sym (take-append-le place history (e ∷ []) within)) is.asks;
      }

  -- the next one comes from where its job asks
  pub spots_on : (spots : List Spot) (spot : Spot) → AreSpots image opening history spots → AsksFrom image opening history e.job e.ask spot
      → AreSpots image opening (history ++ e ∷ []) (spots ++ spot ∷ [])
  spots_on spots spot are asks = record {
    each = (let long = length-append spots (spot ∷ []) in let more = length-append history (e ∷ []) in let all = are.each in omega (arith, long, more, all));
    are = λ place x there. by place x (get_cases spots spot place x there);
  } where
    by : (place : ℕ) (x : Spot) → (slice_get spots place ≡ Some x) ⊎ ((place ≡ length spots) × (spot ≡ x)) → IsSpot image opening (history ++ e ∷ []) place x
    by place x (inl front) = spot_on place x (are.are place x front)
    by place x (inr last) =
        let at : place ≡ length history = last.0 ∙ are.each in
        let P : History → Spot → Type 0 = λ h s. AsksFrom image opening h e.job e.ask s in
        record {
          event = e;
          there = ap (slice_get (history ++ e ∷ [])) at ∙ get_last history e;
          asks = subst (λ s. P (take place (history ++ e ∷ [])) s) last.1
              (subst (λ h. P h spot) (sym (ap (λ n. take n (history ++ e ∷ [])) at ∙ take_front history e)) asks);
        }
