-- Recorded events made again, and what is known of where they came from.
use Rattle.std.specs.Prelude.{slice_get, take, ◌↔◌, IsTrue}
use Rattle.std.proofs.Common.{◌≡◌, ℕ, ◌+◌, ◌≤◌, List, [], ◌∷◌, ◌++◌, length, Bool, true, false, Option, Some, refl, sym, ap, ◌∙◌, subst, inl}
use Rattle.mj_ask.specs.declared.noted.Noted.{Noted}
use Rattle.mj_ask.specs.declared.noted.Spot.{Spot}
use Rattle.mj_load.specs.Image.{Loaded, program_of}
use Rattle.mj_semantics.specs.State.{Place}
use Rattle.mj_sys.specs.Shared.{Shared}
use Rattle.mj_sys.specs.History.{History}
use Rattle.mj_sys.specs.System.{Recorded}
use Rattle.mj_core.specs.Runs.{IsRun}
use Rattle.mj_replica.specs.declared.replaying.Verdict.{Verdict}
use Rattle.mj_replica.specs.declared.replaying.Verdict.TheVariants as verdicts
use Rattle.mj_replica.specs.declared.walking.Sought.{Sought}
use Rattle.mj_replica.specs.declared.walking.Sought.TheVariants as sought
use Rattle.mj_replica.specs.Replays.{event_of, history_of, Says}
use Rattle.mj_replica.specs.Placed.{spot_place, spot_for, AllCameFrom, SaysPlaced, AreLocated, place_in}
use Rattle.mj_replica.specs.Playing.{Playing, AreStaged, Stages}
use Rattle.mj_replica.specs.Walks.{AreKnown, IsFirstOff, Walks, Looks}
use Rattle.mj_replica.proofs.Staging.{is_run}
use Rattle.mj_replica.proofs.Rounds.{round_off, all_made}
use Rattle.mj_replica.proofs.Spotting.{history_take, from_on, from_off, located_on, same_on, take_whole, same_spot}

-- before the first event
pub known_none : (image : Loaded) (opening : Shared) (what : Sought) (found : List Noted) → found ≡ [] → AreKnown (program_of image) opening what [] found
known_none image opening sought.Nothing found none = tt
known_none image opening sought.Recorded found none = tt
known_none image opening sought.All found none =
    (ap history_of none, subst (λ (l : List Noted). AllCameFrom (program_of image) opening [] l) (sym none) tt)

module _ (image : Loaded) (opening : Shared) (events : List Noted) (at : ℕ) (e : Noted) (is : slice_get events at ≡ Some e) (found : List Noted) where
  -- the next isn't made
  pub walked_off : (what : Sought) (system : Recorded) (jobs : List Playing) → AreStaged image opening (take at (history_of events)) system jobs
      → AreKnown (program_of image) opening what (take at events) found → (new : Recorded) (jobs' : List Playing)
      → Stages image opening (take at (history_of events)) (event_of e) false new jobs' → IsFirstOff (program_of image) opening what events at
  walked_off sought.Nothing system jobs staged known new jobs' not = round_off image opening events at e is system jobs staged new jobs' not
  walked_off sought.Recorded system jobs staged known new jobs' not =
      record { event = e; there = is; before = is_run image opening (take at (history_of events)) system jobs staged; from = known; apart = inl not }
  walked_off sought.All system jobs staged known new jobs' not = round_off image opening events at e is system jobs staged new jobs' not

  module _ (new : Recorded) (jobs' : List Playing) (made : AreStaged image opening (take at (history_of events) ++ event_of e ∷ []) new jobs') (found' : List Noted) where
    -- it came from elsewhere
    pub walked_apart : (what : Sought) → IsRun (program_of image) opening (take at (history_of events)) → AreKnown (program_of image) opening what (take at events) found
        → Looks what jobs' e found false found' → IsFirstOff (program_of image) opening what events at
    walked_apart sought.Nothing before known looks = absurd (let no : false ≡ true = looks in cc)
    walked_apart sought.Recorded before known looks = from_off image opening events at e is new jobs' made before known looks
    walked_apart sought.All before known looks = absurd (let no : false ≡ true = looks.0 in cc)

    -- it was made
    pub walked_on : (what : Sought) → AreKnown (program_of image) opening what (take at events) found → Looks what jobs' e found true found'
        → AreKnown (program_of image) opening what (take (at + 1) events) found'
    walked_on sought.Nothing known looks = tt
    walked_on sought.Recorded known looks = from_on image opening events at e is new jobs' made known looks
    walked_on sought.All known looks =
        let so : history_of found ≡ take at (history_of events) = known.0 ∙ history_take events at in
        let f : Noted = looks.1 in
        let A : List Noted → Type 0 = λ l. AllCameFrom (program_of image) opening [] l in (
          ap history_of looks.2 ∙ same_on events found at e f is looks.3 so ∙ sym (history_take events (at + 1)),
          subst A (sym looks.2) (located_on image opening events at e is new jobs' made found so known.1 f looks.3 looks.4),
        )

-- all were made
pub walked_all : (image : Loaded) (opening : Shared) (events : List Noted) (at : ℕ) (system : Recorded) (jobs : List Playing) (what : Sought) (found : List Noted)
    → length events ≤ at → AreStaged image opening (take at (history_of events)) system jobs → AreKnown (program_of image) opening what (take at events) found
    → Walks (program_of image) opening what events verdicts.Same found
walked_all image opening events at system jobs what found past staged known = (
  all_made image opening events at system jobs past staged,
  subst (λ (l : List Noted). AreKnown (program_of image) opening what l found) (take_whole events at past) known,
)

-- ---- one event

pub looked : (jobs : List Playing) (e : Noted) (old new : List Noted) (agrees : Bool) → IsTrue agrees ↔ (place_in jobs e.job ≡ Some (spot_place e.spot))
    → Looks sought.Recorded jobs e old agrees new
looked jobs e old new true so = so.0 refl
looked jobs e old new false so = λ there. absurd (let no : false ≡ true = so.1 there in cc)

pub looked_all : (jobs : List Playing) (e noted : Noted) (old new : List Noted) (spot : Option Spot) → noted ≡ record e { spot = spot } → new ≡ old ++ noted ∷ []
    → ((place : Option Place) → place_in jobs e.job ≡ Some place → spot ≡ spot_for place) → Looks sought.All jobs e old true new
looked_all jobs e noted old new spot is on placed = (
  refl,
  noted,
  on,
  ap event_of is,
  λ place there. ap (λ (n : Noted). spot_place n.spot) is ∙ ap spot_place (placed place there) ∙ same_spot place,
)

-- ---- what is said of all

pub says : (image : Loaded) (opening : Shared) (events found : List Noted) (verdict : Verdict)
    → Walks (program_of image) opening sought.Nothing events verdict found → Says (program_of image) opening (history_of events) verdict
says image opening events found verdicts.Same walks = walks.0
says image opening events found (verdicts.Differs at) walks = walks

pub says_placed : (image : Loaded) (opening : Shared) (events found : List Noted) (verdict : Verdict)
    → Walks (program_of image) opening sought.Recorded events verdict found → SaysPlaced (program_of image) opening events verdict
says_placed image opening events found verdicts.Same walks = walks
says_placed image opening events found (verdicts.Differs at) walks = walks

pub all_located : (image : Loaded) (opening : Shared) (events found : List Noted)
    → Walks (program_of image) opening sought.All events verdicts.Same found → AreLocated (program_of image) opening events found
all_located image opening events found walks =
    let P : History → Type 0 = λ h. IsRun (program_of image) opening h in
    record { run = subst P (sym walks.1.0) walks.0; same = walks.1.0; from = walks.1.1 }
