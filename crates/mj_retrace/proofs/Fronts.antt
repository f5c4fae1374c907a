-- The events of a trace before one are made again, and what its job does behind them.
use Rattle.std.specs.Prelude.{take, replicate, slice_get, IfOk, IfSome, Result, Ok, Err}
use Rattle.std.specs.Option.{option_map}
use Rattle.std.proofs.Common.{◌≡◌, ℕ, ◌+◌, ◌<◌, ◌≤◌, true, false, List, [], ◌∷◌, ◌++◌, length, Option, Some, None, refl, sym, ap, ◌∙◌, subst, arith}
use Rattle.std.proofs.lemmas.List.{length-map, length-take-le}
use Rattle.std.proofs.lemmas.Option.{same_Some, slice_get-map, slice_get_read}
use Rattle.std.specs.Slice.{IsItemAt}
use Rattle.std.specs.Borrow.{Bor}
use Rattle.mj_ask.specs.declared.ask.Ask.{Ask}
use Rattle.mj_ask.specs.declared.ask.Reply.{Reply}
use Rattle.mj_ask.specs.declared.noted.Noted.{Noted}
use Rattle.mj_ask.specs.Fits.{is_shared}
use Rattle.mj_load.specs.Image.{Loaded, program_of}
use Rattle.mj_jobs.specs.Rows.{rows_limit}
use Rattle.mj_sys.specs.Shared.{Shared}
use Rattle.mj_sys.specs.History.{History}
use Rattle.mj_core.specs.Shown.{Shown}
use Rattle.mj_core.specs.Runs.{IsRun}
use Rattle.mj_replica.specs.Replays.{event_of, history_of}
use Rattle.mj_replica.proofs.Rounds.{front_on}
use Rattle.mj_retrace.specs.Retraced.{Spot, AsksFrom}
use Rattle.mj_retrace.specs.Made.{MakesAgain, event_by}
use Rattle.mj_retrace.specs.Instead.{IsFront, IsInstead, MayTell}
use Rattle.mj_retrace.specs.declared.doing.Instead.{Instead}

-- none was made yet
pub front_none : (events : List Noted) (core : Shown) → core.history ≡ [] → core.over ≡ replicate rows_limit false → IsFront core.image events 0 core
front_none events core none going = record { same = refl; made = none; going = going }

-- there is room for one event more
pub front_short : (image : Loaded) (events : List Noted) (k : ℕ) (core : Shown) → IsFront image events k core → k < length events → length events ≤ image.bounds.events
    → length core.history < core.image.bounds.events
front_short image events k core is less short =
    let same = length-map events event_of in
    let long : length core.history ≡ k = ap (λ (h : History). length h) is.made ∙ length-take-le k (history_of events) (omega (arith, same, less)) in
    let room : core.image.bounds.events ≡ image.bounds.events = ap (λ (i : Loaded). i.bounds.events) is.same in
    omega (arith, long, less, short, room)

-- one event more
pub front_more : (opening : Shared) (image : Loaded) (events : List Noted) (k : ℕ) (e : Noted) → slice_get events k ≡ Some e → (old new : Shown) → IsFront image events k old
    → MakesAgain old.image opening old.history e.job e.ask e.reply new → new.image ≡ old.image → new.over ≡ old.over → IsFront image events (k + 1) new
front_more opening image events k e there old new is made same over =
    let in_history : slice_get (history_of events) k ≡ Some (event_of e) = slice_get-map event_of events k ∙ ap (option_map event_of) there in
    record {
      same = same ∙ is.same;
      made =
          made.more ∙ ap (λ (h : History). h ++ event_of e ∷ []) is.made ∙ sym (front_on (history_of events) k (event_of e) in_history);
      going = over ∙ is.going;
    }

-- what its job does behind them is what it does in its place
pub in_place : (opening : Shared) (image : Loaded) (events : List Noted) (at : ℕ) (e : Noted) → slice_get events at ≡ Some e → (core : Shown) → IsFront image events at core
    → (job : ℕ) (ask : Ask) (spot : Spot) (told : Option Reply) → job ≡ e.job → MayTell (program_of core.image) opening core.history e.job ask spot told
    → IsInstead (program_of image) opening (history_of events) at job ask spot told
in_place opening image events at e there core is job ask spot told whose may =
    let P : Loaded → History → Type 0 = λ i h. MayTell (program_of i) opening h e.job ask spot told in
    record {
      event = event_of e;
      there = slice_get-map event_of events at ∙ ap (option_map event_of) there;
      whose = whose;
      may = subst (λ i. P i (take at (history_of events))) is.same (subst (λ h. P core.image h) is.made may);
    }

-- what is lent of a list at a place
pub got_event : (events : List Noted) (at : ℕ) (r : Option (Bor Noted)) (e : Bor Noted) → r ≡ Some e → IsItemAt events at r → slice_get events at ≡ Some e.now
got_event events at None e some is = cc
got_event events at (Some x) e some is =
    let same : x ≡ e = same_Some x e some in
    slice_get_read events (length events) at x.now refl is.3.0 is.1 ∙ ap (λ (y : Bor Noted). Some y.now) same

-- what a job asks next, and what it is told then, behind a run
pub may_tell : (opening : Shared) (first core : Shown) (job : ℕ) (ask : Ask) (spot : Spot) (told : Option Reply) (next : Option (Ask × Spot)) → next ≡ Some (ask, spot)
    → IsRun (program_of first.image) opening first.history → IfSome next (λ a. AsksFrom (program_of first.image) opening first.history job a.0 a.1)
    → core.image ≡ first.image → core.history ≡ first.history
    → IfSome told (λ reply. is_shared ask ≡ true) → IfSome told (λ reply. IsRun (program_of core.image) opening (core.history ++ event_by job ask reply ∷ []))
    → MayTell (program_of first.image) opening first.history job ask spot told
may_tell opening first core job ask spot told next is run asks image history shared tells =
    let P : Loaded → History → Type 0 = λ i h. IfSome told (λ reply. IsRun (program_of i) opening (h ++ event_by job ask reply ∷ [])) in
    let Q : Option (Ask × Spot) → Type 0 = λ o. IfSome o (λ a. AsksFrom (program_of first.image) opening first.history job a.0 a.1) in
    record {
      run = run;
      asks = subst Q is asks;
      shared = shared;
      tells = subst (λ i. P i first.history) image (subst (λ h. P core.image h) history tells);
    }

-- of what all jobs share it is said
pub is_said : {E : Type 0} (r : Result (Option Reply) E) (ask : Ask) → is_shared ask ≡ true → IfOk r (λ told. IfSome told (λ reply. is_shared ask ≡ true))
is_said (Ok (Some reply)) ask is = is
is_said (Ok None) ask is = tt
is_said (Err refused) ask is = tt

-- where that is found
pub all_in_place : (opening : Shared) (image : Loaded) (events : List Noted) (at : ℕ) (e : Noted) → slice_get events at ≡ Some e → (core : Shown)
    → IsFront image events at core → {E : Type 0} (r : Result (Option Instead) E)
    → IfOk r (λ found. IfSome found (λ it. (it.job ≡ e.job) × MayTell (program_of core.image) opening core.history e.job it.ask it.spot it.told))
    → IfOk r (λ found. IfSome found (λ it. IsInstead (program_of image) opening (history_of events) at it.job it.ask it.spot it.told))
all_in_place opening image events at e there core is (Ok (Some it)) may = in_place opening image events at e there core is it.job it.ask it.spot it.told may.0 may.1
all_in_place opening image events at e there core is (Ok None) may = tt
all_in_place opening image events at e there core is (Err refused) may = tt
