-- What an ask that is served leaves of what lies under the lock.
use Rattle.std.specs.Result.{IsErrAnd}
use Rattle.std.specs.Prelude.{IfOk, IfErr, OnErr, length, nat_le}
use Rattle.std.proofs.Common.{◌≡◌, ◌<◌, ◌≤◌, ◌+◌, [], ◌∷◌, ◌++◌, length-append, ℕ, Bool, true, false, Option, Some, None, Result, Ok, Err, sym, ap, ◌∙◌, subst, arith}
use Rattle.std.proofs.lemmas.Bool.{leb-true, leb-false}
use Rattle.mj_ask.specs.declared.ask.Ask.{Ask}
use Rattle.mj_ask.specs.declared.ask.Reply.{Reply}
use Rattle.mj_dev.specs.Heard.{Heard}
use Rattle.mj_sys.specs.declared.served.Served.{Served}
use Rattle.mj_sys.specs.declared.served.Served.TheVariants as serveds
use Rattle.mj_sys.specs.declared.served.Refused.{Refused}
use Rattle.mj_sys.specs.declared.served.Refused.TheVariants as refusals
use Rattle.mj_sys.specs.Shared.{Shared}
use Rattle.mj_sys.specs.System.{Recorded, Claimed, history_limit}
use Rattle.mj_sys.specs.Told.{Serves, Records, reply_of, IsServiceRefused}
use Rattle.mj_core.specs.declared.parts.Place.{Place}
use Rattle.mj_core.specs.Ties.{IsServedAt}
use Rattle.mj_work.specs.Working.{WasServed, WasServedAt, IsRefusedIn, WasRefused}

-- where there is room for an event, there are no more than there may be with it
one_more : (events : ℕ) (old new : Recorded) (claim claim' : Claimed) (a : Ask) (told : Option Reply) → Records old claim a told new claim'
    → length old.history < events → length new.history ≤ events
one_more events old new claim claim' a (Some reply) written room =
    let longer : length new.history ≡ length old.history + 1 =
    ap (λ (r : Recorded). length r.history) written.0 ∙ length-append old.history (record { job = claim.job; ask = a; reply = reply } ∷ []) in
    let few : length new.history ≤ events = omega (arith, longer, room) in
    few
one_more events old new claim claim' a None written room =
    let same : length new.history ≡ length old.history = ap (λ (r : Recorded). length r.history) written.0 in
    let few : length new.history ≤ events = omega (arith, same, room) in
    few

-- nothing new is within what there was
no_more : (events : ℕ) (old new : Recorded) → new ≡ old → length old.history ≤ events → length new.history ≤ events
no_more events old new same within = subst (λ (r : Recorded). length r.history ≤ events) (sym same) within

module _ (opening : Shared) (old new : Recorded) (claim claim' : Claimed) (a : Ask) (late : Bool) where
  claimed_by : (told : Served Heard) → Serves opening old claim a late told new claim' → new.claimed ≡ old.claimed
  claimed_by told is = by told is.records where
    by : (t : Served Heard) → Records old claim a (reply_of t) new claim' → new.claimed ≡ old.claimed
    by (serveds.Reply reply) written = ap (λ (r : Recorded). r.claimed) written.0
    by (serveds.Opened session) written = ap (λ (r : Recorded). r.claimed) written.0
    by (serveds.Busy holder held) written = ap (λ (r : Recorded). r.claimed) written.0

  module _ {R : Type 0} (of : R → Served Heard) where
    -- as many rows are claimed as were
    pub claimed_then : (result : Result R Refused) → IfOk result (λ r. Serves opening old claim a late (of r) new claim') → OnErr result ((new ≡ old) × (claim' ≡ claim))
        → new.claimed ≡ old.claimed
    claimed_then (Ok r) ok kept = claimed_by (of r) ok
    claimed_then (Err why) ok kept = ap (λ (r : Recorded). r.claimed) kept.0

    -- and no more events are there than there may be
    pub within_then : (events : ℕ) (result : Result R Refused) → IfOk result (λ r. Serves opening old claim a late (of r) new claim')
        → OnErr result ((new ≡ old) × (claim' ≡ claim)) → length old.history < events → length new.history ≤ events
    within_then events (Ok r) ok kept room = one_more events old new claim claim' a (reply_of (of r)) ok.records room
    within_then events (Err why) ok kept room = let few : length old.history ≤ events = omega (arith, room) in no_more events old new kept.0 few

    pub was_told : (result : Result R Refused) → IfOk result (λ r. Serves opening old claim a late (of r) new claim')
        → IfOk result (λ r. WasServed opening claim a late (of r) claim')
    was_told (Ok r) ok = (old, new, ok)
    was_told (Err why) ok = ok

    pub claim_then : (result : Result R Refused) → OnErr result ((new ≡ old) × (claim' ≡ claim)) → OnErr result (claim' ≡ claim)
    claim_then (Ok r) kept = kept
    claim_then (Err why) kept = kept.1

module _ (opening : Shared) (old new : Recorded) (claim claim' : Claimed) (a : Ask) (place : Place) (late : Bool) where
  claimed_at : (o : Option (Served Heard)) → IsServedAt opening old claim a place late o new claim' → new.claimed ≡ old.claimed
  claimed_at None is = ap (λ (r : Recorded). r.claimed) is.2
  claimed_at (Some told) is = claimed_by opening old new claim claim' a late told is.0

  -- as many rows are claimed as were
  pub claimed_still : (result : Result (Option (Served Heard)) Refused) → IfOk result (λ o. IsServedAt opening old claim a place late o new claim')
      → OnErr result ((new ≡ old) × (claim' ≡ claim)) → new.claimed ≡ old.claimed
  claimed_still (Ok o) ok kept = claimed_at o ok
  claimed_still (Err why) ok kept = ap (λ (r : Recorded). r.claimed) kept.0

  within_at : (events : ℕ) (o : Option (Served Heard)) → IsServedAt opening old claim a place late o new claim' → length old.history < events
      → length new.history ≤ events
  within_at events None is room = let few : length old.history ≤ events = omega (arith, room) in no_more events old new is.2 few
  within_at events (Some told) is room = one_more events old new claim claim' a (reply_of told) is.0.records room

  -- and no more events are there than there may be
  pub within_still : (events : ℕ) (result : Result (Option (Served Heard)) Refused) → IfOk result (λ o. IsServedAt opening old claim a place late o new claim')
      → OnErr result ((new ≡ old) × (claim' ≡ claim)) → length old.history < events → length new.history ≤ events
  within_still events (Ok o) ok kept room = within_at events o ok room
  within_still events (Err why) ok kept room = let few : length old.history ≤ events = omega (arith, room) in no_more events old new kept.0 few

  pub was_served : (result : Result (Option (Served Heard)) Refused) → IfOk result (λ o. IsServedAt opening old claim a place late o new claim')
      → IfOk result (λ o. WasServedAt opening claim a place late o claim')
  was_served (Ok o) ok = (old, new, ok)
  was_served (Err why) ok = ok

  pub claim_still : (result : Result (Option (Served Heard)) Refused) → OnErr result ((new ≡ old) × (claim' ≡ claim)) → OnErr result (claim' ≡ claim)
  claim_still (Ok o) kept = kept
  claim_still (Err why) kept = kept.1

-- ---- why an ask was refused

-- a bound by another name
pub most_is : {named events : ℕ} → named ≡ events → named ≤ history_limit → events ≤ history_limit
most_is {named} {events} is most = subst (λ n. n ≤ history_limit) is most

-- where as many events are there as may be
pub as_many : (events : ℕ) (system : Recorded) (full : Bool) → full ≡ nat_le events (length system.history) → full ≡ true → events ≤ length system.history
as_many events system full is so = leb-true events (length system.history) (sym is ∙ so)

-- where as many aren't there, there is room, whatever came of the ask
pub has_room : (events : ℕ) (system : Recorded) (full : Bool) → full ≡ nat_le events (length system.history) → full ≡ false → length system.history < events
has_room events system full is so = leb-false events (length system.history) (sym is ∙ so)

pub room_is : {R : Type 0} (events : ℕ) (system : Recorded) (result : Result R Refused) → length system.history < events
    → IfOk result (λ r. length system.history < events)
room_is events system (Ok r) room = room
room_is events system (Err why) room = tt

module _ (events : ℕ) (opening : Shared) (system : Recorded) (claim : Claimed) where
  refused_for : events ≤ history_limit → (why : Refused) → IsServiceRefused opening system claim why → IsRefusedIn events opening system claim why
  refused_for most (refusals.Turn expected) is = is
  refused_for most refusals.Full is =
      let long : length system.history ≡ history_limit = is.1 in
      let full : events ≤ length system.history = omega (arith, long, most) in
      full
  refused_for most refusals.Memory is = tt

  was_for : (why : Refused) → IsRefusedIn events opening system claim why → WasRefused events opening claim why
  was_for (refusals.Turn expected) is = (system, is)
  was_for refusals.Full is = (system, is)
  was_for refusals.Memory is = tt

  pub refused_in : {R : Type 0} (result : Result R Refused) → events ≤ history_limit → IfErr result (λ why. IsServiceRefused opening system claim why)
      → IfErr result (λ why. IsRefusedIn events opening system claim why)
  refused_in (Ok r) most is = tt
  refused_in (Err why) most is = refused_for most why is

  pub was_refused : {R : Type 0} (result : Result R Refused) → IfErr result (λ why. IsRefusedIn events opening system claim why)
      → IfErr result (λ why. WasRefused events opening claim why)
  was_refused (Ok r) is = tt
  was_refused (Err why) is = was_for why is

pub refused_by : (events : ℕ) (opening : Shared) (claim : Claimed) {R : Type 0} (result : Result R Refused) (why : Refused) → IsErrAnd result (λ x. x ≡ why)
    → WasRefused events opening claim why → IfErr result (λ x. WasRefused events opening claim x)
refused_by events opening claim (Ok r) why none was = absurd none
refused_by events opening claim (Err y) why same was = let P : Refused → Type 0 = λ x. WasRefused events opening claim x in subst P (sym same) was
