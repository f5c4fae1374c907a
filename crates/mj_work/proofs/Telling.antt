-- What a job that a worker runs is told.
use Rattle.std.specs.Result.{IsErrAnd}
use Rattle.std.proofs.Common.{◌≡◌, ℕ, ◌+◌, [], ◌∷◌, ◌++◌, inl, inr, Bool, true, false, Option, Some, None, Result, Ok, Err, refl, sym, ap, ◌∙◌, subst}
use Rattle.std.proofs.lemmas.Option.{same_Some}
use Rattle.mj_ask.proofs.Fitting.{answered}
use Rattle.mj_ask.specs.Fits.{fits, is_shared}
use Rattle.mj_ask.specs.declared.ask.Ask.{Ask}
use Rattle.mj_ask.specs.declared.ask.Ask.TheVariants as asks
use Rattle.mj_ask.specs.declared.ask.Reply.{Reply}
use Rattle.mj_ask.specs.declared.ask.Reply.TheVariants as replies
use Rattle.mj_dev.specs.Heard.{Heard}
use Rattle.mj_load.specs.Image.{Loaded}
use Rattle.mj_jobvm.specs.Jobs.{Running}
use Rattle.mj_sys.specs.declared.served.Served.{Served}
use Rattle.mj_sys.specs.declared.served.Served.TheVariants as serveds
use Rattle.mj_sys.specs.declared.served.Refused.{Refused}
use Rattle.mj_sys.specs.declared.served.Refused.TheVariants as refusals
use Rattle.mj_sys.specs.declared.served.Told.{Told}
use Rattle.mj_sys.specs.declared.served.Told.TheVariants as tolds
use Rattle.mj_sys.proofs.Fitting.{Fit, served_fits}
use Rattle.mj_sys.specs.Shared.{Shared}
use Rattle.mj_sys.specs.History.{state_of}
use Rattle.mj_sys.specs.System.{Claimed}
use Rattle.mj_sys.specs.Told.{Records, reply_of, served_as}
use Rattle.mj_core.specs.declared.parts.Place.{Place}
use Rattle.mj_core.specs.declared.parts.Place.TheVariants as places
use Rattle.mj_core.specs.declared.parts.Made.{Made}
use Rattle.mj_core.specs.declared.parts.Made.TheVariants as made
use Rattle.mj_core.specs.Answering.{Answering, Stays, IsPlaceFor}
use Rattle.mj_core.specs.Ties.{IsJobOf, CanBeTold, TakesUp, Talks, claim_behind}
use Rattle.mj_core.proofs.Owning.{own_same}
use Rattle.mj_core.proofs.Placing.{can_be_told}
use Rattle.mj_gather.specs.declared.ran.Stop.{Stop}
use Rattle.mj_gather.specs.declared.ran.Stop.TheVariants as stops
use Rattle.mj_work.specs.Working.{needs_no_place, reply_in, stop_by, WasServed, WasToldAt, WasServedAt, is_told, GoesOn, MayStop, IsAnswered}
use Rattle.mj_work.specs.Working.{WasRefused, StopsUntold, StopsUnserved, WasUnfit}

-- ---- by the system

module _ (opening : Shared) (claim claim' : Claimed) (a : Ask) (place : Place) (late : Bool) (told : Served Heard)
    (was : WasServedAt opening claim a place late (Some told) claim') where
  -- the claim behind it
  behind_is : claim' ≡ claim_behind claim told
  behind_is = by told was.2.0.records where
    by : (t : Served Heard) → Records was.0 claim a (reply_of t) was.1 claim' → claim' ≡ claim_behind claim t
    by (serveds.Reply reply) is = is.1
    by (serveds.Opened session) is = is.1
    by (serveds.Busy holder held) is = is.1

  -- it can be told
  pub can_tell : {A : Type 0} (ans : Answering A) (x mid : A) → is_shared a ≡ true → IsPlaceFor ans x a place mid → CanBeTold ans mid a place told
  can_tell ans x mid shared at = can_be_told ans opening was.0 was.1 claim claim' a place late x mid shared at told was.2

-- where nothing was told, the claim stays
pub busy_still : (opening : Shared) (claim claim' : Claimed) (a : Ask) (place : Place) (late : Bool) (told : Served Heard) → is_told told ≡ false
    → WasServedAt opening claim a place late (Some told) claim' → claim' ≡ claim
busy_still opening claim claim' a place late (serveds.Reply reply) busy was = absurd (let never : true ≡ false = busy in cc)
busy_still opening claim claim' a place late (serveds.Opened session) busy was = absurd (let never : true ≡ false = busy in cc)
busy_still opening claim claim' a place late (serveds.Busy holder held) busy was = was.2.0.records.1

-- where no session goes to its job
module _ (opening : Shared) (claim claim' : Claimed) (a : Ask) (late : Bool) where
  -- a reply fits
  pub fits_told : (reply : Reply) → is_shared a ≡ true → WasServed opening claim a late (serveds.Reply reply) claim' → fits a reply ≡ true
  fits_told reply shared was =
      let P : Option (Reply × Shared) → Type 0 = λ o. Fit a o in
      subst P was.2.tells.0 (served_fits answered (state_of opening was.0.history) claim.job a late shared)

  -- it needs no place
  pub without_place : (told : Served Heard) → WasServed opening claim a late told claim' → WasServedAt opening claim a places.Unneeded late (Some told) claim'
  without_place told was = (was.0, was.1, (was.2, λ is. absurd (let never : places.Unneeded ≡ places.Taken = is in cc)))

  -- it tells something, or it is busy
  pub told_at : (told : Told) → WasServed opening claim a late (served_as told) claim' → WasToldAt opening claim a late (reply_in told) claim'
  told_at (tolds.Reply reply) was = was
  told_at (tolds.Busy holder held) was = (holder, held, was)

-- such an ask goes to what all jobs share
pub placeless_shared : (a : Ask) → needs_no_place a ≡ true → is_shared a ≡ true
placeless_shared (asks.Shared of) none = refl
placeless_shared (asks.Device name of) none = absurd (let never : false ≡ true = none in cc)
placeless_shared (asks.Rest time) none = absurd (let never : false ≡ true = none in cc)

-- ---- or refused

module _ (events : ℕ) (opening : Shared) (claim : Claimed) where
  untold_by : (why : Refused) → WasRefused events opening claim why → StopsUntold opening claim (stop_by why)
  untold_by (refusals.Turn expected) was = (was.0, was.1.1)
  untold_by refusals.Full was = tt
  untold_by refusals.Memory was = tt

  module _ (a : Ask) (place : Place) where
    unserved_by : (why : Refused) → WasRefused events opening claim why → StopsUnserved opening claim a place (stop_by why)
    unserved_by (refusals.Turn expected) was = inl (was.0, was.1.1)
    unserved_by refusals.Full was = tt
    unserved_by refusals.Memory was = tt

    -- a session would have gone to its job, for which there is no place
    pub taken_at : (late : Bool) (before claim' : Claimed) → WasServedAt opening before a place late None claim' → StopsUnserved opening claim a place stops.Refused
    taken_at late before claim' was = inr (was.2.0, (was.0, was.2.1))

  module _ (before : Claimed) (same : before ≡ claim) (why : Refused) (stop : Stop) (is : stop ≡ stop_by why) (was : WasRefused events opening before why) where
    here : WasRefused events opening claim why
    here = let P : Claimed → Type 0 = λ k. WasRefused events opening k why in subst P same was

    pub stops_untold : StopsUntold opening claim stop
    stops_untold = let P : Stop → Type 0 = λ s. StopsUntold opening claim s in subst P (sym is) (untold_by why here)

    pub stops_unserved : (a : Ask) (place : Place) → StopsUnserved opening claim a place stop
    stops_unserved a place = let P : Stop → Type 0 = λ s. StopsUnserved opening claim a place s in subst P (sym is) (unserved_by a place why here)

  -- so its job may stop
  module _ {A : Type 0} (ans : Answering A) (a : Ask) (shared : is_shared a ≡ true) (job : Running) (x x' : A) where
    pub may_hear : (stop : Stop) → StopsUntold opening claim stop → MayStop ans opening a claim job x stop x'
    may_hear stops.Ended so = absurd so
    may_hear stops.Full so = shared
    may_hear stops.Memory so = tt
    may_hear stops.Refused so = inl (shared, inl so)

    pub may_share : (place : Place) (stop : Stop) → IsPlaceFor ans x a place x' → StopsUnserved opening claim a place stop → MayStop ans opening a claim job x stop x'
    may_share place stops.Ended ready so = absurd so
    may_share place stops.Full ready so = shared
    may_share place stops.Memory ready so = tt
    may_share place stops.Refused ready (inl turn) = inl (shared, inl turn)
    may_share place stops.Refused ready (inr taken) =
        let P : Place → Type 0 = λ p. IsPlaceFor ans x a p x' in
        inl (shared, inr (taken.1.0, taken.1.1, subst P taken.0 ready (state_of opening taken.1.0.history) taken.1.1))

-- ---- by who answers for it, or the clock

module _ {A : Type 0} (ans : Answering A) where
  -- what comes of it
  abbrev Comes : Bool → Option Reply → Running → A → Made → Running → A → Type 0
  Comes late given before y m job' x' = (asked : Ask) × (before.run.pending ≡ Some asked) × Talks ans before y asked late given m job' x'

  -- a job that isn't told stays as it was, and so does what is known of who answers for it
  pub untalked : (asked : Ask) (late : Bool) (given : Option Reply) (before : Running) (y x' : A) (job' : Running) (m : Made) → (m ≡ made.Event → ⊥)
      → Talks ans before y asked late given m job' x' → (job' ≡ before) × Stays ans y x'
  untalked asked late given before y x' job' made.Event never talks = absurd (never refl)
  untalked asked late given before y x' job' (made.Busy holder held) never talks = absurd talks
  untalked asked late given before y x' job' made.NotYet never talks = (talks.1, talks.2)
  untalked asked late given before y x' job' made.Unfit never talks = (talks.1, talks.2)
  untalked asked late given before y x' job' made.Ran never talks = absurd talks
  untalked asked late given before y x' job' made.Ended never talks = absurd talks

  pub untold_made : (late : Bool) (given : Option Reply) (before : Running) (y x' : A) (job' : Running) (m : Made) → (m ≡ made.Event → ⊥)
      → Comes late given before y m job' x' → (job' ≡ before) × Stays ans y x'
  untold_made late given before y x' job' m never comes = untalked comes.0 late given before y x' job' m never comes.2

  -- of what is neither told nor may come yet nobody could tell it
  pub unfit_talk : (asked : Ask) (late : Bool) (given : Option Reply) (before : Running) (y x' : A) (job' : Running) (m : Made) → (m ≡ made.Event → ⊥) → (m ≡ made.NotYet → ⊥)
      → Talks ans before y asked late given m job' x' → Talks ans before y asked late given made.Unfit job' x'
  unfit_talk asked late given before y x' job' made.Event never not_yet talks = absurd (never refl)
  unfit_talk asked late given before y x' job' (made.Busy holder held) never not_yet talks = absurd talks
  unfit_talk asked late given before y x' job' made.NotYet never not_yet talks = absurd (not_yet refl)
  unfit_talk asked late given before y x' job' made.Unfit never not_yet talks = talks
  unfit_talk asked late given before y x' job' made.Ran never not_yet talks = absurd talks
  unfit_talk asked late given before y x' job' made.Ended never not_yet talks = absurd talks

  -- what is known still of one behind another
  pub stays_on : (x y z : A) → Stays ans x y → Stays ans y z → Stays ans x z
  stays_on x y z one two = ((λ log of. two.0 log (one.0 log of)), λ name has held. two.1 name has (one.1 name has held))

  pub stays_same : (x : A) → Stays ans x x
  stays_same x = ((λ log of. of), λ name has held. held)

-- ---- by both

module _ {A : Type 0} (ans : Answering A) (opening : Shared) (a : Ask) (claim : Claimed) (job : Running) (x : A) where
  -- nothing was told, and what was known of who answers for the job is known still
  untold : (R : Type 0) (stop : Stop) (result : Result R Stop) (job' : Running) (x' : A) → result ≡ Err stop → MayStop ans opening a claim job x stop x' → job' ≡ job
      → Stays ans x x' → IsAnswered ans opening a claim job x result claim job' x'
  untold R stop result job' x' is may same stays =
      let P : Result R Stop → Type 0 = λ r. IsAnswered ans opening a claim job x r claim job' x' in
      subst P (sym is) (may, refl, same, stays)

  -- nothing was served
  pub unserved : (R : Type 0) (stop : Stop) (result : Result R Stop) (claim' : Claimed) (job' : Running) (x' : A) → result ≡ Err stop
      → MayStop ans opening a claim job x stop x' → claim' ≡ claim → job' ≡ job → Stays ans x x' → IsAnswered ans opening a claim job x result claim' job' x'
  unserved R stop result claim' job' x' is may kept same stays =
      let P : Claimed → Type 0 = λ k. IsAnswered ans opening a claim job x result k job' x' in
      subst P (sym kept) (untold R stop result job' x' is may same stays)

  -- what was served was told
  pub was_told : (R : Type 0) (claim' : Claimed) (place : Place) (late : Bool) (told : Served Heard) (mid x' : A) (job' : Running) (r : R)
      → WasServedAt opening claim a place late (Some told) claim' → is_told told ≡ true → Stays ans x mid → TakesUp ans job mid a told job' x'
      → ((image : Loaded) (c : Claimed) → IsJobOf ans image c job mid → IsJobOf ans image (claim_behind c told) job' x')
      → IsAnswered ans opening a claim job x (Ok r) claim' job' x'
  was_told R claim' place late told mid x' job' r was is stays takes own =
      let behind = behind_is opening claim claim' a place late told was in (
        log told is takes,
        λ image mine. subst (λ (c : Claimed). IsJobOf ans image c job' x') (sym behind) (own image claim (own_same ans image claim job x mine job mid refl stays)),
      ) where
        log : (t : Served Heard) → is_told t ≡ true → TakesUp ans job mid a t job' x' → (reply : Reply) × (job'.run.log ≡ job.run.log ++ (a, reply) ∷ [])
        log (serveds.Reply reply) is takes = (reply, takes.0.0)
        log (serveds.Opened session) is takes = (replies.Got, takes.0.0)
        log (serveds.Busy holder held) is takes = absurd (let never : false ≡ true = is in cc)

  pub was_replied : (R : Type 0) (claim' : Claimed) (late : Bool) (reply : Reply) (job' : Running) (r : R)
      → WasServed opening claim a late (serveds.Reply reply) claim' → TakesUp ans job x a (serveds.Reply reply) job' x
      → ((image : Loaded) (c : Claimed) → IsJobOf ans image c job x → IsJobOf ans image (claim_behind c (serveds.Reply reply)) job' x)
      → IsAnswered ans opening a claim job x (Ok r) claim' job' x
  was_replied R claim' late reply job' r was takes own =
      was_told R claim' places.Unneeded late (serveds.Reply reply) x x job' r (without_place opening claim claim' a late (serveds.Reply reply) was) refl
      ((λ log of. of), (λ name has held. held)) takes own

  talked : (R : Type 0) (late : Bool) (given : Option Reply) (before : Running) (y x' : A) (job' : Running) (r : R) → before ≡ job
      → Talks ans before y a late given made.Event job' x' → GoesOn ans claim job x claim job' x' → IsAnswered ans opening a claim job x (Ok r) claim job' x'
  talked R late given before y x' job' r same talks goes =
      ((talks.0, talks.3.0 ∙ ap (λ (j : Running). j.run.log ++ (a, talks.0) ∷ []) same), goes)

  told_event : (R : Type 0) (asked : Ask) (late : Bool) (given : Option Reply) (before : Running) (y x' : A) (job' : Running) (r : R) → before.run.pending ≡ Some asked
      → before ≡ job → job.run.pending ≡ Some a → Talks ans before y asked late given made.Event job' x' → GoesOn ans claim job x claim job' x'
      → IsAnswered ans opening a claim job x (Ok r) claim job' x'
  told_event R asked late given before y x' job' r pends same asks talks goes =
      let is : asked ≡ a = same_Some asked a (sym pends ∙ (ap (λ (j : Running). j.run.pending) same ∙ asks)) in
      let P : Ask → Type 0 = λ b. Talks ans before y b late given made.Event job' x' in
      talked R late given before y x' job' r same (subst P is talks) goes

  pub told_made : (R : Type 0) (late : Bool) (given : Option Reply) (before : Running) (y x' : A) (job' : Running) (r : R) (m : Made) → m ≡ made.Event
      → Comes ans late given before y m job' x' → before ≡ job → job.run.pending ≡ Some a → GoesOn ans claim job x claim job' x' → IsAnswered ans opening a claim job x (Ok r) claim job' x'
  told_made R late given before y x' job' r m is comes same asks goes =
      let T : Made → Type 0 = λ n. Comes ans late given before y n job' x' in
      let so = subst T is comes in
      told_event R so.0 late given before y x' job' r so.1 same asks so.2 goes

  -- nobody could tell it
  pub unfit_made : (late : Bool) (before : Running) (y x' : A) (job' : Running) (m : Made) → (m ≡ made.Event → ⊥) → (m ≡ made.NotYet → ⊥)
      → Comes ans late None before y m job' x' → before ≡ job → job.run.pending ≡ Some a → Stays ans x y → WasUnfit ans a job x x'
  unfit_made late before y x' job' m never not_yet comes same asks stays =
      let is : comes.0 ≡ a = same_Some comes.0 a (sym comes.1 ∙ (ap (λ (j : Running). j.run.pending) same ∙ asks)) in
      let P : Ask → Type 0 = λ b. Talks ans before y b late None made.Unfit job' x' in
      let Q : Running → Type 0 = λ j. Talks ans j y a late None made.Unfit job' x' in
      let so = subst Q same (subst P is (unfit_talk ans comes.0 late None before y x' job' m never not_yet comes.2)) in
      (late, ((λ s has of all. so.0 s has (stays.0 job.run.log of) (λ name. stays.1 name (has name) (all name))), refl, stays_on ans x y x' stays so.2))

-- ---- what is said of one result is said of another

pub err_is : {R : Type 0} (r : Result R Stop) (stop : Stop) → IsErrAnd r (λ x. x ≡ stop) → r ≡ Err stop
err_is (Ok y) stop none = absurd none
err_is (Err y) stop is = ap Err is

module _ {A R S : Type 0} (ans : Answering A) (opening : Shared) (a : Ask) (claim claim' : Claimed) (job job' : Running) (x x' : A) (one : Result R Stop)
    (so : IsAnswered ans opening a claim job x one claim' job' x') where
  pub answered_ok : (r : R) (s : S) → one ≡ Ok r → IsAnswered {R = S} ans opening a claim job x (Ok s) claim' job' x'
  answered_ok r s is = let P : Result R Stop → Type 0 = λ q. IsAnswered ans opening a claim job x q claim' job' x' in subst P is so

  pub answered_err : (stop : Stop) (other : Result S Stop) → one ≡ Err stop → other ≡ Err stop → IsAnswered ans opening a claim job x other claim' job' x'
  answered_err stop other is same =
      let P : Result R Stop → Type 0 = λ q. IsAnswered ans opening a claim job x q claim' job' x' in
      let Q : Result S Stop → Type 0 = λ q. IsAnswered ans opening a claim job x q claim' job' x' in
      subst Q (sym same) (subst P is so)
