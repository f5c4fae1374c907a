-- An event of a job, made or not, by what its parts say.
use Rattle.std.specs.Prelude.{Some, Result, Ok, Err, IfOk}
use Rattle.std.proofs.Common.{◌≡◌, [], ◌∷◌, ◌++◌, Bool, true, false, sym, ap, ◌∙◌, subst, inr}
use Rattle.mj_ask.specs.declared.ask.Ask.{Ask}
use Rattle.mj_ask.specs.declared.ask.Reply.{Reply}
use Rattle.mj_ask.specs.Fits.{fits, is_shared}
use Rattle.mj_ask.specs.Within.{is_reply_within}
use Rattle.mj_semantics.specs.State.{State, places}
use Rattle.mj_semantics.specs.Outcome.{Needs}
use Rattle.mj_load.specs.Image.{Loaded, program_of}
use Rattle.mj_jobs.specs.Rows.{IsLive}
use Rattle.mj_jobvm.specs.Jobs.{Running, IsRunOf}
use Rattle.mj_sys.specs.Shared.{Shared}
use Rattle.mj_sys.specs.History.{state_of}
use Rattle.mj_sys.specs.System.{Recorded, Claimed}
use Rattle.mj_expect.specs.Heeds.{Heeds, Heard}
use Rattle.mj_replica.specs.Shows.{Stood}
use Rattle.mj_replica.specs.Playing.{start_of, IsPlaying, AsksIt, ServesIt, IsToldOn, Plays}
use Rattle.mj_replica.proofs.Staging.{unasked, unheard, unserved, heard, shares}

module _ (image : Loaded) (opening : Shared) (old : Recorded) (claim : Claimed) (job : Running) (heeds : Heeds) (ask : Ask) (reply : Reply)
    (tied : IsPlaying image opening old claim job heeds) (mid : Running) where
  -- it isn't asked
  pub isnt_asked : (b : Bool) → b ≡ false → AsksIt image (start_of claim) job ask reply b mid → Plays image opening old claim job heeds ask reply false old claim mid heeds
  isnt_asked b is asks =
      let P : Bool → Type 0 = λ x. AsksIt image (start_of claim) job ask reply x mid in
      unasked image opening old claim job heeds ask reply tied mid (subst P is asks) old claim mid heeds

  -- it is asked, and can be told
  pub is_asked : (b : Bool) → b ≡ true → AsksIt image (start_of claim) job ask reply b mid → (mid.run.pending ≡ Some ask) × (fits ask reply ≡ true)
  is_asked b is asks =
      let P : Bool → Type 0 = λ x. AsksIt image (start_of claim) job ask reply x mid in
      let asked = subst P is asks in
      (asked.0, asked.1)

  -- it isn't served
  pub isnt_served : (b : Bool) → b ≡ false → (given : Ask) → ask ≡ given → is_shared given ≡ true → (new : Recorded) (claim' : Claimed)
      → ServesIt opening old claim given reply b new claim' → Plays image opening old claim job heeds ask reply false new claim' mid heeds
  isnt_served b is given same shared new claim' serves =
      let P : Bool → Type 0 = λ x. ServesIt opening old claim ask reply x new claim' in
      let S : Ask → Type 0 = λ a. ServesIt opening old claim a reply b new claim' in
      unserved image opening old claim job heeds ask reply tied new claim' (ap is_shared same ∙ shared) (subst P is (subst S (sym same) serves)) new claim' mid heeds

  -- it isn't heard
  pub isnt_heard : (b : Bool) → b ≡ false → (heeds' : Heeds) → Heard job.run.log ask reply b heeds' → Plays image opening old claim job heeds ask reply false old claim mid heeds'
  isnt_heard b is heeds' told =
      let P : Bool → Type 0 = λ x. Heard job.run.log ask reply x heeds' in
      unheard image opening old claim job heeds ask reply tied heeds' (subst P is told) old claim mid heeds'

  module _ (live : IsLive (state_of opening old.history).rows claim.job) (log : mid.run.log ≡ job.run.log) (run : IsRunOf image (start_of claim) mid) (job' : Running)
      (asked : Bool) (so : asked ≡ true) (asks : AsksIt image (start_of claim) job ask reply asked mid) where
    on : IsToldOn mid ask reply job' → job'.run.log ≡ job.run.log ++ (ask, reply) ∷ []
    on told = told.0 ∙ ap (λ l. l ++ (ask, reply) ∷ []) log

    -- it stands where it asked
    stood : IsToldOn mid ask reply job' → Stood (program_of image) (start_of claim) job'.run.log job'.run.at.state.locals (places job'.run.at.state)
    stood told =
        let P : Bool → Type 0 = λ x. AsksIt image (start_of claim) job ask reply x mid in
        let needs = (subst P so asks).3 in
        inr (job.run.log, ask, reply, on told, (needs.0, needs.1 ∙ ap (λ (s : State). Needs ask s.locals (places s)) (sym told.2)))

    -- its texts are those that it may be told
    small : is_reply_within image.bounds.limit reply ≡ true
    small = let P : Bool → Type 0 = λ x. AsksIt image (start_of claim) job ask reply x mid in (subst P so asks).2

    -- it is served, and told
    pub is_served_on : {E : Type 0} (b : Bool) → b ≡ true → (given : Ask) → ask ≡ given → is_shared given ≡ true → (new : Recorded) (claim' : Claimed)
        → ServesIt opening old claim given reply b new claim' → (result : Result Bool E) → IfOk result (λ made. (made ≡ true) × IsToldOn mid ask reply job')
        → IfOk result (λ made. Plays image opening old claim job heeds ask reply made new claim' job' heeds)
    is_served_on b is given same shared new claim' serves (Ok made) told =
        let P : Bool → Type 0 = λ x. ServesIt opening old claim ask reply x new claim' in
        let S : Ask → Type 0 = λ a. ServesIt opening old claim a reply b new claim' in
        let Q : Bool → Type 0 = λ x. Plays image opening old claim job heeds ask reply x new claim' job' heeds in
        subst Q (sym told.0)
        (shares image opening old claim job heeds ask reply tied live job' (on told.1) (told.1.1 image (start_of claim) small run) (stood told.1) (ap is_shared same ∙ shared) new claim'
        (subst P is (subst S (sym same) serves)))
    is_served_on b is given same shared new claim' serves (Err e) told = tt

    -- it is heard, and told
    pub is_heard_on : {E : Type 0} (b : Bool) → b ≡ true → is_shared ask ≡ false → (heeds' : Heeds) → Heard job.run.log ask reply b heeds'
        → (result : Result Bool E) → IfOk result (λ made. (made ≡ true) × IsToldOn mid ask reply job')
        → IfOk result (λ made. Plays image opening old claim job heeds ask reply made old claim job' heeds')
    is_heard_on b is unshared heeds' all (Ok made) told =
        let P : Bool → Type 0 = λ x. Heard job.run.log ask reply x heeds' in
        let Q : Bool → Type 0 = λ x. Plays image opening old claim job heeds ask reply x old claim job' heeds' in
        subst Q (sym told.0) (heard image opening old claim job heeds ask reply tied live job' (on told.1) (told.1.1 image (start_of claim) small run) (stood told.1) unshared heeds' (subst P is all))
    is_heard_on b is unshared heeds' all (Err e) told = tt
