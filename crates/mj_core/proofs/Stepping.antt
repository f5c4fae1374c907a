-- One job goes on.
use Rattle.std.specs.Prelude.{◌⊎◌, if◌then◌else◌, IsSome, Result, Ok, Err, IfOk, IfErr, OnErr, reverse}
use Rattle.std.proofs.lemmas.List.{reverse-append}
use Rattle.std.proofs.lemmas.Option.{none-some}
use Rattle.std.proofs.Common.{◌≡◌, ℕ, ◌+◌, [], ◌∷◌, ◌++◌, Bool, true, false, Option, Some, None, refl, sym, ap, ◌∙◌, subst, append-nil, eq-eqb, inl, inr, cond}
use Rattle.mj_ask.specs.declared.ask.Ask.{Ask}
use Rattle.mj_ask.specs.declared.ask.Ask.TheVariants as asks
use Rattle.mj_ask.specs.declared.ask.Reply.{Reply}
use Rattle.mj_ask.specs.Fits.{is_shared, timeout_of}
use Rattle.mj_semantics.specs.Outcome.{Needs}
use Rattle.mj_semantics.specs.Job.{Start, next}
use Rattle.mj_load.specs.Image.{Loaded, program_of}
use Rattle.mj_jobs.specs.Rows.{Row, row_at, IsLive}
use Rattle.mj_jobvm.specs.Run.{Log, replies_of}
use Rattle.mj_semantics.specs.State.{State, places}
use Rattle.mj_jobvm.specs.Jobs.{Running, IsRunOf}
use Rattle.mj_sessions.specs.Events.{device_of}
use Rattle.mj_sys.specs.declared.event.Event.{Event}
use Rattle.mj_sys.specs.Shared.{Shared}
use Rattle.mj_sys.specs.History.{state_of, events_of}
use Rattle.mj_sys.specs.System.{Recorded, Claimed}
use Rattle.mj_sys.specs.Told.{recorded}
use Rattle.mj_sys.proofs.Rows.{rows_kept, state_of_append, events_of_append}
use Rattle.mj_core.specs.Happen.{shared_of}
use Rattle.mj_core.specs.declared.parts.Made.{Made}
use Rattle.mj_core.specs.declared.parts.Made.TheVariants as made
use Rattle.mj_core.specs.Runs.{start_in}
use Rattle.mj_steps.specs.declared.step.Refusal.{Refusal}
use Rattle.mj_steps.specs.declared.step.Refusal.TheVariants as refusals
use Rattle.mj_core.specs.Shown.{AtAsk}
use Rattle.mj_core.specs.Gives.{Waits, StandsAt, answered, MayGoOn, IsTimely, IsStepRefused}
use Rattle.mj_core.specs.Answering.{Answering, Stays}
use Rattle.mj_core.specs.Meaning.{IsOfDevice}
use Rattle.mj_core.specs.Ties.{Placed, IsJobOf, IsClaimIn, IsTied, IsStanding, start_of, stand_by, stand_in, waits_by, stand_of, Steps, IsStill, JobIsTold, Talks, Shares, IsMuted, GoesOnBy}
use Rattle.mj_core.proofs.Owning.{own_still, own_talk, own_share}

-- nothing but the place in the private run changes
pub tied_same : {A : Type 0} (ans : Answering A) (image : Loaded) (opening : Shared) (old new : Recorded) (claim claim' : Claimed) (job mid job' : Running) (xs xs' : A)
    → IsTied ans image opening old claim job xs → IsRunOf image (start_in claim.job claim.start) mid → mid.run.log ≡ job.run.log → new ≡ old → claim' ≡ claim
    → job' ≡ mid → Stays ans xs xs' → IsTied ans image opening new claim' job' xs'
tied_same ans image opening old new claim claim' job mid job' xs xs' tied run log same claims jobs stays =
    let here : IsTied ans image opening old claim mid xs' = record { own = own_still ans image claim job xs tied.own mid xs' run log stays; entered = tied.entered } in
    let P : Recorded → Type 0 = λ r. IsTied ans image opening r claim mid xs' in
    let Q : Claimed → Type 0 = λ c. IsTied ans image opening new c mid xs' in
    let R : Running → Type 0 = λ j. IsTied ans image opening new claim' j xs' in
    subst R (sym jobs) (subst Q (sym claims) (subst P (sym same) here))

module _ {A : Type 0} (ans : Answering A) (image : Loaded) (opening : Shared) (old : Recorded) (claim : Claimed) (job mid job' : Running) (xs xs' : A)
    (tied : IsTied ans image opening old claim job xs) (run : IsRunOf image (start_in claim.job claim.start) mid) (log : mid.run.log ≡ job.run.log)
    (a : Ask) (reply : Reply) (goes : GoesOnBy mid a reply job')
    (told : ans.IsOf xs mid.run.log → ans.IsOf xs' (mid.run.log ++ (a, reply) ∷ [])) where
  -- it went on before
  own : IsJobOf ans image claim mid xs
  own = own_still ans image claim job xs tied.own mid xs run log ((λ l of. of), (λ name has is. is))

  log_on : job'.run.log ≡ job.run.log ++ (a, reply) ∷ []
  log_on = goes.0 ∙ ap (λ l. l ++ (a, reply) ∷ []) log

  -- a session told it
  pub tied_talk : is_shared a ≡ false → (new : Recorded) (claim' : Claimed) → new ≡ old → claim' ≡ claim → IsTied ans image opening new claim' job' xs'
  tied_talk unshared new claim' same claims =
      let here : IsTied ans image opening old claim job' xs' = record { own = own_talk ans image claim mid xs own job' xs' a reply goes told unshared; entered = tied.entered } in
      let P : Recorded → Type 0 = λ r. IsTied ans image opening r claim job' xs' in
      let Q : Claimed → Type 0 = λ c. IsTied ans image opening new c job' xs' in
      subst Q (sym claims) (subst P (sym same) here)

  -- the system served it
  abbrev event : Event
  event = record { job = claim.job; ask = a; reply = reply }

  one_event : events_of claim.job (event ∷ []) ≡ 1
  one_event = ap (λ b. 0 + cond b 1 0) (eq-eqb claim.job claim.job refl)

  row_on : (row : Row) × (row_at (state_of opening (old.history ++ event ∷ [])).rows claim.job ≡ Some row) × (row.start ≡ claim.start)
  row_on =
      let there = tied.entered.row in
      let kept = (rows_kept (state_of opening old.history) (event ∷ [])).starts claim.job there.0 there.1 in
      (kept.0, ap (λ (s : Shared). row_at s.rows claim.job) (state_of_append opening old.history (event ∷ [])) ∙ kept.1, kept.2 ∙ there.2)

  pub tied_share : is_shared a ≡ true → (new : Recorded) (claim' : Claimed) → new ≡ recorded old claim.job a reply → claim' ≡ record claim { events = claim.events + 1 }
      → IsTied ans image opening new claim' job' xs'
  tied_share shared new claim' same claims =
      let entered : IsClaimIn opening (recorded old claim.job a reply) (record claim { events = claim.events + 1 }) = record {
        numbered = tied.entered.numbered;
        claimed = tied.entered.claimed;
        row = row_on;
        counted = ap (λ n. n + 1) tied.entered.counted ∙ sym (events_of_append claim.job old.history (event ∷ []) ∙ ap (λ n. events_of claim.job old.history + n) one_event);
      } in
      let here : IsTied ans image opening (recorded old claim.job a reply) (record claim { events = claim.events + 1 }) job' xs' =
      record { own = own_share ans image claim mid xs own job' xs' a reply goes told shared; entered = entered } in
      let P : Recorded → Type 0 = λ r. IsTied ans image opening r (record claim { events = claim.events + 1 }) job' xs' in
      let Q : Claimed → Type 0 = λ c. IsTied ans image opening new c job' xs' in
      subst Q (sym claims) (subst P (sym same) here)

-- what all jobs share is no device's
pub no_device : (a : Ask) → is_shared a ≡ true → device_of a ≡ None
no_device (asks.Shared a) is = refl
no_device (asks.Rest t) is = refl
no_device (asks.Device d a) is = absurd (let no : false ≡ true = is in cc)

-- and what is a device's isn't shared
pub unshared : (a : Ask) → IsOfDevice a → is_shared a ≡ false
unshared (asks.Device d a) of = refl
unshared (asks.Rest t) of = refl
unshared (asks.Shared a) of = absurd (let no : None ≡ Some of.0 = of.1 in cc)

-- which ask it is
pub same_ask : (pending : Option Ask) (a b : Ask) → pending ≡ Some a → pending ≡ Some b → a ≡ b
same_ask pending a b p q = let same : Some a ≡ Some b = sym p ∙ q in cc

-- a list that ends with this
last_of : (log : Log) (e : Ask × Reply) → reverse (log ++ e ∷ []) ≡ e ∷ reverse log
last_of log e = reverse-append log (e ∷ [])

-- one that has its reply, and stands where it stood
stand_told : (pending : Option Ask) (log earlier : Log) (a : Ask) (reply : Reply) (s t : State) → pending ≡ None → log ≡ earlier ++ (a, reply) ∷ [] → s ≡ t
    → stand_by pending log s ≡ Some (record { ask = a; locals = t.locals; places = places t; answered = true })
stand_told pending log earlier a reply s t none is same =
    ap (λ p. stand_by p log s) none
    ∙ ap (λ l. stand_by None l s) is
    ∙ ap (λ (r : Log). elim r as (λ _. Option AtAsk) [ [] ↦ None | e ∷ rest ↦ Some (record { ask = e.0; locals = s.locals; places = places s; answered = true }) ])
    (last_of earlier (a, reply))
    ∙ ap (λ (u : State). let at : AtAsk = record { ask = a; locals = u.locals; places = places u; answered = true } in Some at) same

-- what asks nothing
pub unasked : (pending : Option Ask) → (IsSome pending → ⊥) → pending ≡ None
unasked None nothing = refl
unasked (Some a) nothing = absurd (nothing refl)

-- so it may go on, whether it stands at an ask or not
pub may_go : (pending : Option Ask) (log : Log) (s : State) (asks : Bool) → pending ≡ None → MayGoOn (if asks then stand_by pending log s else waits_by pending s)
may_go pending log s false none at is = absurd (none-some at (ap (λ p. waits_by p s) (sym none) ∙ is))
may_go pending log s true none at is = by (reverse log) (ap (λ p. stand_by p log s) (sym none) ∙ is) where
  by : (r : Log) → (elim r as (λ _. Option AtAsk) [ [] ↦ None | e ∷ rest ↦ Some (record { ask = e.0; locals = s.locals; places = places s; answered = true }) ]) ≡ Some at
      → at.answered ≡ true
  by [] is' = absurd (none-some at is')
  by (e ∷ rest) one =
      let some : Some (record { ask = e.0; locals = s.locals; places = places s; answered = true }) ≡ Some at = one in
      let same : record { ask = e.0; locals = s.locals; places = places s; answered = true } ≡ at = cc in
      sym (ap (λ (t : AtAsk). t.answered) same)

-- and one that is said to stand at none stands at none
pub stands_nowhere : (pending : Option Ask) (s : State) → pending ≡ None → waits_by pending s ≡ None
stands_nowhere pending s none = ap (λ p. waits_by p s) none

-- what is said of the slot of a job whose ask was served or not, and of the system: what a step ensures
pub record IsStepped {A : Type 0} (ans : Answering A) (image : Loaded) (opening : Shared) (late : Bool) (given : Option Reply) (old : Recorded) (slot : Placed A)
    (r : Result Made Refusal) (new : Recorded) (slot' : Placed A) : Type 0 where
  pub gives : IfOk r (λ m. Steps ans (program_of image) opening late given old slot m new slot')
  pub refused : IfErr r (λ why. IsStepRefused (program_of image) (start_of slot) slot.job.run.log (stand_of slot) late why (stand_of slot'))
  pub kept : OnErr r ((new ≡ old) × IsStill ans slot slot')
  pub tied : IsTied ans image opening new slot'.claim slot'.job slot'.answerer
  pub stands : IsStanding image slot'

module _ {A : Type 0} (ans : Answering A) (image : Loaded) (opening : Shared) (old new : Recorded) (claim claim' : Claimed) (job mid job' : Running) (xs xs' : A) (was : Bool) (late : Bool)
    (given : Option Reply)
    (tied : IsTied ans image opening old claim job xs) (run : IsRunOf image (start_in claim.job claim.start) mid) (log : mid.run.log ≡ job.run.log)
    (live : IsLive (state_of opening old.history).rows claim.job)
    (b : Ask) (pending : mid.run.pending ≡ Some b)
    (needs : (n : ℕ) × (next (program_of image) (start_in claim.job claim.start) n (replies_of mid.run.log) ≡ Needs b mid.run.at.state.locals (places mid.run.at.state)))
    (spent : mid.run.spent ≡ job.run.spent) where
  abbrev start : Start
  start = start_in claim.job claim.start

  abbrev slot : Placed A
  slot = record { claim = claim; job = job; answerer = xs; at_ask = was }

  abbrev slot' : Placed A
  slot' = record { claim = claim'; job = job'; answerer = xs'; at_ask = true }

  -- where it waits
  abbrev at : AtAsk
  at = record { ask = b; locals = mid.run.at.state.locals; places = places mid.run.at.state; answered = false }

  abbrev Goal : Made → Type 0
  Goal m = Steps ans (program_of image) opening late given old slot m new slot' × IsTied ans image opening new claim' job' xs' × IsStanding image slot'

  still : job' ≡ mid → Stays ans xs xs' → IsStill ans slot slot'
  still jobs stays = (ap (λ (j : Running). j.run.log) jobs ∙ log, ap (λ (j : Running). j.run.spent) jobs ∙ spent, stays.1)

  waits : Waits (program_of image) start job.run.log at
  waits =
      let P : Log → Type 0 = λ l. (n : ℕ) × (next (program_of image) start n (replies_of l) ≡ Needs b mid.run.at.state.locals (places mid.run.at.state)) in
      (subst P log needs, refl)

  -- it stands so by this log, whose claim has another count
  stands_by : (to : AtAsk) (l : Log) → stand_of slot' ≡ Some to → start_in claim'.job claim'.start ≡ start → job'.run.log ≡ l → StandsAt (program_of image) start l to
      → IsStanding image slot'
  stands_by to l shows from is stands =
      let P : Start → Type 0 = λ st. StandsAt (program_of image) st job'.run.log to in
      let Q : Log → Type 0 = λ k. StandsAt (program_of image) start k to in
      inr (refl, (to, shows, subst P (sym from) (subst Q (sym is) stands)))

  -- it isn't told, and waits
  shows_still : job' ≡ mid → stand_of slot' ≡ Some at
  shows_still jobs = ap (λ (j : Running). stand_in j.run) jobs ∙ ap (λ p. stand_by p mid.run.log mid.run.at.state) pending

  stands_still : claim' ≡ claim → job' ≡ mid → IsStanding image slot'
  stands_still claims jobs =
      stands_by at job.run.log (shows_still jobs) (ap (λ (c : Claimed). start_in c.job c.start) claims) (ap (λ (j : Running). j.run.log) jobs ∙ log) (inl waits)

  -- it is told
  shows_told : (reply : Reply) → GoesOnBy mid b reply job' → stand_of slot' ≡ Some (answered at)
  shows_told reply goes = stand_told job'.run.pending job'.run.log mid.run.log b reply job'.run.at.state mid.run.at.state goes.3 goes.0 goes.4

  stands_told : (reply : Reply) → GoesOnBy mid b reply job' → start_in claim'.job claim'.start ≡ start → IsStanding image slot'
  stands_told reply goes from =
      stands_by (answered at) (job.run.log ++ (b, reply) ∷ []) (shows_told reply goes) from (goes.0 ∙ ap (λ l. l ++ (b, reply) ∷ []) log)
      (inr (job.run.log, reply, refl, waits, refl))

  -- what is said by the log that the job had is said by the log that it has
  here : (F : Log → Type 0) → (ans.IsOf xs mid.run.log → F mid.run.log) → F job.run.log
  here F said =
      let T : Log → Type 0 = λ l. ans.IsOf xs l in
      subst F log (said (subst T (sym log) tied.own.told))

  by_talk : (m : Made) → IsTimely late b → is_shared b ≡ false → Talks ans mid xs b late given m job' xs' → new ≡ old → claim' ≡ claim → Goal m
  by_talk made.Event timely unshared t same claims =
      let e : Event = record { job = claim.job; ask = b; reply = t.0 } in
      let history : old.history ≡ old.history ++ shared_of (e ∷ []) =
      sym (append-nil old.history) ∙ sym (ap (λ c. old.history ++ (if c then e ∷ [] else [])) unshared) in
      let system : new ≡ record old { history = old.history ++ shared_of (e ∷ []) } = same ∙ ap (λ h. record old { history = h }) history in (
        (
          at,
          t.0,
          waits,
          timely,
          live,
          record { fit = t.1; shared = λ h. absurd (let no : true ≡ false = sym h ∙ unshared in cc); in_time = λ h. t.2 },
          log_on ans image opening old claim job mid job' xs xs' tied run log b t.0 t.3 t.4,
          t.3.2,
          t.5 (state_of opening old.history),
          system,
          here (λ l. ans.means.Told l given b late t.0 (Unit {0})) t.6,
          shows_told t.0 t.3,
        ),
        tied_talk ans image opening old claim job mid job' xs xs' tied run log b t.0 t.3 t.4 unshared new claim' same claims,
        stands_told t.0 t.3 (ap (λ (c : Claimed). start_in c.job c.start) claims),
      )
  by_talk (made.Busy holder held) timely unshared t same claims = absurd t
  by_talk made.NotYet timely unshared t same claims = (
    (at, waits, timely, here (λ l. ans.means.NotYet l b late (Unit {0})) t.0, same, still t.1 t.2, shows_still t.1),
    tied_same ans image opening old new claim claim' job mid job' xs xs' tied run log same claims t.1 t.2,
    stands_still claims t.1,
  )
  by_talk made.Unfit timely unshared t same claims =
      let s = state_of opening old.history in (
        (at, waits, timely, (λ has all. here (λ l. ans.means.Unfit s l has b late given (Unit {0})) (λ of. t.0 s has of all)), same, still t.1 t.2, shows_still t.1),
        tied_same ans image opening old new claim claim' job mid job' xs xs' tied run log same claims t.1 t.2,
        stands_still claims t.1,
      )
  by_talk made.Ran timely unshared t same claims = absurd t
  by_talk made.Ended timely unshared t same claims = absurd t

  by_share : (m : Made) → IsTimely late b → is_shared b ≡ true → Shares ans opening old claim mid xs b late m new claim' job' xs' → Goal m
  by_share made.Event timely shared t =
      let e : Event = record { job = claim.job; ask = b; reply = t.0 } in
      let system : new ≡ record old { history = old.history ++ shared_of (e ∷ []) } =
      t.3 ∙ sym (ap (λ c. record old { history = old.history ++ (if c then e ∷ [] else []) }) shared) in (
        (
          at,
          t.0,
          waits,
          timely,
          live,
          record { fit = t.1; shared = λ h. t.2; in_time = λ h. absurd (let no : true ≡ false = sym shared ∙ h in cc) },
          log_on ans image opening old claim job mid job' xs xs' tied run log b t.0 t.5 t.6,
          t.5.2,
          t.7,
          system,
          ans.means.of_no_device job.run.log given b late t.0 (no_device b shared),
          shows_told t.0 t.5,
        ),
        tied_share ans image opening old claim job mid job' xs xs' tied run log b t.0 t.5 t.6 shared new claim' t.3 t.4,
        stands_told t.0 t.5 (ap (λ (c : Claimed). start_in c.job c.start) t.4),
      )
  by_share (made.Busy holder held) timely shared t = (
    (at, waits, timely, t.0, t.1, t.2, still t.4 t.5, shows_still t.4),
    tied_same ans image opening old new claim claim' job mid job' xs xs' tied run log t.2 t.3 t.4 t.5,
    stands_still t.3 t.4,
  )
  by_share made.NotYet timely shared t = absurd t
  by_share made.Unfit timely shared t = (
    (at, waits, timely, (λ has all. t.0 job.run.log has late given all), t.1, still t.3 t.4, shows_still t.3),
    tied_same ans image opening old new claim claim' job mid job' xs xs' tied run log t.1 t.2 t.3 t.4,
    stands_still t.2 t.3,
  )
  by_share made.Ran timely shared t = absurd t
  by_share made.Ended timely shared t = absurd t

  -- what is said of what it asks
  abbrev Said : Made → Ask → Type 0
  Said m a =
      IsTimely late a
      × (((is_shared a ≡ false) × Talks ans mid xs a late given m job' xs' × (new ≡ old) × (claim' ≡ claim))
      ⊎ ((is_shared a ≡ true) × Shares ans opening old claim mid xs a late m new claim' job' xs'))

  pub stepped : (m : Made) → JobIsTold ans opening old claim mid xs late given m new claim' job' xs' → Goal m
  stepped m tells = by (subst (Said m) (same_ask mid.run.pending tells.0 b tells.1 pending) (tells.2, tells.3)) where
    by : Said m b → Goal m
    by (timely, inl t) = by_talk m timely t.0 t.1 t.2 t.3
    by (timely, inr t) = by_share m timely t.0 t.1

  muted : (why : Refusal) → IsMuted mid late why → job' ≡ mid → IsStepRefused (program_of image) start job.run.log (stand_of slot) late why (stand_of slot')
  muted refusals.NotTimed is jobs =
      let T : Ask → Type 0 = λ a. timeout_of a ≡ None in
      (is.0, (at, waits, subst T (same_ask mid.run.pending is.1.0 b is.1.1 pending) is.1.2, shows_still jobs))
  muted refusals.Memory is jobs = inr (at, waits, shows_still jobs)
  muted refusals.NoJob is jobs = absurd is
  muted refusals.Ended is jobs = absurd is
  muted refusals.Full is jobs = absurd is

  -- by what a call of `ask` gives
  pub is_stepped : (r : Result Made Refusal) → IfOk r (λ m. JobIsTold ans opening old claim mid xs late given m new claim' job' xs') → IfErr r (λ why. IsMuted mid late why)
      → OnErr r ((new ≡ old) × (claim' ≡ claim) × (job' ≡ mid) × Stays ans xs xs') → IsStepped ans image opening late given old slot r new slot'
  is_stepped (Ok m) tells mutes kept = let goal = stepped m tells in record { gives = goal.0; refused = tt; kept = tt; tied = goal.1; stands = goal.2 }
  is_stepped (Err why) tells mutes kept = record {
    gives = tt;
    refused = muted why mutes kept.2;
    kept = (kept.0, still kept.2 kept.3);
    tied = tied_same ans image opening old new claim claim' job mid job' xs xs' tied run log kept.0 kept.1 kept.2 kept.3;
    stands = stands_still kept.1 kept.2;
  }
