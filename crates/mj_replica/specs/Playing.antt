-- One job of a replay, and all of them.
use Rattle.std.specs.Prelude.{◌≡◌, ℕ, suc, ◌+◌, ◌≤◌, ◌<◌, List, [], ◌∷◌, ◌++◌, length, Bool, true, false, Some, slice_get, ◌⊎◌}
use Rattle.mj_ask.specs.declared.ask.Ask.{Ask}
use Rattle.mj_ask.specs.declared.ask.Reply.{Reply}
use Rattle.mj_ask.specs.Fits.{fits}
use Rattle.mj_ask.specs.Within.{is_reply_within}
use Rattle.mj_semantics.specs.State.{places}
use Rattle.mj_semantics.specs.Outcome as outcomes
use Rattle.mj_semantics.specs.Job.{Start, next}
use Rattle.mj_load.specs.Image.{Loaded, program_of}
use Rattle.mj_jobs.specs.Rows.{Row, row_at}
use Rattle.mj_jobvm.specs.Run.{replies_of, GoesOn, IsTrace}
use Rattle.mj_jobvm.specs.Jobs.{Running, IsRunOf}
use Rattle.mj_sessions.specs.Follow.{AreTalks}
use Rattle.mj_sys.specs.declared.event.Event.{Event}
use Rattle.mj_sys.specs.Shared.{Shared, served}
use Rattle.mj_sys.specs.History.{History, state_of, log_of, events_of}
use Rattle.mj_sys.specs.System.{Recorded, Claimed}
use Rattle.mj_sys.specs.Told.{recorded}
use Rattle.mj_core.specs.Happen.{shared_of, Happens, AllHappen}
use Rattle.mj_expect.specs.Heeds.{Heeds, AreHeeds}
use Rattle.mj_core.specs.Runs.{start_in}
use Rattle.mj_replica.specs.Replays.{turns_limit, IsUnmade}
use Rattle.mj_replica.specs.Shows.{Stood}

-- a job with its claim, and what is known of its talks with devices
pub record Playing : Type 0 where
  pub claim : Claimed
  pub job : Running
  pub heeds : Heeds

-- how its job starts
abbrev pub start_of : Claimed → Start
start_of claim = start_in claim.job claim.start

-- the job's row was claimed, and it is that of its claim, which counts its events; it runs the routines from its row's start; and what is known of
-- its talks is what its log says of them; and it stands where it stood at its last ask
pub record IsPlaying (image : Loaded) (opening : Shared) (system : Recorded) (claim : Claimed) (job : Running) (heeds : Heeds) : Type 0 where
  pub numbered : 1 ≤ claim.job
  pub claimed : claim.job ≤ system.claimed
  pub row : (row : Row) × (row_at (state_of opening system.history).rows claim.job ≡ Some row) × (row.start ≡ claim.start)
  pub counted : claim.events ≡ events_of claim.job system.history
  pub run : IsRunOf image (start_of claim) job
  pub heard : AreHeeds job.run.log heeds
  pub stood : Stood (program_of image) (start_of claim) job.run.log job.run.at.state.locals (places job.run.at.state)

-- behind its log the job asks just this where it stands, the reply fits, and its texts are within the image's limit; or it goes on for too long, or it isn't
-- asked and told so
abbrev pub AsksIt : Loaded → Start → Running → Ask → Reply → Bool → Running → Type 0
AsksIt image start old ask reply true new =
    (new.run.pending ≡ Some ask) × (fits ask reply ≡ true) × (is_reply_within image.bounds.limit reply ≡ true)
    × ((n : ℕ) × (next (program_of image) start n (replies_of old.run.log) ≡ outcomes.Needs ask new.run.at.state.locals (places new.run.at.state)))
AsksIt image start old ask reply false new =
    ((turns : ℕ) × (turns_limit ≤ turns) × GoesOn (program_of image) start old.run.log turns)
    ⊎ (IsTrace (program_of image) start (old.run.log ++ (ask, reply) ∷ []) → ⊥)

-- the shared state serves the ask by just this reply; or by none, or by another, even if it is late
abbrev pub ServesIt : Shared → Recorded → Claimed → Ask → Reply → Bool → Recorded → Claimed → Type 0
ServesIt opening old claim ask reply true new claim' =
    (served (state_of opening old.history) claim.job ask true ≡ Some (reply, state_of opening new.history))
    × (new ≡ recorded old claim.job ask reply) × (claim' ≡ record claim { events = claim.events + 1 })
ServesIt opening old claim ask reply false new claim' =
    (left : Shared) → served (state_of opening old.history) claim.job ask true ≡ Some (reply, left) → ⊥

-- the job was told the reply to what it asked, in each image that lets it be told that, and stands where it stood
abbrev pub IsToldOn : Running → Ask → Reply → Running → Type 0
IsToldOn old ask reply new =
    (new.run.log ≡ old.run.log ++ (ask, reply) ∷ [])
    × ((image : Loaded) (start : Start) → is_reply_within image.bounds.limit reply ≡ true → IsRunOf image start old → IsRunOf image start new)
    × (new.run.at.state ≡ old.run.at.state)

-- an event of a job, made: it could happen, and all that is known goes on; or why it isn't made
abbrev pub Plays : Loaded → Shared → Recorded → Claimed → Running → Heeds → Ask → Reply → Bool → Recorded → Claimed → Running → Heeds → Type 0
Plays image opening old claim job heeds ask reply true new claim' job' heeds' =
    Happens (state_of opening old.history) (record { job = claim.job; ask = ask; reply = reply })
    × IsPlaying image opening new claim' job' heeds'
    × (claim'.job ≡ claim.job)
    × (job'.run.log ≡ job.run.log ++ (ask, reply) ∷ [])
    × (new ≡ record old { history = old.history ++ shared_of (record { job = claim.job; ask = ask; reply = reply } ∷ []) })
Plays image opening old claim job heeds ask reply false new claim' job' heeds' =
    ((turns : ℕ) × (turns_limit ≤ turns) × GoesOn (program_of image) (start_of claim) job.run.log turns)
    ⊎ ((IsTrace (program_of image) (start_of claim) (job.run.log ++ (ask, reply) ∷ []) → ⊥)
    ⊎ ((Happens (state_of opening old.history) (record { job = claim.job; ask = ask; reply = reply }) → ⊥)
    ⊎ (AreTalks (job.run.log ++ (ask, reply) ∷ []) → ⊥)))

-- ---- all jobs

-- a job is that of this number, and the history has its log
pub record IsPlayingOf (image : Loaded) (opening : Shared) (system : Recorded) (history : History) (job : ℕ) (played : Playing) : Type 0 where
  pub numbered : played.claim.job ≡ job
  pub placed : IsPlaying image opening system played.claim played.job played.heeds
  pub logged : log_of job history ≡ played.job.run.log

-- The system served what is shared of the history; each event of that came where it could; the jobs of the first rows, which were claimed, have gone
-- on to where the history has them, and no other has an event.
pub record AreStaged (image : Loaded) (opening : Shared) (history : History) (system : Recorded) (jobs : List Playing) : Type 0 where
  pub shared : shared_of history ≡ system.history
  pub happen : AllHappen opening history
  pub claimed : system.claimed ≡ length jobs
  pub tied : (k : ℕ) (played : Playing) → slice_get jobs k ≡ Some played → IsPlayingOf image opening system history (suc k) played
  pub none : (job : ℕ) → length jobs < job → log_of job history ≡ []
  pub zero : log_of 0 history ≡ []

-- one event more: it was made, or it isn't
abbrev pub Stages : Loaded → Shared → History → Event → Bool → Recorded → List Playing → Type 0
Stages image opening history e true system jobs = AreStaged image opening (history ++ e ∷ []) system jobs
Stages image opening history e false system jobs = IsUnmade (program_of image) opening history e
