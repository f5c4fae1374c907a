-- What is written of a live run.
use Rattle.std.specs.Prelude.{◌≡◌, ℕ, List, [], ◌++◌, Bool, true, false, Option, Result, Ok, Err, ◌⊎◌}
use Rattle.std.specs.Io.KnownBytes.{Appends}
use Rattle.mj_dev.specs.Shelves.{principal}
use Rattle.mj_sessions.specs.Asked.{Answering}
use Rattle.mj_sys.specs.Shared.{Shared}
use Rattle.mj_sys.specs.History.{History}
use Rattle.mj_core.specs.Runs.{out_of}
use Rattle.mj_core.specs.Shown.{Shown}
use Rattle.mj_steps.specs.declared.step.Step.{Step}
use Rattle.mj_steps.specs.declared.step.Refusal.{Refusal}
use Rattle.mj_steps.specs.declared.round.Standing.{Standing}
use Rattle.mj_run.specs.Stepping.{StepsAs}
use Rattle.mj_live.specs.Events.{session_after}

-- what is printed of the events of one job alone, and of the first of many: the bytes that its first principal session took
abbrev pub printed_of : History → List ℕ
printed_of history = out_of history 1 principal 1

-- The jobs; the bytes that were written, as far as they are known; which session of the first job's is looked at, where the one that goes on is 1; and whether
-- something couldn't be written.
pub record Living : Type 0 where
  pub core : Shown
  pub contents : Option (List ℕ)
  pub session : ℕ
  pub closed : Bool

-- as long as all could be written it is known which session is looked at
abbrev pub IsLooking : History → ℕ → Bool → Type 0
IsLooking history session closed = closed ≡ false → session ≡ session_after 1 history

-- between two moments just that was written what is printed of the events between them
abbrev pub Shows : Living → Living → Type 0
Shows old new = (bytes : List ℕ) × Appends old.contents new.contents bytes × (printed_of new.core.history ≡ printed_of old.core.history ++ bytes)

-- nothing can be written any more, and so no further step is made; the last was made, whose bytes are lost, or one before
abbrev pub IsLost : Answering → Shared → Living → Step → Living → Type 0
IsLost tells opening old step new =
    (new.closed ≡ true)
    × (((new.core ≡ old.core) × (old.closed ≡ true)) ⊎ ((standing : Standing) × StepsAs tells opening old.core step (Ok standing) new.core))

-- What a live step comes to: what it comes to of the core, and what is printed of its event was written. One that isn't made leaves all as it was, but where
-- its bytes couldn't be written.
abbrev pub LiveStep : Answering → Shared → Living → Step → Result Standing Refusal → Living → Type 0
LiveStep tells opening old step (Ok standing) new =
    StepsAs tells opening old.core step (Ok standing) new.core × (old.closed ≡ false) × (new.closed ≡ false) × Shows old new
LiveStep tells opening old step (Err why) new =
    (StepsAs tells opening old.core step (Err why) new.core × (old.closed ≡ false) × (new.closed ≡ false) × Shows old new)
    ⊎ IsLost tells opening old step new
