-- Which device sessions a job has, by a history.
use Rattle.std.specs.Prelude.{◌≡◌, ℕ, ◌==◌, List, [], ◌∷◌, Bool, true, false, ◌&&◌, ◌⊎◌, Some, None, if◌then◌else◌}
use Rattle.std.specs.Str.{bytes_eq}
use Rattle.mj_ask.specs.declared.ask.Ask.{Ask}
use Rattle.mj_ask.specs.declared.ask.Ask.TheVariants as asks
use Rattle.mj_ask.specs.declared.ask.SharedAsk.TheVariants as shared_asks
use Rattle.mj_dev.specs.Shelves.{principal}
use Rattle.mj_dev.specs.Talk.{TalkStand, beginning}
use Rattle.mj_dev.specs.declared.talk.State.TheVariants as states
use Rattle.mj_sessions.specs.Events.{Log, device_of, talk_on}
use Rattle.mj_sessions.specs.Follow.{Follow, ends_on}
use Rattle.mj_sys.specs.Shared.{Shared, takes_session}
use Rattle.mj_sys.specs.History.{History, after, state_of, log_of}

-- an ask that is to open the device of a name
abbrev pub opens_on : List ℕ → Ask → Bool
opens_on name (asks.Shared (shared_asks.Open device timeout)) = bytes_eq device name
opens_on name _ = false

-- Whether a job has a session with the device of a name behind one of its asks: one that it ends is gone, and one that goes to it by an OPEN is
-- there
abbrev pub has_behind : Shared → List ℕ → Ask → Bool → Bool
has_behind s name ask has = if ends_on name ask then false else if opens_on name ask && takes_session s ask then true else has

-- the same behind a history
abbrev pub has_after : Shared → ℕ → List ℕ → Bool → History → Bool
has_after s job name has [] = has
has_after s job name has (e ∷ history) = has_after (after s e) job name (if e.job == job then has_behind s name e.ask has else has) history

-- whether a job has a session with the device of a name: its principal one it has from the first on
abbrev pub has_session : Shared → ℕ → List ℕ → History → Bool
has_session opening job name history = has_after opening job name (bytes_eq principal name) history

-- by a job's log, its session with the device of a name has failed, and wasn't ended yet
abbrev pub HasFailed : Log → List ℕ → Type 0
HasFailed log name = (last : TalkStand) × Follow beginning (talk_on name log) last × (last.state ≡ states.Open → ⊥)

-- by a job's log, the session that serves what it asks is open, and no rest of a line is left on it
abbrev pub IsQuiet : Log → Ask → Type 0
IsQuiet log a =
    (name : List ℕ) × (device_of a ≡ Some name)
    × ((last : TalkStand) × Follow beginning (talk_on name log) last × (last.state ≡ states.Open) × (last.rest ≡ None))

-- No session of a job can serve what it asks: it has none with that device, or one that has failed, of which it asks another thing than its end; or it is to
-- open a device that nobody holds, though its session with it wasn't ended yet. It has these sessions, by their names, and that log.
abbrev pub IsUnfitBy : Shared → Log → (List ℕ → Bool) → Ask → Type 0
IsUnfitBy s log has a =
    ((name : List ℕ) × (device_of a ≡ Some name) × ((has name ≡ false) ⊎ ((ends_on name a ≡ false) × HasFailed log name)))
    ⊎ ((name : List ℕ) × (opens_on name a ≡ true) × (takes_session s a ≡ true) × (has name ≡ true))
