-- What the first job's principal device takes, event by event.
use Rattle.std.specs.Prelude.{◌≡◌, ℕ, ◌-◌, ◌==◌, ◌&&◌, Bool, List, [], ◌∷◌, Option, Some, None, slice_get, if◌then◌else◌}
use Rattle.std.specs.Io.KnownBytes.{Appends}
use Rattle.mj_ask.specs.declared.ask.Ask.{Ask}
use Rattle.mj_ask.specs.declared.ask.Reply.{Reply}
use Rattle.mj_dev.specs.Shelves.{principal}
use Rattle.mj_sessions.specs.Follow.{ends_on, written_on}
use Rattle.mj_sys.specs.declared.event.Event.{Event}
use Rattle.mj_sys.specs.History.{History}

-- the first job ends a session with its principal device
abbrev pub ends_first : Event → Bool
ends_first e = (e.job == 1) && ends_on principal e.ask

-- the bytes that the first job's principal device takes by an event
abbrev pub taken_first : Event → List ℕ
taken_first e = if e.job == 1 then written_on principal e.ask e.reply else []

-- which session is looked at behind an event: behind each end one less, and the one that goes on is 1
abbrev pub session_behind : ℕ → Event → ℕ
session_behind k e = if ends_first e then k - 1 else k

-- which is looked at behind a history
abbrev pub session_after : ℕ → History → ℕ
session_after k [] = k
session_after k (e ∷ history) = session_after (session_behind k e) history

-- the bytes that the session takes by an event
abbrev pub bytes_of : ℕ → Event → List ℕ
bytes_of k e = if k == 1 then taken_first e else []

-- the bytes that the session takes by the event at a place of a history, if there is one
abbrev pub bytes_at : ℕ → Option Event → List ℕ
bytes_at k None = []
bytes_at k (Some e) = bytes_of k e

-- which is looked at behind it
abbrev pub session_at : ℕ → Option Event → ℕ
session_at k None = k
session_at k (Some e) = session_behind k e

-- what the session takes by an ask of the first job was written, between two moments of a writer, and this session is looked at behind it
abbrev pub IsShown : Ask → Reply → ℕ → Option (List ℕ) → ℕ → Option (List ℕ) → Type 0
IsShown ask reply session old behind new =
    (behind ≡ (if ends_on principal ask then session - 1 else session))
    × Appends old new (if session == 1 then written_on principal ask reply else [])

-- those bytes were written, between two moments of a writer, and this session is looked at behind the event
abbrev pub IsShownAt : History → ℕ → ℕ → Option (List ℕ) → ℕ → Option (List ℕ) → Type 0
IsShownAt history place session old behind new =
    (behind ≡ session_at session (slice_get history place)) × Appends old new (bytes_at session (slice_get history place))
