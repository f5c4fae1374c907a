-- The sessions that a job has, by the names of their devices.
use Rattle.std.specs.Prelude.{◌≡◌, ℕ, Bool, cond, List, [], ◌∷◌, Option, Some, None, ◌⊎◌}
use Rattle.std.specs.List.{find}
use Rattle.std.specs.Str.{bytes_eq}
use Rattle.mj_dev.specs.Heard.{Heard, IsNew, called}
use Rattle.mj_dev.specs.Shelves.{with_first}
use Rattle.mj_dev.specs.Talk.{Exchange, Talks, beginning, stand_of}
use Rattle.mj_sessions.specs.Events.{Log, talk_on}
use Rattle.mj_sessions.specs.Follow.{Follow, taken_by, open_talk}

-- a session with the device of a name
pub record Named : Type 0 where
  pub name : List ℕ
  pub session : Heard

abbrev pub is_named : List ℕ → Named → Bool
is_named name s = bytes_eq s.name name

-- the session with the device of a name
abbrev pub session_of : List ℕ → List Named → Option Named
session_of name sessions = find (is_named name) sessions

-- the session of a name is left so
abbrev pub with_session : List ℕ → Heard → List Named → List Named
with_session name session sessions = with_first (is_named name) (λ s. record s { session = session }) sessions

-- the session of a name is gone
abbrev pub without : List ℕ → List Named → List Named
without name [] = []
without name (s ∷ sessions) = cond (is_named name s) sessions (s ∷ without name sessions)

-- they are as they were, but for what the device of one of them keeps, which was called
abbrev pub AreLeft : List Named → List Named → Type 0
AreLeft old new =
    (new ≡ old) ⊎ ((name : List ℕ) × (s : Named) × (session_of name old ≡ Some s) × ((h : Heard) × (h ≡ called s.session h) × (new ≡ with_session name h old)))

-- the sessions, in order of opening, and for how many more there is room
pub record Roomy : Type 0 where
  pub sessions : List Named
  pub room : ℕ

-- no two have one name
abbrev pub AreApart : List Named → Type 0
AreApart [] = Unit {0}
AreApart (s ∷ sessions) = (session_of s.name sessions ≡ None) × AreApart sessions

-- The session came of this talk: it was new, and each call was made then, and answered so. What its device took, and which lines it gave, is what the
-- talk tells: each line as it was told, or as it was told by its bytes; and it failed as often as the talk tells.
abbrev pub ComesOf : List Exchange → Heard → Type 0
ComesOf talk session = (new : Heard) × IsNew new × Talks new talk session

-- by a talk, one session after the other, the session that isn't ended stands so, took just these bytes, and came of the calls behind the last end; where
-- there is none, there are no such calls, and the talk stands where each begins
abbrev pub TalkLeaves : List Exchange → Option Named → Type 0
TalkLeaves talk None = Follow beginning talk beginning × (taken_by talk ≡ []) × (open_talk talk ≡ [])
TalkLeaves talk (Some s) = Follow beginning talk (stand_of s.session) × (s.session.taken ≡ taken_by talk) × ComesOf (open_talk talk) s.session

-- the sessions are those of which this log tells
abbrev pub AreTold : Log → List Named → Type 0
AreTold log sessions = (name : List ℕ) → TalkLeaves (talk_on name log) (session_of name sessions)
