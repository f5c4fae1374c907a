-- A job's own sessions answer what it asks a device.
use Rattle.std.specs.Prelude.{◌≡◌, ◌<◌, List, Option, Some, None}
use Rattle.std.specs.Option.{is_some}
use Rattle.mj_dev.specs.Talk.{TalkStand, beginning, stand_of}
use Rattle.mj_sessions.specs.Asked.{Answering as Tells}
use Rattle.mj_sessions.specs.Events.{Log, talk_on}
use Rattle.mj_sessions.specs.Follow.{Follow, AreTalks}
use Rattle.mj_sessions.specs.Named.{Named, Roomy, session_of, TalkLeaves, AreTold}
use Rattle.mj_core.specs.Answering.{Answering}
use Rattle.mj_core.specs.Serving.{calling}
use Rattle.mj_core.specs.Silent.{silent_on}

-- a job whose sessions are those of which its log tells has talked as the protocol says
pub told_talks : (log : Log) (xs : List Named) → AreTold log xs → AreTalks log
told_talks log xs told name = by (session_of name xs) (told name) where
  by : (found : Option Named) → TalkLeaves (talk_on name log) found → (last : TalkStand) × Follow beginning (talk_on name log) last
  by None t = (beginning, t.0)
  by (Some s) t = (stand_of s.session, t.0)

-- they are those of which the job's log tells, no two with one device; and what they answer comes of calls to their devices
abbrev pub by_sessions : Tells → Answering Roomy
by_sessions tells = record {
  IsOf = λ x log. AreTold log x.sessions;
  Has = λ x name has. is_some (session_of name x.sessions) ≡ has;
  HasRoom = λ x name. (0 < x.room) × (session_of name x.sessions ≡ None);
  means = calling tells;
  talks = λ x log told. told_talks log x.sessions told;
  silent = λ x log a reply none told name. silent_on (λ t. TalkLeaves t (session_of name x.sessions)) name log a reply none (told name);
}
