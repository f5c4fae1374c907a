-- A session's talk: the calls to it with their answers, in order, and the device protocol, which knows nothing of devices.
use Rattle.std.specs.Prelude.{ℕ, ◌≤◌, ◌≡◌, List, [], ◌∷◌, ◌++◌, Option, Some, None, length}
use Rattle.mj_text.specs.declared.text.TheConstants.{TEXT_LIMIT}
use Rattle.mj_dev.specs.declared.device.Did.{Did}
use Rattle.mj_dev.specs.declared.device.Did.TheVariants as did
use Rattle.mj_dev.specs.declared.device.Input.{Input}
use Rattle.mj_dev.specs.declared.device.Input.TheVariants as input
use Rattle.mj_dev.specs.declared.talk.State.{State}
use Rattle.mj_dev.specs.declared.talk.State.TheVariants as states
use Rattle.mj_dev.specs.declared.talk.Code.{Code}
use Rattle.mj_dev.specs.declared.talk.Code.TheVariants as codes
use Rattle.mj_dev.specs.Did.{bytes_of, IsAnswered}
use Rattle.mj_dev.specs.Rest.{TakesOne, TakesRest}
use Rattle.mj_dev.specs.Heard.{Heard, DeviceBegins, Writes, Lines, Bytes}

-- a call to a session, with its answer
pub data Exchange : Type 0 where
  Begun : Did → Exchange
  Written : List ℕ → Did → Exchange
  LineRead : Input → Exchange
  ByteRead : Code → Exchange
  Ended : Did → Exchange

-- the bytes that a call wrote
abbrev pub written_by : Exchange → List ℕ
written_by (Begun answer) = []
written_by (Written bytes answer) = bytes_of answer bytes
written_by (LineRead read) = []
written_by (ByteRead code) = []
written_by (Ended answer) = []

-- device output: the bytes of the writes that were done, joined
abbrev pub output_of : List Exchange → List ℕ
output_of [] = []
output_of (exchange ∷ talk) = written_by exchange ++ output_of talk

-- what one call does to a session; what is ended is no session any more
abbrev pub Exchanges : Heard → Exchange → Heard → Type 0
Exchanges old (Begun answer) new = DeviceBegins old answer new
Exchanges old (Written bytes answer) new = Writes old bytes answer new
Exchanges old (LineRead read) new = Lines old old.rest read new
Exchanges old (ByteRead code) new = Bytes old old.rest code new
Exchanges old (Ended answer) new = ⊥

-- a session's talk from one moment to another, which it may be used for
abbrev pub Talks : Heard → List Exchange → Heard → Type 0
Talks old [] new = new ≡ old
Talks old (exchange ∷ talk) new =
    (between : Heard) × (old.state ≡ states.Open) × Exchanges old exchange between × Talks between talk new

-- where a talk stands, as the protocol knows it: the rest of a line that was begun, and whether the session may be used
pub record TalkStand : Type 0 where
  pub rest : Option (List ℕ)
  pub state : State

-- where a session stands
abbrev pub stand_of : Heard → TalkStand
stand_of session = record { rest = session.rest; state = session.state }

-- where a talk stands behind an answer that reads nothing
abbrev pub stand_after : TalkStand → Did → TalkStand
stand_after stand did.Done = stand
stand_after stand did.Failed = record stand { state = states.Failed }
stand_after stand did.Memory = stand

-- a line is read where no other was begun: any line may come
abbrev pub AllowsAnyLine : TalkStand → Input → TalkStand → Type 0
AllowsAnyLine old (input.Line line) new = new ≡ old
AllowsAnyLine old input.End new = new ≡ old
AllowsAnyLine old input.NotYet new = new ≡ old
AllowsAnyLine old input.Failed new = new ≡ record old { state = states.Failed }
AllowsAnyLine old input.Memory new = new ≡ old

-- a byte's code is read where no line was begun: that of any line's first byte, which the rest of that line follows
abbrev pub AllowsAnyByte : TalkStand → Code → TalkStand → Type 0
AllowsAnyByte old (codes.Byte byte) new =
    (line : List ℕ) × (length line ≤ TEXT_LIMIT) × TakesOne line (codes.Byte byte) new.rest × (new.state ≡ old.state)
AllowsAnyByte old codes.End new = new ≡ old
AllowsAnyByte old codes.NotYet new = new ≡ old
AllowsAnyByte old codes.Failed new = new ≡ record old { state = states.Failed }
AllowsAnyByte old codes.Memory new = new ≡ old

-- a line is read: the rest of one that was begun, else any
abbrev pub AllowsLine : TalkStand → Option (List ℕ) → Input → TalkStand → Type 0
AllowsLine old None read new = AllowsAnyLine old read new
AllowsLine old (Some rest) read new = TakesRest rest read new.rest × (new.state ≡ old.state)

-- a byte's code is read: of a line that was begun, else of any
abbrev pub AllowsByte : TalkStand → Option (List ℕ) → Code → TalkStand → Type 0
AllowsByte old None code new = AllowsAnyByte old code new
AllowsByte old (Some rest) code new = TakesOne rest code new.rest × (new.state ≡ old.state)

-- a call to a session that may be used
abbrev pub AllowsOpen : TalkStand → Exchange → TalkStand → Type 0
AllowsOpen old (Begun answer) new = new ≡ stand_after old answer
AllowsOpen old (Written bytes answer) new = new ≡ stand_after old answer
AllowsOpen old (LineRead read) new = AllowsLine old old.rest read new
AllowsOpen old (ByteRead code) new = AllowsByte old old.rest code new
AllowsOpen old (Ended answer) new = IsAnswered answer × (new ≡ record old { state = states.Ended })

-- a call to a session that failed: its end alone
abbrev pub AllowsFailed : TalkStand → Exchange → TalkStand → Type 0
AllowsFailed old (Begun answer) new = ⊥
AllowsFailed old (Written bytes answer) new = ⊥
AllowsFailed old (LineRead read) new = ⊥
AllowsFailed old (ByteRead code) new = ⊥
AllowsFailed old (Ended answer) new = IsAnswered answer × (new ≡ record old { state = states.Ended })

-- a call by the state of the session: behind its end there is none
abbrev pub Allows : TalkStand → State → Exchange → TalkStand → Type 0
Allows old states.Open exchange new = AllowsOpen old exchange new
Allows old states.Failed exchange new = AllowsFailed old exchange new
Allows old states.Ended exchange new = ⊥

-- the device protocol: from where a talk stands to where it stands behind some more exchanges
abbrev pub FollowsProtocol : TalkStand → List Exchange → TalkStand → Type 0
FollowsProtocol old [] new = new ≡ old
FollowsProtocol old (exchange ∷ talk) new = (between : TalkStand) × Allows old old.state exchange between × FollowsProtocol between talk new

-- each talk that led to this session goes on, by its end with this answer, to where the protocol ends
abbrev pub GoesToEnd : Heard → Did → Type 0
GoesToEnd session answer =
    (old : Heard) → (talk : List Exchange) → Talks old talk session
    → FollowsProtocol (stand_of old) (talk ++ Ended answer ∷ []) (record { rest = session.rest; state = states.Ended })

-- where each talk begins
abbrev pub beginning : TalkStand
beginning = record { rest = None; state = states.Open }

-- the device isn't begun once more
abbrev pub HasNoBegin : List Exchange → Type 0
HasNoBegin [] = Unit {0}
HasNoBegin (Begun answer ∷ talk) = ⊥
HasNoBegin (Written bytes answer ∷ talk) = HasNoBegin talk
HasNoBegin (LineRead read ∷ talk) = HasNoBegin talk
HasNoBegin (ByteRead code ∷ talk) = HasNoBegin talk
HasNoBegin (Ended answer ∷ talk) = HasNoBegin talk

-- The device is begun first, and once: where memory was refused it isn't yet. One that wasn't begun may be ended.
abbrev pub BeginsOnce : List Exchange → Type 0
BeginsOnce [] = Unit {0}
BeginsOnce (Begun did.Done ∷ talk) = HasNoBegin talk
BeginsOnce (Begun did.Failed ∷ talk) = HasNoBegin talk
BeginsOnce (Begun did.Memory ∷ talk) = BeginsOnce talk
BeginsOnce (Written bytes answer ∷ talk) = ⊥
BeginsOnce (LineRead read ∷ talk) = ⊥
BeginsOnce (ByteRead code ∷ talk) = ⊥
BeginsOnce (Ended answer ∷ talk) = HasNoBegin talk

-- a talk that obeys the device protocol: begun first, behind a failure only its end, behind its end nothing
abbrev pub IsTalk : List Exchange → Type 0
IsTalk talk = BeginsOnce talk × (last : TalkStand) × FollowsProtocol beginning talk last
