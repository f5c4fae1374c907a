-- What each call to a session does to it and to its device.
use Rattle.std.specs.Prelude.{ℕ, ◌+◌, ◌<◌, ◌≤◌, ◌^◌, ◌≡◌, List, [], ◌∷◌, ◌++◌, Option, Some, None, length}
use Rattle.mj_text.specs.declared.text.TheConstants.{TEXT_LIMIT}
use Rattle.mj_dev.specs.declared.device.Did.{Did}
use Rattle.mj_dev.specs.declared.device.Did.TheVariants as did
use Rattle.mj_dev.specs.declared.device.Input.{Input}
use Rattle.mj_dev.specs.declared.device.Input.TheVariants as input
use Rattle.mj_dev.specs.declared.talk.State.{State}
use Rattle.mj_dev.specs.declared.talk.State.TheVariants as states
use Rattle.mj_dev.specs.declared.talk.Cursor.{Cursor}
use Rattle.mj_dev.specs.declared.talk.Code.{Code}
use Rattle.mj_dev.specs.declared.talk.Code.TheVariants as codes
use Rattle.mj_dev.specs.Cursor.{cursor_behind}
use Rattle.mj_dev.specs.Did.{failures_of}

-- A session: the rest of a line that was begun, whether it may be used, where its next byte stands, and of its device a number for what it keeps, how
-- many calls failed, the bytes that it took and the lines that it gave.
pub record Heard : Type 0 where
  pub rest : Option (List ℕ)
  pub state : State
  pub cursor : Cursor
  pub inside : ℕ
  pub failures : ℕ
  pub taken : List ℕ
  pub given : List (List ℕ)

-- a session of which nothing was asked yet
pub record IsNew (session : Heard) : Type 0 where
  pub rest : session.rest ≡ None
  pub state : session.state ≡ states.Open
  pub cursor : session.cursor ≡ record { column = 0; row = 0 }
  pub failures : session.failures < 2 ^ 32
  pub taken : session.taken ≡ []
  pub given : session.given ≡ []

-- a device of which nothing was asked yet, as its counts tell
pub record IsFresh (failures : ℕ) (taken : List ℕ) (given : List (List ℕ)) : Type 0 where
  pub few : failures < 2 ^ 32
  pub nothing_taken : taken ≡ []
  pub nothing_given : given ≡ []

-- the session once its device was called, which keeps now what it keeps in the new session
abbrev pub called : Heard → Heard → Heard
called old new = record old { inside = new.inside }

-- the session once its device has failed
abbrev pub after_failure : Heard → Heard
after_failure old = record old { state = states.Failed; failures = old.failures + 1 }

-- the session once its device has given a line
abbrev pub after_line : Heard → List ℕ → Heard
after_line old line = record old { given = old.given ++ line ∷ [] }

-- the session once its device has taken some bytes
abbrev pub after_bytes : Heard → List ℕ → Heard
after_bytes old bytes = record old { taken = old.taken ++ bytes; cursor = cursor_behind old.cursor bytes }

-- the device begins
abbrev pub DeviceBegins : Heard → Did → Heard → Type 0
DeviceBegins old did.Done new = new ≡ called old new
DeviceBegins old did.Failed new = new ≡ after_failure (called old new)
DeviceBegins old did.Memory new = new ≡ called old new

-- some bytes are written
abbrev pub Writes : Heard → List ℕ → Did → Heard → Type 0
Writes old bytes did.Done new = new ≡ after_bytes (called old new) bytes
Writes old bytes did.Failed new = new ≡ after_failure (called old new)
Writes old bytes did.Memory new = new ≡ called old new

-- the device gives its next line, or says why there is none
abbrev pub DeviceReads : Heard → Input → Heard → Type 0
DeviceReads old (input.Line line) new = new ≡ after_line (called old new) line
DeviceReads old input.End new = new ≡ called old new
DeviceReads old input.NotYet new = new ≡ called old new
DeviceReads old input.Failed new = new ≡ after_failure (called old new)
DeviceReads old input.Memory new = new ≡ called old new

-- the rest of a line is given and is no rest any more, or memory is refused; the device isn't called
abbrev pub Rests : Heard → List ℕ → Input → Heard → Type 0
Rests old rest (input.Line line) new = (line ≡ rest) × (new ≡ record old { rest = None })
Rests old rest input.End new = ⊥
Rests old rest input.NotYet new = ⊥
Rests old rest input.Failed new = ⊥
Rests old rest input.Memory new = new ≡ old

-- a line is read: the rest of one that was begun, else the device's next
abbrev pub Lines : Heard → Option (List ℕ) → Input → Heard → Type 0
Lines old None read new = DeviceReads old read new
Lines old (Some rest) read new = Rests old rest read new

-- the first byte's code of what is left of a line, or 10 at its end, behind which nothing is left of it
abbrev pub Firsts : Heard → List ℕ → Code → Heard → Type 0
Firsts old [] code new = (code ≡ codes.Byte 10) × (new ≡ record old { rest = None })
Firsts old (byte ∷ bytes) code new = (code ≡ codes.Byte byte) × (new ≡ record old { rest = Some bytes })

-- the first byte's code of the device's next line, or why there is none
abbrev pub Codes : Heard → Code → Heard → Type 0
Codes old (codes.Byte byte) new = (line : List ℕ) × (length line ≤ TEXT_LIMIT) × Firsts (after_line (called old new) line) line (codes.Byte byte) new
Codes old codes.End new = new ≡ called old new
Codes old codes.NotYet new = new ≡ called old new
Codes old codes.Failed new = new ≡ after_failure (called old new)
Codes old codes.Memory new = new ≡ called old new

-- a byte's code is read: of a line that was begun, for which the device isn't called, else of the device's next
abbrev pub Bytes : Heard → Option (List ℕ) → Code → Heard → Type 0
Bytes old None code new = Codes old code new
Bytes old (Some rest) code new = Firsts old rest code new

-- the device of a session ends: it is left with the counts that follow
pub record DeviceEnds (old : Heard) (result : Did) (failures : ℕ) (taken : List ℕ) (given : List (List ℕ)) : Type 0 where
  pub counted : failures ≡ old.failures + failures_of result
  pub nothing_taken : taken ≡ old.taken
  pub nothing_given : given ≡ old.given

-- so few failures that one more is counted
abbrev pub IsFew : State → ℕ → Type 0
IsFew states.Open failures = failures < 2 ^ 32
IsFew states.Failed failures = failures ≤ 2 ^ 32
IsFew states.Ended failures = ⊥

-- what the type of a session keeps: few failures, and no more columns and rows than bytes were taken
pub record IsSession (session : Heard) : Type 0 where
  pub few : IsFew session.state session.failures
  pub columns : session.cursor.column ≤ length session.taken
  pub rows : session.cursor.row ≤ length session.taken
