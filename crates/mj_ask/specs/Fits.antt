-- The table of asks: which reply fits which ask, who serves it, and which are unlocks, of which locks.
use Rattle.std.specs.Prelude.{ℕ, ℤ, ◌==◌, List, Option, Some, None, Bool, true, false, not, ◌&&◌, ◌||◌}
use Rattle.std.specs.Option.{is_some}
use Rattle.mj_subs.specs.Name.{Name}
use Rattle.mj_store.specs.declared.access.Access.{Access}
use Rattle.mj_store.specs.declared.access.Access.TheVariants as accesses
use Rattle.mj_store.specs.declared.access.Answer.{Answer}
use Rattle.mj_store.specs.declared.access.Answer.TheVariants as answers_are
use Rattle.mj_ask.specs.declared.ask.Ask.{Ask}
use Rattle.mj_ask.specs.declared.ask.Ask.TheVariants as asks
use Rattle.mj_ask.specs.declared.ask.SharedAsk.{SharedAsk}
use Rattle.mj_ask.specs.declared.ask.SharedAsk.TheVariants as shared_asks
use Rattle.mj_ask.specs.declared.ask.GivenUp as borrowed
use Rattle.mj_ask.specs.declared.ask.GivenUp.TheVariants as given
use Rattle.mj_ask.specs.declared.ask.DeviceAsk.{DeviceAsk}
use Rattle.mj_ask.specs.declared.ask.DeviceAsk.TheVariants as device_asks
use Rattle.mj_ask.specs.declared.ask.Reply.{Reply}
use Rattle.mj_ask.specs.declared.ask.Reply.TheVariants as replies

-- a number that `$DATA` gives
abbrev pub is_data : ℕ → Bool
is_data d = d == 0 || d == 1 || d == 10 || d == 11

-- The answer is one to this access: a text or none; a number of `$DATA`; a subscript or none; a name or none; nodes; that it is done. A
-- limit may be passed by any.
abbrev pub answers : Access → Answer → Bool
answers a answers_are.Limit = true
answers (accesses.Value n) (answers_are.Value v) = true
answers (accesses.Data n) (answers_are.Data d) = is_data d
answers (accesses.Order n way) (answers_are.Order s) = true
answers (accesses.Query n) (answers_are.Query m) = true
answers (accesses.Subtree n) (answers_are.Subtree nodes) = true
answers (accesses.Set n v) answers_are.Done = true
answers (accesses.Kill n) answers_are.Done = true
answers (accesses.Put n nodes) answers_are.Done = true
answers _ _ = false

-- The reply stands in the table behind this ask of what all share
abbrev pub is_shared_reply : SharedAsk → Reply → Bool
is_shared_reply (shared_asks.Access a) (replies.Answer x) = answers a x
is_shared_reply (shared_asks.Try names timeout) replies.Got = true
is_shared_reply (shared_asks.Try names timeout) replies.Late = true
is_shared_reply (shared_asks.Try names timeout) replies.Limit = true
is_shared_reply (shared_asks.Unlock names) replies.Done = true
is_shared_reply (shared_asks.Unlock names) replies.Limit = true
is_shared_reply shared_asks.UnlockAll replies.Done = true
is_shared_reply shared_asks.UnlockAll replies.Limit = true
is_shared_reply (shared_asks.Begin kind) replies.Done = true
is_shared_reply shared_asks.Commit replies.Done = true
is_shared_reply shared_asks.Commit (replies.Clash clash) = true
is_shared_reply shared_asks.Rollback replies.Done = true
is_shared_reply (shared_asks.Open device timeout) replies.Got = true
is_shared_reply (shared_asks.Open device timeout) replies.Late = true
is_shared_reply (shared_asks.Open device timeout) replies.NoSession = true
is_shared_reply (shared_asks.Close device) replies.Done = true
is_shared_reply (shared_asks.Start start timeout) (replies.Job number) = true
is_shared_reply (shared_asks.Start start timeout) replies.Limit = true
is_shared_reply (shared_asks.Halt fault) replies.Done = true
is_shared_reply _ _ = false

-- the reply stands in the table behind this ask of a device
abbrev pub is_device_reply : DeviceAsk → Reply → Bool
is_device_reply device_asks.Begin replies.Done = true
is_device_reply device_asks.Begin replies.Failed = true
is_device_reply (device_asks.Write bytes) replies.Done = true
is_device_reply (device_asks.Write bytes) replies.Failed = true
is_device_reply (device_asks.Line timeout) (replies.Line text) = true
is_device_reply (device_asks.Line timeout) replies.End = true
is_device_reply (device_asks.Line timeout) replies.Late = true
is_device_reply (device_asks.Line timeout) replies.Failed = true
is_device_reply (device_asks.Byte timeout) (replies.Byte code) = true
is_device_reply (device_asks.Byte timeout) replies.End = true
is_device_reply (device_asks.Byte timeout) replies.Late = true
is_device_reply (device_asks.Byte timeout) replies.Failed = true
is_device_reply device_asks.End replies.Done = true
is_device_reply device_asks.End replies.Failed = true
is_device_reply _ _ = false

-- the reply is that it is done
abbrev pub is_done : Reply → Bool
is_done replies.Done = true
is_done _ = false

-- the reply stands in the table behind this ask
abbrev pub is_reply_to : Ask → Reply → Bool
is_reply_to (asks.Shared a) r = is_shared_reply a r
is_reply_to (asks.Device device a) r = is_device_reply a r
is_reply_to (asks.Rest time) r = is_done r

-- how long an ask of what all share waits, where it has a timeout
abbrev pub shared_timeout : SharedAsk → Option ℤ
shared_timeout (shared_asks.Try names timeout) = timeout
shared_timeout (shared_asks.Open device timeout) = timeout
shared_timeout (shared_asks.Start start timeout) = timeout
shared_timeout _ = None

-- how long an ask of a device waits, where it has a timeout
abbrev pub device_timeout : DeviceAsk → Option ℤ
device_timeout (device_asks.Line timeout) = timeout
device_timeout (device_asks.Byte timeout) = timeout
device_timeout _ = None

-- how long the ask waits, where it has a timeout
abbrev pub timeout_of : Ask → Option ℤ
timeout_of (asks.Shared a) = shared_timeout a
timeout_of (asks.Device device a) = device_timeout a
timeout_of (asks.Rest time) = None

-- it was late
abbrev pub is_late : Reply → Bool
is_late replies.Late = true
is_late _ = false

-- the reply is one to this ask: it stands in the table, and only what has a timeout is late
abbrev pub fits : Ask → Reply → Bool
fits a r = is_reply_to a r && (not (is_late r) || is_some (timeout_of a))

-- the shared state serves this ask
abbrev pub is_shared : Ask → Bool
is_shared (asks.Shared a) = true
is_shared _ = false

-- which of its locks a job gives up: one of each of these names, or all
pub data GivenUp : Type 0 where
  TheNames : (names : List Name) → GivenUp
  AllNames : GivenUp

-- which are given up by an ask, if it is an unlock
abbrev pub gives_up : Ask → Option GivenUp
gives_up (asks.Shared (shared_asks.Unlock names)) = Some (TheNames names)
gives_up (asks.Shared shared_asks.UnlockAll) = Some AllNames
gives_up _ = None

-- the same as code has it, which borrows the names
abbrev pub given_seen : Option borrowed.GivenUp → Option GivenUp
given_seen None = None
given_seen (Some (given.Names names)) = Some (TheNames names.now)
given_seen (Some given.All) = Some AllNames
