-- What the values of a trace's types can hold: a text is no longer than one may be, and a number is in its range.
use Rattle.std.specs.Prelude.{◌≡◌, ℕ, ℤ, ◌^◌, Bool, true, ◌&&◌, nat_lt, nat_le, List, length, Option, Some, None}
use Rattle.std.specs.List.{list_all}
use Rattle.mj_num.specs.Number.{is_in_range}
use Rattle.mj_subs.specs.Name.{Name}
use Rattle.mj_store.specs.Questions.{Subtree}
use Rattle.mj_store.specs.declared.access.Access.{Access}
use Rattle.mj_store.specs.declared.access.Access.TheVariants as accesses
use Rattle.mj_store.specs.declared.access.Answer.{Answer}
use Rattle.mj_store.specs.declared.access.Answer.TheVariants as answers_are
use Rattle.mj_ask.specs.Fits.{device_timeout}
use Rattle.mj_ask.specs.declared.clash.Kept.{Kept}
use Rattle.mj_ask.specs.declared.clash.Kept.TheVariants as kepts
use Rattle.mj_ask.specs.declared.ask.Ask.{Ask}
use Rattle.mj_ask.specs.declared.ask.Ask.TheVariants as asks
use Rattle.mj_ask.specs.declared.ask.SharedAsk.{SharedAsk}
use Rattle.mj_ask.specs.declared.ask.SharedAsk.TheVariants as shared_asks
use Rattle.mj_ask.specs.declared.ask.DeviceAsk.{DeviceAsk}
use Rattle.mj_ask.specs.declared.ask.DeviceAsk.TheVariants as device_asks
use Rattle.mj_ask.specs.declared.ask.Reply.{Reply}
use Rattle.mj_ask.specs.declared.ask.Reply.TheVariants as replies
use Rattle.mj_text.specs.declared.limit.Limit.TheVariants.{V2}
use Rattle.mj_gfile.specs.Listing.{is_text}
use Rattle.mj_ask.specs.declared.noted.Noted.{Noted}
use Rattle.mj_ask.specs.declared.noted.Spot.{Spot}
use Rattle.mj_trace.specs.Trace.{Traced}

-- a count
abbrev pub is_count : ℕ → Bool
is_count n = nat_lt n (2 ^ 32)

-- a code, of a byte
abbrev pub is_code : ℕ → Bool
is_code n = nat_lt n 256

abbrev pub are_texts : List (List ℕ) → Bool
are_texts ts = list_all (is_text V2) ts

-- the subscripts of a name
abbrev pub name_fits : Name → Bool
name_fits n = are_texts n.subscripts

-- a node, with no more subscripts than there may be
abbrev pub node_fits : List (List ℕ) × List ℕ → Bool
node_fits e = nat_le (length e.0) 31 && are_texts e.0 && is_text V2 e.1

abbrev pub nodes_fit : Subtree → Bool
nodes_fit nodes = list_all node_fits nodes

abbrev pub access_fits : Access → Bool
access_fits (accesses.Value n) = name_fits n
access_fits (accesses.Data n) = name_fits n
access_fits (accesses.Order n way) = name_fits n
access_fits (accesses.Query n) = name_fits n
access_fits (accesses.Subtree n) = name_fits n
access_fits (accesses.Set n t) = name_fits n && is_text V2 t
access_fits (accesses.Kill n) = name_fits n
access_fits (accesses.Put n nodes) = name_fits n && nodes_fit nodes

abbrev pub timeout_fits : Option ℤ → Bool
timeout_fits timeout = elim timeout [ None ↦ true | Some n ↦ is_in_range n ]

abbrev pub value_fits : Option (List ℕ) → Bool
value_fits value = elim value [ None ↦ true | Some t ↦ is_text V2 t ]

-- what is asked of what all jobs share
abbrev pub shared_fits : SharedAsk → Bool
shared_fits (shared_asks.Access a) = access_fits a
shared_fits (shared_asks.Try names timeout) = list_all name_fits names && timeout_fits timeout
shared_fits (shared_asks.Unlock names) = list_all name_fits names
shared_fits (shared_asks.Open device timeout) = is_text V2 device && timeout_fits timeout
shared_fits (shared_asks.Close device) = is_text V2 device
shared_fits (shared_asks.Start start timeout) = list_all value_fits start.values && timeout_fits timeout
shared_fits _ = true

-- what is asked of a session of a device
abbrev pub device_fits : DeviceAsk → Bool
device_fits (device_asks.Write bytes) = is_text V2 bytes
device_fits a = timeout_fits (device_timeout a)

-- an ask, by who serves it
abbrev pub ask_fits : Ask → Bool
ask_fits (asks.Shared a) = shared_fits a
ask_fits (asks.Device device a) = is_text V2 device && device_fits a
ask_fits (asks.Rest n) = is_in_range n

abbrev pub answer_fits : Answer → Bool
answer_fits (answers_are.Value v) = value_fits v
answer_fits (answers_are.Data d) = is_code d
answer_fits (answers_are.Order s) = value_fits s
answer_fits (answers_are.Query m) = elim m [ None ↦ true | Some n ↦ name_fits n ]
answer_fits (answers_are.Subtree nodes) = nodes_fit nodes
answer_fits answers_are.Done = true
answer_fits answers_are.Limit = true

abbrev pub kept_fits : Kept → Bool
kept_fits kepts.Nothing = true
kept_fits (kepts.Text t) = is_text V2 t
kept_fits (kepts.Number n) = is_in_range n
kept_fits (kepts.Name n) = name_fits n
kept_fits (kepts.Subtree nodes) = nodes_fit nodes

abbrev pub reply_fits : Reply → Bool
reply_fits (replies.Answer x) = answer_fits x
reply_fits (replies.Line t) = is_text V2 t
reply_fits (replies.Byte b) = is_code b
reply_fits (replies.Job n) = is_count n
reply_fits (replies.Clash clash) = is_count clash.place && kept_fits clash.then && kept_fits clash.now
reply_fits replies.Done = true
reply_fits replies.Limit = true
reply_fits replies.Got = true
reply_fits replies.Late = true
reply_fits replies.NoSession = true
reply_fits replies.Failed = true
reply_fits replies.End = true

-- a device with the number of its sessions
abbrev pub device_count_fits : List ℕ × ℕ → Bool
device_count_fits d = is_text V2 d.0 && is_count d.1

-- where an ask came from
abbrev pub spot_fits : Option Spot → Bool
spot_fits spot = elim spot [ None ↦ true | Some s ↦ is_count s.line ]

-- what a job asked and was told, with its number and its place
abbrev pub event_fits : Noted → Bool
event_fits e = is_count e.job && spot_fits e.spot && ask_fits e.ask && reply_fits e.reply

-- the values of a trace
pub record IsSized (t : Traced) : Type 0 where
  pub devices : list_all device_count_fits t.pool ≡ true
  pub events : list_all event_fits t.events ≡ true
