-- How a trace spells what a job asked and was told (this profile): words with one blank between them. Texts, names and subscripts are spelled as in a
-- listing; `-` is nothing. `(` is byte 40, `)` is 41, `,` is 44, `-` is 45, `=` is 61, `{` is 123 and `}` is 125.
use Rattle.std.specs.Prelude.{ℕ, ℤ, List, [], ◌∷◌, ◌++◌, Option, Some, None, codes, decimal}
use Rattle.std.specs.Fmt.{signed_decimal}
use Rattle.mj_text.specs.Fault.{code_of}
use Rattle.mj_text.specs.declared.fault.Fault.{Fault}
use Rattle.mj_subs.specs.Name.{Name}
use Rattle.mj_store.specs.Questions.{Subtree}
use Rattle.mj_store.specs.declared.store.Direction.{Direction}
use Rattle.mj_store.specs.declared.store.Direction.TheVariants as directions
use Rattle.mj_store.specs.declared.access.Access.{Access}
use Rattle.mj_store.specs.declared.access.Access.TheVariants as accesses
use Rattle.mj_store.specs.declared.access.Answer.{Answer}
use Rattle.mj_store.specs.declared.access.Answer.TheVariants as answers_are
use Rattle.mj_ask.specs.Written.{entry_text}
use Rattle.mj_ask.specs.Started.{Started}
use Rattle.mj_ask.specs.Fits.{device_timeout}
use Rattle.mj_ask.specs.declared.ask.Kind.{Kind}
use Rattle.mj_ask.specs.declared.ask.Kind.TheVariants as kinds
use Rattle.mj_ask.specs.declared.clash.Kept.{Kept}
use Rattle.mj_ask.specs.declared.clash.Kept.TheVariants as kepts
use Rattle.mj_ask.specs.declared.clash.Clash.{Clash}
use Rattle.mj_ask.specs.declared.ask.Ask.{Ask}
use Rattle.mj_ask.specs.declared.ask.Ask.TheVariants as asks
use Rattle.mj_ask.specs.declared.ask.SharedAsk.{SharedAsk}
use Rattle.mj_ask.specs.declared.ask.SharedAsk.TheVariants as shared_asks
use Rattle.mj_ask.specs.declared.ask.DeviceAsk.{DeviceAsk}
use Rattle.mj_ask.specs.declared.ask.DeviceAsk.TheVariants as device_asks
use Rattle.mj_ask.specs.declared.ask.Reply.{Reply}
use Rattle.mj_ask.specs.declared.ask.Reply.TheVariants as replies
use Rattle.mj_gfile.specs.Spelling.{listed_text, listed_subscript, listed_subscripts, listed_name}
use Rattle.mj_ask.specs.declared.noted.Spot.{Spot}
use Rattle.mj_ask.specs.declared.noted.Noted.{Noted}
use Rattle.mj_trace.specs.declared.form.Form.{Form}
use Rattle.mj_trace.specs.declared.form.Form.TheVariants.{First, Second}
use Rattle.mj_trace.specs.Devices.{device_word}

-- a blank, and what follows it
abbrev pub spaced : List ℕ → List ℕ
spaced bytes = 32 ∷ bytes

-- nothing
abbrev pub absent : List ℕ
absent = codes "-"

-- ---- lists

-- the names behind the first, each after a comma
abbrev pub rest_of_names : List Name → List ℕ
rest_of_names [] = []
rest_of_names (n ∷ names) = 44 ∷ (listed_name n ++ rest_of_names names)

-- names, with commas between them
abbrev pub names_text : List Name → List ℕ
names_text [] = []
names_text (n ∷ names) = listed_name n ++ rest_of_names names

-- the subscripts of a node below a name: `()` for the name's own
abbrev pub place_text : List (List ℕ) → List ℕ
place_text [] = codes "()"
place_text (s ∷ ss) = listed_subscripts (s ∷ ss)

-- a node: its place, and its text
abbrev pub node_text : List (List ℕ) × List ℕ → List ℕ
node_text e = place_text e.0 ++ 61 ∷ listed_text e.1

-- the nodes behind the first, each after a comma
abbrev pub rest_of_nodes : Subtree → List ℕ
rest_of_nodes [] = []
rest_of_nodes (e ∷ es) = 44 ∷ (node_text e ++ rest_of_nodes es)

abbrev pub nodes_between : Subtree → List ℕ
nodes_between [] = []
nodes_between (e ∷ es) = node_text e ++ rest_of_nodes es

-- nodes, in braces
abbrev pub subtree_text : Subtree → List ℕ
subtree_text nodes = 123 ∷ (nodes_between nodes ++ 125 ∷ [])

-- a value that another job starts with; one that was left out is nothing
abbrev pub value_text : Option (List ℕ) → List ℕ
value_text None = absent
value_text (Some t) = listed_text t

abbrev pub rest_of_values : List (Option (List ℕ)) → List ℕ
rest_of_values [] = []
rest_of_values (v ∷ vs) = 44 ∷ (value_text v ++ rest_of_values vs)

abbrev pub values_between : List (Option (List ℕ)) → List ℕ
values_between [] = []
values_between (v ∷ vs) = value_text v ++ rest_of_values vs

-- the values that another job starts with, in parentheses
abbrev pub values_text : List (Option (List ℕ)) → List ℕ
values_text values = 40 ∷ (values_between values ++ 41 ∷ [])

-- ---- asks

-- a timeout is the last word of its ask
abbrev pub timeout_text : Option ℤ → List ℕ
timeout_text None = []
timeout_text (Some n) = codes " :" ++ signed_decimal n

abbrev pub direction_text : Direction → List ℕ
direction_text directions.Forward = codes "1"
direction_text directions.Backward = codes "-1"

abbrev pub access_text : Access → List ℕ
access_text (accesses.Value n) = codes "value " ++ listed_name n
access_text (accesses.Data n) = codes "data " ++ listed_name n
access_text (accesses.Order n way) = codes "order " ++ listed_name n ++ spaced (direction_text way)
access_text (accesses.Query n) = codes "query " ++ listed_name n
access_text (accesses.Subtree n) = codes "subtree " ++ listed_name n
access_text (accesses.Set n t) = codes "set " ++ listed_name n ++ spaced (listed_text t)
access_text (accesses.Kill n) = codes "kill " ++ listed_name n
access_text (accesses.Put n nodes) = codes "put " ++ listed_name n ++ spaced (subtree_text nodes)

abbrev pub kind_text : Kind → List ℕ
kind_text kinds.Serial = codes " serial"
kind_text kinds.Plain = []

-- how a job ends: by a fault, which is told by its number, or by none
abbrev pub fault_text : Option Fault → List ℕ
fault_text None = []
fault_text (Some f) = codes " F" ++ decimal (code_of f)

-- the start of another job: where it starts, with which values, and how long it may wait for a place
abbrev pub start_text : Started → Option ℤ → List ℕ
start_text start timeout = codes "start " ++ entry_text start.entry ++ spaced (values_text start.values ++ timeout_text timeout)

-- what is asked of what all jobs share
abbrev pub shared_text : SharedAsk → List ℕ
shared_text (shared_asks.Access a) = access_text a
shared_text (shared_asks.Try names timeout) = codes "try " ++ names_text names ++ timeout_text timeout
shared_text (shared_asks.Unlock names) = codes "unlock " ++ names_text names
shared_text shared_asks.UnlockAll = codes "unlock *"
shared_text (shared_asks.Begin kind) = codes "begin" ++ kind_text kind
shared_text shared_asks.Commit = codes "commit"
shared_text shared_asks.Rollback = codes "rollback"
shared_text (shared_asks.Open device timeout) = codes "open " ++ listed_text device ++ timeout_text timeout
shared_text (shared_asks.Close device) = codes "close " ++ listed_text device
shared_text (shared_asks.Start start timeout) = start_text start timeout
shared_text (shared_asks.Halt fault) = codes "halt" ++ fault_text fault

-- what is asked of a session of a device
abbrev pub device_text : DeviceAsk → List ℕ
device_text (device_asks.Write bytes) = codes "write " ++ listed_text bytes
device_text a = device_word a ++ timeout_text (device_timeout a)

-- an ask, by who serves it
abbrev pub ask_text : Ask → List ℕ
ask_text (asks.Shared a) = shared_text a
ask_text (asks.Device device a) = codes "dev " ++ listed_text device ++ spaced (device_text a)
ask_text (asks.Rest n) = codes "rest " ++ signed_decimal n

-- ---- replies

abbrev pub answer_text : Answer → List ℕ
answer_text (answers_are.Value None) = absent
answer_text (answers_are.Value (Some t)) = listed_text t
answer_text (answers_are.Data d) = decimal d
answer_text (answers_are.Order None) = absent
answer_text (answers_are.Order (Some s)) = listed_subscript s
answer_text (answers_are.Query None) = absent
answer_text (answers_are.Query (Some n)) = listed_name n
answer_text (answers_are.Subtree nodes) = subtree_text nodes
answer_text answers_are.Done = codes "done"
answer_text answers_are.Limit = codes "limit"

-- what a clash keeps of an answer
abbrev pub kept_text : Kept → List ℕ
kept_text kepts.Nothing = absent
kept_text (kepts.Text t) = listed_text t
kept_text (kepts.Number n) = signed_decimal n
kept_text (kepts.Name n) = listed_name n
kept_text (kepts.Subtree nodes) = subtree_text nodes

-- a clash: the number of the access, what it was answered, and what it would be answered by now
abbrev pub clash_text : Clash → List ℕ
clash_text clash = decimal clash.place ++ spaced (kept_text clash.then ++ spaced (kept_text clash.now))

abbrev pub reply_text : Reply → List ℕ
reply_text replies.Done = codes "done"
reply_text (replies.Answer a) = answer_text a
reply_text replies.Limit = codes "limit"
reply_text replies.Got = codes "got"
reply_text replies.Late = codes "late"
reply_text replies.NoSession = codes "none"
reply_text replies.Failed = codes "failed"
reply_text replies.End = codes "end"
reply_text (replies.Line t) = listed_text t
reply_text (replies.Byte b) = decimal b
reply_text (replies.Job n) = codes "job " ++ decimal n
reply_text (replies.Clash clash) = codes "clash " ++ clash_text clash

-- ---- events

-- what a job asked, and what it was told
abbrev pub told_text : Ask → Reply → List ℕ
told_text a r = ask_text a ++ spaced (reply_text r)

-- where an ask came from: the line of a routine, or nothing
abbrev pub spot_text : Option Spot → List ℕ
spot_text None = absent
spot_text (Some s) = s.routine ++ 58 ∷ decimal s.line

-- where an ask came from, and a blank, where the form says that
abbrev pub spot_part : Form → Option Spot → List ℕ
spot_part First spot = []
spot_part (Second limit) spot = spot_text spot ++ 32 ∷ []

-- the line of an event, without the byte 10 that ends it: the job, where its ask came from, where the form says that, what it asked, and what it was told
abbrev pub event_text : Form → Noted → List ℕ
event_text form e = decimal e.job ++ spaced (spot_part form e.spot ++ told_text e.ask e.reply)
