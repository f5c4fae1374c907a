-- What a line of a trace may say, found from the left to the right, one field after the other, by one pass. What stands between the fields isn't tested here:
-- what was found is spelled again, and must be the line. `"` is byte 34, `(` is 40, `)` is 41, `*` is 42, `,` is 44, `-` is 45, `:` is 58, `F` is 70, `^` is
-- 94, `{` is 123 and `}` is 125.
use Rattle.std.specs.Prelude.{ℕ, ℤ, pos, negsuc, zero, suc, ◌+◌, ◌^◌, Bool, true, false, not, ◌==◌, nat_lt, int_lt, if◌then◌else◌, List, [], ◌∷◌, ◌++◌, length, Option, Some, None, Result, Ok, Err, codes}
use Rattle.std.specs.Option.{option_map}
use Rattle.std.specs.Char.{is_ascii_lowercase}
use Rattle.std.specs.Str.{bytes_eq}
use Rattle.mj_text.specs.declared.fault.Fault.{Fault}
use Rattle.mj_text.specs.declared.fault.Fault.TheVariants as faults
use Rattle.mj_num.specs.Number.{reading}
use Rattle.mj_subs.specs.Name.{Name, is_word}
use Rattle.mj_store.specs.Questions.{Subtree}
use Rattle.mj_store.specs.declared.store.Direction.{Direction}
use Rattle.mj_store.specs.declared.store.Direction.TheVariants as directions
use Rattle.mj_store.specs.declared.access.Access.{Access}
use Rattle.mj_store.specs.declared.access.Access.TheVariants as accesses
use Rattle.mj_store.specs.declared.access.Answer.{Answer}
use Rattle.mj_store.specs.declared.access.Answer.TheVariants as answers_are
use Rattle.mj_ask.specs.Written.{entry_of}
use Rattle.mj_ask.specs.declared.entry.Entry.{Entry}
use Rattle.mj_ask.specs.declared.noted.Spot.{Spot}
use Rattle.mj_ask.specs.declared.ask.Kind.TheVariants as kinds
use Rattle.mj_ask.specs.declared.clash.Kept.{Kept}
use Rattle.mj_ask.specs.declared.clash.Kept.TheVariants as kepts
use Rattle.mj_ask.specs.declared.ask.Ask.{Ask}
use Rattle.mj_ask.specs.declared.ask.Ask.TheVariants as asks
use Rattle.mj_ask.specs.declared.ask.SharedAsk.{SharedAsk}
use Rattle.mj_ask.specs.declared.ask.SharedAsk.TheVariants as shared_asks
use Rattle.mj_ask.specs.declared.ask.DeviceAsk.{DeviceAsk}
use Rattle.mj_ask.specs.declared.ask.DeviceAsk.TheVariants as device_asks
use Rattle.mj_ask.specs.declared.ask.Reply.{Reply}
use Rattle.mj_ask.specs.declared.ask.Reply.TheVariants as replies
use Rattle.mj_gfile.specs.declared.field.Field.{Field}
use Rattle.mj_gfile.specs.declared.field.Field.TheVariants.{Within, Over}
use Rattle.mj_gfile.specs.Reading.{front_by, rest_by, is_number_byte, is_word_byte, text_at, subscript_at}
use Rattle.mj_text.specs.declared.limit.Limit.TheVariants.{V2}
use Rattle.mj_gfile.specs.Listing.{text_field}
use Rattle.mj_trace.specs.Devices.{timed_ask, given_by}
use Rattle.mj_trace.specs.declared.devices.Given.{Given}
use Rattle.mj_trace.specs.declared.devices.Given.TheVariants as givens
use Rattle.mj_trace.specs.declared.run.Run.{Run}
use Rattle.mj_trace.specs.declared.run.Run.TheVariants as runs

-- ---- bytes

-- what is found, and then what follows it
abbrev pub onward : {A B : Type 0} → (A → List ℕ → Option B) → Option (A × List ℕ) → Option B
onward f None = None
onward f (Some p) = f p.0 p.1

-- a byte of such a run
abbrev pub is_in : Run → ℕ → Bool
is_in runs.Letters c = is_ascii_lowercase c
is_in runs.Number c = is_number_byte c
is_in runs.Word c = is_word_byte c
is_in runs.Filled c = not (c == 32)

-- the bytes of such a run at the front, and what follows them
abbrev pub front : Run → List ℕ → List ℕ
front run bs = front_by (is_in run) bs

abbrev pub behind_bytes : Run → List ℕ → List ℕ
behind_bytes run bs = rest_by (is_in run) bs

-- what follows the first byte
abbrev pub skipped : List ℕ → List ℕ
skipped [] = []
skipped (c ∷ cs) = cs

-- the first byte is this one
abbrev pub begins_with : ℕ → List ℕ → Bool
begins_with b [] = false
begins_with b (c ∷ cs) = c == b

-- ---- numbers

abbrev pub number_read : Result ℤ Fault → List ℕ → Option (ℤ × List ℕ)
number_read (Ok n) rest = Some (n, rest)
number_read (Err fault) rest = None

-- the number at the front
abbrev pub number_in : List ℕ → Option (ℤ × List ℕ)
number_in bs = number_read (reading (front runs.Number bs)) (behind_bytes runs.Number bs)

-- a number without a sign that is below this one
abbrev pub below : ℕ → ℤ → List ℕ → Option (ℕ × List ℕ)
below limit (pos n) rest = if nat_lt n limit then Some (n, rest) else None
below limit (negsuc n) rest = None

-- the count at the front
abbrev pub count_in : List ℕ → Option (ℕ × List ℕ)
count_in bs = onward (below (2 ^ 32)) (number_in bs)

-- the code of a byte at the front
abbrev pub code_in : List ℕ → Option (ℕ × List ℕ)
code_in bs = onward (below 256) (number_in bs)

-- ---- texts, subscripts and lists

-- a field that is within its limits
abbrev pub within : {A : Type 0} → Option (Field A × List ℕ) → Option (A × List ℕ)
within None = None
within (Some (Within x, rest)) = Some (x, rest)
within (Some (Over, rest)) = None

-- the text at the front
abbrev pub text_in : List ℕ → Option (List ℕ × List ℕ)
text_in bs = within (text_field V2 (text_at bs))

-- the subscript at the front: a text in listing quotes, the empty one too, or a number
abbrev pub subscript_in : List ℕ → Option (List ℕ × List ℕ)
subscript_in bs = if begins_with 34 bs then text_in bs else within (text_field V2 (subscript_at bs))

-- what is found is put behind a list of no more than so many
abbrev pub appended : {A : Type 0} → Bool → List A → Option (A × List ℕ) → Option (List A × List ℕ)
appended fits xs None = None
appended fits xs (Some p) = if fits then Some (xs ++ p.0 ∷ [], p.1) else None

-- a list goes on behind a comma
abbrev pub continued : {A : Type 0} → (A → List ℕ → Option (A × List ℕ)) → Option (A × List ℕ) → Option (A × List ℕ)
continued more None = None
continued more (Some p) = if begins_with 44 p.1 then more p.0 (skipped p.1) else Some p

-- a list that goes on with no more than k of what `one` puts behind it, with commas between them
unfoldable pub all_more : {A : Type 0} → (A → List ℕ → Option (A × List ℕ)) → ℕ → A → List ℕ → Option (A × List ℕ)
all_more one zero xs bs = None
all_more one (suc k) xs bs = continued (all_more one k) (one xs bs)

-- a list up to a byte that closes it
abbrev pub closed : {A : Type 0} → (A → List ℕ → Option (A × List ℕ)) → ℕ → A → List ℕ → Option (A × List ℕ)
closed one close none bs =
    if begins_with close bs then Some (none, skipped bs) else option_map (λ p. (p.0, skipped p.1)) (all_more one (length bs + 1) none bs)

abbrev pub subscript_more : List (List ℕ) → List ℕ → Option (List (List ℕ) × List ℕ)
subscript_more subs bs = appended (nat_lt (length subs) 31) subs (subscript_in bs)

-- the subscripts behind `(`
abbrev pub subscripts_in : List ℕ → Option (List (List ℕ) × List ℕ)
subscripts_in bs = closed subscript_more 41 [] bs

-- ---- names

abbrev pub with_subscripts : Bool → List ℕ → List (List ℕ) → List ℕ → Option (Name × List ℕ)
with_subscripts global word subs rest = Some (record { global = global; word = word; subscripts = subs }, rest)

-- a name, where its word and what follows that are given
abbrev pub name_of : Bool → List ℕ → List ℕ → Option (Name × List ℕ)
name_of global word rest =
    if is_word word then
    (if begins_with 40 rest then onward (with_subscripts global word) (subscripts_in (skipped rest)) else with_subscripts global word [] rest)
    else None

abbrev pub name_on : Bool → List ℕ → Option (Name × List ℕ)
name_on global bs = name_of global (front runs.Word bs) (behind_bytes runs.Word bs)

-- the name at the front
abbrev pub name_in : List ℕ → Option (Name × List ℕ)
name_in bs = if begins_with 94 bs then name_on true (skipped bs) else name_on false bs

abbrev pub name_more : List Name → List ℕ → Option (List Name × List ℕ)
name_more names bs = appended true names (name_in bs)

-- the names at the front
abbrev pub names_in : List ℕ → Option (List Name × List ℕ)
names_in bs = continued (λ names rest. all_more name_more (length rest + 1) names rest) (name_more [] bs)

-- ---- nodes

abbrev pub node_with : List (List ℕ) → List ℕ → Option ((List (List ℕ) × List ℕ) × List ℕ)
node_with place rest = option_map (λ p. ((place, p.0), p.1)) (text_in (skipped rest))

-- the node at the front: its subscripts behind `(`, and its text behind `=`
abbrev pub node_in : List ℕ → Option ((List (List ℕ) × List ℕ) × List ℕ)
node_in bs = onward node_with (subscripts_in (skipped bs))

abbrev pub node_more : Subtree → List ℕ → Option (Subtree × List ℕ)
node_more nodes bs = appended true nodes (node_in bs)

-- the nodes in braces at the front
abbrev pub subtree_in : List ℕ → Option (Subtree × List ℕ)
subtree_in bs = closed node_more 125 [] (skipped bs)

-- ---- places

-- the line of a routine, and what follows it
abbrev pub line_of : List ℕ → ℕ × List ℕ → Option Spot × List ℕ
line_of routine p = (Some (record { routine = routine; line = p.0 }), p.1)

-- the line of a routine, whose name was found, behind `:`
abbrev pub line_behind : List ℕ → List ℕ → Option (Option Spot × List ℕ)
line_behind routine rest = if is_word routine then option_map (line_of routine) (count_in (skipped rest)) else None

-- where an ask came from, at the front: nothing, or the name of a routine and a line of it
abbrev pub spot_in : List ℕ → Option (Option Spot × List ℕ)
spot_in bs = if begins_with 45 bs then Some (None, skipped bs) else line_behind (front runs.Word bs) (behind_bytes runs.Word bs)

-- ---- starts

-- the value at the front
abbrev pub value_in : List ℕ → Option (Option (List ℕ) × List ℕ)
value_in bs = if begins_with 45 bs then Some (None, skipped bs) else option_map (λ p. (Some p.0, p.1)) (text_in bs)

abbrev pub value_more : List (Option (List ℕ)) → List ℕ → Option (List (Option (List ℕ)) × List ℕ)
value_more values bs = appended true values (value_in bs)

-- the values in parentheses at the front
abbrev pub values_in : List ℕ → Option (List (Option (List ℕ)) × List ℕ)
values_in bs = closed value_more 41 [] (skipped bs)

abbrev pub timed : List ℕ → Option (ℤ × List ℕ) → Option ℤ × List ℕ
timed bs None = (None, bs)
timed bs (Some p) = (Some p.0, p.1)

-- the timeout at the front, with its blank, if there is one
abbrev pub timeout_in : List ℕ → Option ℤ × List ℕ
timeout_in bs = if begins_with 58 (skipped bs) then timed bs (number_in (skipped (skipped bs))) else (None, bs)

-- an ask that its timeout ends, if there is one
abbrev pub timed_by : {A : Type 0} → (Option ℤ → A) → List ℕ → Option (A × List ℕ)
timed_by ask bs = Some (ask (timeout_in bs).0, (timeout_in bs).1)

abbrev pub started : Option Entry → List ℕ → Option (SharedAsk × List ℕ)
started None rest = None
started (Some entry) rest = onward (λ values. timed_by (shared_asks.Start (record { entry = entry; values = values }))) (values_in (skipped rest))

-- the start of another job, behind its word
abbrev pub start_in : List ℕ → Option (SharedAsk × List ℕ)
start_in bs = started (entry_of (front runs.Filled bs)) (behind_bytes runs.Filled bs)

-- ---- faults

-- the fault of this number
abbrev pub fault_of : ℕ → Option Fault
fault_of n =
    if n == 1 then Some faults.Undefined
    else (if n == 2 then Some faults.Divide
    else (if n == 3 then Some faults.Fraction
    else (if n == 4 then Some faults.Range
    else (if n == 5 then Some faults.Length
    else (if n == 6 then Some faults.Subscript
    else (if n == 7 then Some faults.Select
    else (if n == 8 then Some faults.NoLine
    else (if n == 9 then Some faults.Quit
    else (if n == 10 then Some faults.QuitInTransaction
    else (if n == 11 then Some faults.NoTransaction
    else (if n == 12 then Some faults.NoRestart
    else (if n == 13 then Some faults.InTransaction
    else (if n == 14 then Some faults.Overlap
    else (if n == 15 then Some faults.NoDevice
    else (if n == 16 then Some faults.Device
    else (if n == 17 then Some faults.Depth
    else (if n == 18 then Some faults.Limit
    else (if n == 19 then Some faults.Steps
    else (if n == 20 then Some faults.ForIndex
    else (if n == 21 then Some faults.Char
    else (if n == 22 then Some faults.Params else None)))))))))))))))))))))

abbrev pub halted : ℕ → List ℕ → Option (SharedAsk × List ℕ)
halted n rest = option_map (λ fault. (shared_asks.Halt (Some fault), rest)) (fault_of n)

-- the end of a job, behind its word: by a fault or by none
abbrev pub halt_in : List ℕ → Option (SharedAsk × List ℕ)
halt_in bs = if begins_with 70 (skipped bs) then onward halted (count_in (skipped (skipped bs))) else Some (shared_asks.Halt None, bs)

-- ---- what is asked of what all jobs share

abbrev pub way_of : ℤ → Direction
way_of n = if int_lt n (pos 0) then directions.Backward else directions.Forward

-- what is asked of a global, by the word for it
abbrev pub access_with : List ℕ → Name → List ℕ → Option (Access × List ℕ)
access_with word name rest =
    if bytes_eq word (codes "value") then Some (accesses.Value name, rest)
    else (if bytes_eq word (codes "data") then Some (accesses.Data name, rest)
    else (if bytes_eq word (codes "query") then Some (accesses.Query name, rest)
    else (if bytes_eq word (codes "subtree") then Some (accesses.Subtree name, rest)
    else (if bytes_eq word (codes "kill") then Some (accesses.Kill name, rest)
    else (if bytes_eq word (codes "order") then option_map (λ p. (accesses.Order name (way_of p.0), p.1)) (number_in (skipped rest))
    else (if bytes_eq word (codes "set") then option_map (λ p. (accesses.Set name p.0, p.1)) (text_in (skipped rest))
    else (if bytes_eq word (codes "put") then option_map (λ p. (accesses.Put name p.0, p.1)) (subtree_in (skipped rest)) else None)))))))

-- an access, whose word stands before
abbrev pub access_in : List ℕ → List ℕ → Option (SharedAsk × List ℕ)
access_in word bs = option_map (λ p. (shared_asks.Access p.0, p.1)) (onward (access_with word) (name_in bs))

-- the begin of a transaction, by the word behind it and what follows that
abbrev pub begin_in : List ℕ → List ℕ → List ℕ → Option (SharedAsk × List ℕ)
begin_in rest word more = if bytes_eq word (codes "serial") then Some (shared_asks.Begin kinds.Serial, more) else Some (shared_asks.Begin kinds.Plain, rest)

-- the names to unlock, or all
abbrev pub unlock_in : List ℕ → Option (SharedAsk × List ℕ)
unlock_in bs = if begins_with 42 bs then Some (shared_asks.UnlockAll, skipped bs) else option_map (λ p. (shared_asks.Unlock p.0, p.1)) (names_in bs)

-- the names to take, and a device that is opened or closed, each behind its word
abbrev pub try_in : List ℕ → Option (SharedAsk × List ℕ)
try_in bs = onward (λ names. timed_by (shared_asks.Try names)) (names_in bs)

abbrev pub open_in : List ℕ → Option (SharedAsk × List ℕ)
open_in bs = onward (λ device. timed_by (shared_asks.Open device)) (text_in bs)

abbrev pub close_in : List ℕ → Option (SharedAsk × List ℕ)
close_in bs = option_map (λ p. (shared_asks.Close p.0, p.1)) (text_in bs)

-- what is asked of what all share, by its first word: behind a word that is none of these stands the name of a global
abbrev pub shared_with : List ℕ → List ℕ → Option (SharedAsk × List ℕ)
shared_with word rest =
    if bytes_eq word (codes "try") then try_in (skipped rest)
    else (if bytes_eq word (codes "unlock") then unlock_in (skipped rest)
    else (if bytes_eq word (codes "begin") then begin_in rest (front runs.Letters (skipped rest)) (behind_bytes runs.Letters (skipped rest))
    else (if bytes_eq word (codes "commit") then Some (shared_asks.Commit, rest)
    else (if bytes_eq word (codes "rollback") then Some (shared_asks.Rollback, rest)
    else (if bytes_eq word (codes "open") then open_in (skipped rest)
    else (if bytes_eq word (codes "close") then close_in (skipped rest)
    else (if bytes_eq word (codes "start") then start_in (skipped rest)
    else (if bytes_eq word (codes "halt") then halt_in rest
    else access_in word (skipped rest)))))))))

-- ---- what is asked of a session of a device

-- what is asked, by the word for it
abbrev pub device_with : List ℕ → List ℕ → Option (DeviceAsk × List ℕ)
device_with word rest =
    if bytes_eq word (codes "write") then option_map (λ p. (device_asks.Write p.0, p.1)) (text_in (skipped rest))
    else option_map (λ a. (a, (timeout_in rest).1)) (timed_ask word (timeout_in rest).0)

abbrev pub device_in : List ℕ → Option (DeviceAsk × List ℕ)
device_in bs = device_with (front runs.Letters bs) (behind_bytes runs.Letters bs)

-- ---- asks

abbrev pub asked_of : List ℕ → List ℕ → Option (Ask × List ℕ)
asked_of device rest = option_map (λ p. (asks.Device device p.0, p.1)) (device_in (skipped rest))

-- an ask of a device, behind the word for devices: the name of the device, and what is asked
abbrev pub on_device : List ℕ → Option (Ask × List ℕ)
on_device bs = onward asked_of (text_in bs)

-- seconds to wait, behind their word
abbrev pub rest_in : List ℕ → Option (Ask × List ℕ)
rest_in bs = option_map (λ p. (asks.Rest p.0, p.1)) (number_in bs)

abbrev pub on_shared : Option (SharedAsk × List ℕ) → Option (Ask × List ℕ)
on_shared o = option_map (λ p. (asks.Shared p.0, p.1)) o

-- an ask, by its first word
abbrev pub ask_with : List ℕ → List ℕ → Option (Ask × List ℕ)
ask_with word rest =
    if bytes_eq word (codes "dev") then on_device (skipped rest)
    else (if bytes_eq word (codes "rest") then rest_in (skipped rest)
    else on_shared (shared_with word rest))

-- the ask at the front
abbrev pub ask_in : List ℕ → Option (Ask × List ℕ)
ask_in bs = ask_with (front runs.Letters bs) (behind_bytes runs.Letters bs)

-- ---- replies

-- the text is nothing
abbrev pub is_absent : List ℕ → Bool
is_absent bs = bytes_eq bs (codes "-")

-- what an access is answered
abbrev pub answer_in : Access → List ℕ → Option Answer
answer_in (accesses.Value n) bs = if is_absent bs then Some (answers_are.Value None) else option_map (λ p. answers_are.Value (Some p.0)) (text_in bs)
answer_in (accesses.Data n) bs = option_map (λ p. answers_are.Data p.0) (code_in bs)
answer_in (accesses.Order n way) bs = if is_absent bs then Some (answers_are.Order None) else option_map (λ p. answers_are.Order (Some p.0)) (subscript_in bs)
answer_in (accesses.Query n) bs = if is_absent bs then Some (answers_are.Query None) else option_map (λ p. answers_are.Query (Some p.0)) (name_in bs)
answer_in (accesses.Subtree n) bs = option_map (λ p. answers_are.Subtree p.0) (subtree_in bs)
answer_in (accesses.Set n t) bs = None
answer_in (accesses.Kill n) bs = None
answer_in (accesses.Put n nodes) bs = None

abbrev pub number_kept : List ℕ → Option (Kept × List ℕ)
number_kept bs =
    if is_absent (front runs.Number bs) then Some (kepts.Nothing, behind_bytes runs.Number bs) else option_map (λ p. (kepts.Number p.0, p.1)) (number_in bs)

-- what a clash keeps, at the front
abbrev pub kept_in : List ℕ → Option (Kept × List ℕ)
kept_in bs =
    if begins_with 34 bs then option_map (λ p. (kepts.Text p.0, p.1)) (text_in bs)
    else (if begins_with 94 bs then option_map (λ p. (kepts.Name p.0, p.1)) (name_in bs)
    else (if begins_with 123 bs then option_map (λ p. (kepts.Subtree p.0, p.1)) (subtree_in bs) else number_kept bs))

abbrev pub clash_now : ℕ → Kept → List ℕ → Option Reply
clash_now place before rest = option_map (λ p. replies.Clash (record { place = place; then = before; now = p.0 })) (kept_in (skipped rest))

abbrev pub clash_then : ℕ → List ℕ → Option Reply
clash_then place rest = onward (clash_now place) (kept_in (skipped rest))

-- a clash, or a number of a job, behind its word
abbrev pub clash_in : List ℕ → Option Reply
clash_in bs = onward clash_then (count_in (skipped (behind_bytes runs.Letters bs)))

abbrev pub job_in : List ℕ → Option Reply
job_in bs = option_map (λ p. replies.Job p.0) (count_in (skipped (behind_bytes runs.Letters bs)))

-- what a device gives
abbrev pub given_as : Given → List ℕ → Option Reply
given_as givens.Nothing bs = None
given_as givens.Text bs = option_map (λ p. replies.Line p.0) (text_in bs)
given_as givens.Code bs = option_map (λ p. replies.Byte p.0) (code_in bs)

-- a reply that is no word
abbrev pub given_in : Ask → List ℕ → Option Reply
given_in (asks.Shared (shared_asks.Access a)) bs = option_map replies.Answer (answer_in a bs)
given_in (asks.Device device a) bs = given_as (given_by a) bs
given_in (asks.Shared (shared_asks.Start start timeout)) bs = job_in bs
given_in (asks.Shared shared_asks.Commit) bs = clash_in bs
given_in _ bs = None

-- that it is done, or that a limit is passed: an access is answered so
abbrev pub done_of : Ask → Reply
done_of (asks.Shared (shared_asks.Access a)) = replies.Answer answers_are.Done
done_of _ = replies.Done

abbrev pub limit_of : Ask → Reply
limit_of (asks.Shared (shared_asks.Access a)) = replies.Answer answers_are.Limit
limit_of _ = replies.Limit

-- the reply to an ask
abbrev pub reply_in : Ask → List ℕ → Option Reply
reply_in a bs =
    if bytes_eq bs (codes "done") then Some (done_of a)
    else (if bytes_eq bs (codes "limit") then Some (limit_of a)
    else (if bytes_eq bs (codes "got") then Some replies.Got
    else (if bytes_eq bs (codes "late") then Some replies.Late
    else (if bytes_eq bs (codes "none") then Some replies.NoSession
    else (if bytes_eq bs (codes "failed") then Some replies.Failed
    else (if bytes_eq bs (codes "end") then Some replies.End else given_in a bs))))))
