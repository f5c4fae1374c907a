-- Devices that fail, where writing leads to, and marks, by computing.
use Rattle.std.specs.Prelude.{◌≡◌, refl, ℕ, true, false, List, [], ◌∷◌, ◌++◌, length, Some, None, codes}
use Rattle.std.specs.Fmt.{digits}
use Rattle.mj_text.specs.declared.fault.Fault.TheVariants as faults
use Rattle.mj_ask.specs.declared.ask.Ask.TheVariants as ask
use Rattle.mj_ask.specs.declared.ask.SharedAsk.TheVariants as shared_asks
use Rattle.mj_ask.specs.declared.ask.DeviceAsk.TheVariants as device_asks
use Rattle.mj_ask.specs.declared.ask.Reply.TheVariants as reply
use Rattle.mj_ast.specs.Syntax.{Line}
use Rattle.mj_semantics.specs.State.{State, OpenDevice, Frame, TransactionMark, principal, untouched, ending_order, wrote, broke, dropped}
use Rattle.mj_semantics.specs.Outcome.{Outcome, Needs, Ended, More, Handler, no_restart, over, restartable, go_back}
use Rattle.mj_semantics.specs.Devices.{close}
use Rattle.mj_semantics.specs.Commands.{quit_frame}
use Rattle.mj_semantics.specs.Job.{next, opening}
use Rattle.mj_semantics.proofs.Talk.{bounds, asks, line, text, get, write, program_of, first_at, spot}

-- WRITE "a"
abbrev says_a : List Line
says_a = line (write (text "a" ∷ []) ∷ []) ∷ []

-- WRITE X, where X has no value
abbrev faults_alone : List Line
faults_alone = line (write (get "X" ∷ []) ∷ []) ∷ []

-- Sessions that fail.

-- a principal session that doesn't begin: no line is written, and the job ends
no_session : asks says_a (reply.Failed ∷ reply.Done ∷ reply.Done ∷ []) ≡ ask.Device principal device_asks.Begin ∷ ask.Device principal device_asks.End
    ∷ ask.Shared (shared_asks.Halt (Some faults.Device)) ∷ []
no_session = refl

-- a WRITE that fails is DEVICE; of that no line is written, since it would go to the device that failed
no_write : asks says_a (reply.Done ∷ reply.Failed ∷ reply.Done ∷ reply.Done ∷ [])
    ≡ ask.Device principal device_asks.Begin ∷ ask.Device principal (device_asks.Write (codes "a")) ∷ ask.Device principal device_asks.End ∷ ask.Shared (shared_asks.Halt (Some faults.Device)) ∷ []
no_write = refl

-- that a session doesn't end well changes nothing
no_end : asks says_a (reply.Done ∷ reply.Done ∷ reply.Failed ∷ reply.Done ∷ [])
    ≡ ask.Device principal device_asks.Begin ∷ ask.Device principal (device_asks.Write (codes "a")) ∷ ask.Device principal device_asks.End ∷ ask.Shared (shared_asks.Halt None) ∷ []
no_end = refl

no_end_after_failure : asks says_a (reply.Done ∷ reply.Failed ∷ reply.Failed ∷ reply.Done ∷ [])
    ≡ ask.Device principal device_asks.Begin ∷ ask.Device principal (device_asks.Write (codes "a")) ∷ ask.Device principal device_asks.End ∷ ask.Shared (shared_asks.Halt (Some faults.Device)) ∷ []
no_end_after_failure = refl

-- the line of a fault whose write fails: the job ends by that fault
no_line_of_fault : asks faults_alone (reply.Done ∷ reply.Failed ∷ reply.Done ∷ reply.Done ∷ [])
    ≡ ask.Device principal device_asks.Begin ∷ ask.Device principal (device_asks.Write (codes "F1 UNDEF R:1" ++ 10 ∷ [])) ∷ ask.Device principal device_asks.End
    ∷ ask.Shared (shared_asks.Halt (Some faults.Undefined)) ∷ []
unfolding digits
no_line_of_fault = refl

-- how a job of WRITE "a" stops within so many turns, where the reply to its first ask is that the device failed
abbrev without_session : ℕ → Outcome
without_session n = next (program_of (("R", says_a) ∷ [])) (first_at (codes "R")) n (reply.Failed ∷ [])

-- the begin of the session, the fault, though it writes nothing, and the end of the session take a turn each
turns_of_failure : (without_session 2 ≡ More) × (without_session 3 ≡ Needs (ask.Device principal device_asks.End) [] [])
turns_of_failure = (refl, refl)

-- Where writing leads to.

abbrev device : List ℕ → ℕ → ℕ → OpenDevice
device name column row = record { name = name; column = column; row = row; failed = false }

-- "ab", a line feed, "c"
next_row : (wrote (codes "ab" ++ 10 ∷ codes "c") (opening bounds 1)).devices ≡ device principal 1 1 ∷ []
next_row = refl

-- two line feeds, a form feed, "c"
first_row : (wrote (10 ∷ 10 ∷ 12 ∷ codes "c") (opening bounds 1)).devices ≡ device principal 1 0 ∷ []
first_row = refl

-- a carriage return stays in the row
same_row : (wrote (10 ∷ codes "ab" ++ 13 ∷ []) (opening bounds 1)).devices ≡ device principal 0 1 ∷ []
same_row = refl

abbrev other : List ℕ
other = codes "1:other"

-- two devices are open, of which the second is the current one
abbrev two_open : State
two_open = record (opening bounds 1) { devices = device principal 3 2 ∷ device other 0 0 ∷ []; current = other }

-- only the current device moves
current_moves : (wrote (codes "ab" ++ 10 ∷ codes "c") two_open).devices ≡ device principal 3 2 ∷ device other 1 1 ∷ []
current_moves = refl

-- a device that fails stays where it was, and the others stay sound
one_fails : (broke other two_open).devices ≡ device principal 3 2 ∷ record (device other 0 0) { failed = true } ∷ []
one_fails = refl

-- the principal device was opened first, and ends last
principal_last : ending_order (untouched ∷ device other 0 0 ∷ device (codes "2:more") 0 0 ∷ []) ≡ other ∷ codes "2:more" ∷ principal ∷ []
principal_last = refl

-- a current device that is closed makes the principal one current; another one leaves the current one
drops_current : (dropped other two_open).current ≡ principal
drops_current = refl

drops_another : ((dropped other (record two_open { current = principal })).current ≡ principal) × ((dropped (codes "2:more") two_open).current ≡ other)
drops_another = (refl, refl)

-- what a closing asks, where the session ends well and where it doesn't: then the name is given up all the same, the fault's line goes to
-- the principal device, and the job's end doesn't end the session again
closes : (close other over 9 no_restart two_open [] ≡ Needs (ask.Device other device_asks.End) [] [])
    × (close other over 9 no_restart two_open (reply.Done ∷ []) ≡ Needs (ask.Shared (shared_asks.Close other)) [] [])
    × (close other over 9 no_restart two_open (reply.Done ∷ reply.Done ∷ []) ≡ Ended)
closes = (refl, refl, refl)

closes_badly : (close other over 9 no_restart two_open (reply.Failed ∷ []) ≡ Needs (ask.Shared (shared_asks.Close other)) [] [])
    × (close other over 9 no_restart two_open (reply.Failed ∷ reply.Done ∷ []) ≡ Needs (ask.Device principal (device_asks.Write (10 ∷ codes "F16 DEVICE -" ++ 10 ∷ []))) [] [])
    × (close other over 9 no_restart two_open (reply.Failed ∷ reply.Done ∷ reply.Done ∷ []) ≡ Needs (ask.Device principal device_asks.End) [] [])
unfolding digits
closes_badly = (refl, refl, refl)

-- Marks.

abbrev frame : Frame
frame = record { place = spot 4; level = 1; function = false; test = None; height = 0 }

abbrev mark : List Frame → TransactionMark
mark frames = record { restored = None; serial = false; locals = []; test = false; height = 0; depth = length frames; place = Some (spot 4) }

abbrev in_transaction : List Frame → List Frame → State
in_transaction now then = record (opening bounds 1) { frames = now; level = 1; mark = Some (mark then) }

-- a QUIT out of the frame of the outermost TSTART
out_of_frame : quit_frame over 1 no_restart (in_transaction (frame ∷ []) (frame ∷ [])) []
    ≡ Needs (ask.Device principal (device_asks.Write (codes "F10 TXQUIT R:4" ++ 10 ∷ []))) [] (spot 4 ∷ [])
unfolding digits
out_of_frame = refl

-- a QUIT out of a frame above it
out_of_call : quit_frame over 1 no_restart (in_transaction (frame ∷ frame ∷ []) (frame ∷ [])) [] ≡ Ended
out_of_call = refl

-- a restart goes on where it is said, with the turns that are left
goes_back : (restartable over go_back 1 no_restart (opening bounds 1) [] ≡ Ended) × (restartable over go_back 0 no_restart (opening bounds 1) [] ≡ More)
goes_back = (refl, refl)

-- what a restart of an earlier transaction would go on with
abbrev earlier : Handler
earlier = λ n s replies. Ended

-- behind it there is no other restart
forgets : restartable go_back go_back 9 earlier (opening bounds 1) [] ≡ Ended
forgets = refl
