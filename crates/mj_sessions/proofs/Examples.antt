-- The talks of one job with its devices, by its log.
use Rattle.std.proofs.Common.{◌≡◌, ℕ, true, false, List, [], ◌∷◌, Some, None, refl}
use Rattle.std.specs.Prelude.{pos, codes}
use Rattle.mj_ask.specs.declared.ask.Ask.TheVariants as asks
use Rattle.mj_ask.specs.declared.ask.SharedAsk.TheVariants as shared_asks
use Rattle.mj_ask.specs.declared.ask.DeviceAsk.TheVariants as device_asks
use Rattle.mj_ask.specs.declared.ask.Reply.TheVariants as replies
use Rattle.mj_dev.specs.declared.device.Did.TheVariants as did
use Rattle.mj_dev.specs.declared.device.Input.TheVariants as input
use Rattle.mj_dev.specs.declared.talk.Code.TheVariants as codes_are
use Rattle.mj_dev.specs.declared.talk.State.TheVariants as states
use Rattle.mj_dev.specs.Talk.{Begun, Written, LineRead, ByteRead, Ended, beginning}
use Rattle.mj_sessions.specs.Events.{Log, talk_on}
use Rattle.mj_sessions.specs.Follow.{Follow, taken_by, output_of_log}
use Rattle.mj_ask.specs.Late.{is_timed_out}

abbrev zero : List ℕ
zero = codes "0"

abbrev f : List ℕ
f = codes "F"

-- OPEN "F" USE "F" WRITE "x" CLOSE "F" OPEN "F" WRITE "y" WRITE "z", where the last write fails
abbrev log : Log
log =
    (asks.Device zero device_asks.Begin, replies.Done)
    ∷ (asks.Shared (shared_asks.Open f None), replies.Got)
    ∷ (asks.Device f device_asks.Begin, replies.Done)
    ∷ (asks.Device f (device_asks.Write (codes "x")), replies.Done)
    ∷ (asks.Device f device_asks.End, replies.Done)
    ∷ (asks.Shared (shared_asks.Close f), replies.Done)
    ∷ (asks.Shared (shared_asks.Open f None), replies.Got)
    ∷ (asks.Device f device_asks.Begin, replies.Done)
    ∷ (asks.Device f (device_asks.Write (codes "y")), replies.Done)
    ∷ (asks.Device f (device_asks.Write (codes "z")), replies.Failed)
    ∷ []

-- OPEN and CLOSE are no calls to a session
calls_of_f : talk_on f log ≡ Begun did.Done ∷ Written (codes "x") did.Done ∷ Ended did.Done ∷ Begun did.Done ∷ Written (codes "y") did.Done ∷ Written (codes "z") did.Failed ∷ []
calls_of_f = refl

calls_of_principal : talk_on zero log ≡ Begun did.Done ∷ []
calls_of_principal = refl

first_session : output_of_log log f 1 ≡ codes "x"
first_session = refl

second_session : output_of_log log f 2 ≡ codes "y"
second_session = refl

no_third_session : output_of_log log f 3 ≡ []
no_third_session = refl

no_session_before : output_of_log log f 0 ≡ []
no_session_before = refl

open_took : taken_by (talk_on f log) ≡ codes "y"
open_took = refl

-- behind the failure only the end may follow
failed : Follow beginning (talk_on f log) (record { rest = None; state = states.Failed })
failed = (_, refl, (_, refl, (_, (tt, refl), (_, refl, (_, refl, (_, refl, refl))))))

-- a line that isn't there yet was late, and the next one is read
late_line : talk_on zero ((asks.Device zero (device_asks.Line (Some (pos 0))), replies.Late) ∷ (asks.Device zero (device_asks.Line None), replies.Line (codes "a")) ∷ [])
    ≡ LineRead input.NotYet ∷ LineRead (input.Line (codes "a")) ∷ []
late_line = refl

byte_end : talk_on zero ((asks.Device zero (device_asks.Byte None), replies.Byte 10) ∷ []) ≡ ByteRead (codes_are.Byte 10) ∷ []
byte_end = refl

-- a timeout of 0 is over at once, another where the step is late, and none never
over_at_once : is_timed_out (Some (pos 0)) false ≡ true
over_at_once = refl

waits : is_timed_out (Some (pos 9)) false ≡ false
waits = refl

over_late : is_timed_out (Some (pos 9)) true ≡ true
over_late = refl

waits_for_ever : is_timed_out None true ≡ false
waits_for_ever = refl
