-- What the bounds of a program change, by computing.
use Rattle.std.proofs.Common.{◌≡◌, refl, ap, cond, ℕ, nat_le, List, [], ◌∷◌, ◌++◌, length, Some, None, Ok, Err}
use Rattle.std.specs.Prelude.{codes, replicate}
use Rattle.std.specs.Fmt.{digits}
use Rattle.mj_text.specs.Limit.{within_limit}
use Rattle.mj_text.specs.declared.limit.Limit.{Limit}
use Rattle.mj_text.specs.declared.limit.Limit.TheVariants.{V1, V2}
use Rattle.mj_text.specs.declared.fault.Fault.TheVariants as faults
use Rattle.mj_ask.specs.declared.ask.Ask.TheVariants as ask
use Rattle.mj_ask.specs.declared.ask.SharedAsk.TheVariants as shared_asks
use Rattle.mj_ask.specs.declared.ask.DeviceAsk.TheVariants as device_asks
use Rattle.mj_ask.specs.declared.ask.Reply.TheVariants as reply
use Rattle.mj_semantics.specs.State.{State, principal}
use Rattle.mj_semantics.specs.Outcome.{Ended, Timed, no_restart, given, composed, fault, over}
use Rattle.mj_semantics.specs.Job.{opening}
use Rattle.mj_semantics.proofs.Talk.{asks_within, line, text, write}

-- WRITE "a","b" in a run of two events: STEPS in the place of the third ask; the ending is asked for all the same
two_events : asks_within (record { limit = V2; events = 2 }) (line (write (text "a" ∷ text "b" ∷ []) ∷ []) ∷ []) (replicate 5 reply.Done)
    ≡ ask.Device principal device_asks.Begin ∷ ask.Device principal (device_asks.Write (codes "a")) ∷ ask.Device principal (device_asks.Write (10 ∷ codes "F19 STEPS R:1" ++ 10 ∷ []))
    ∷ ask.Device principal device_asks.End ∷ ask.Shared (shared_asks.Halt (Some faults.Steps)) ∷ []
unfolding digits
two_events = refl

-- and in one of three it is done
three_events : asks_within (record { limit = V2; events = 3 }) (line (write (text "a" ∷ text "b" ∷ []) ∷ []) ∷ []) (replicate 5 reply.Done)
    ≡ ask.Device principal device_asks.Begin ∷ ask.Device principal (device_asks.Write (codes "a")) ∷ ask.Device principal (device_asks.Write (codes "b"))
    ∷ ask.Device principal device_asks.End ∷ ask.Shared (shared_asks.Halt None) ∷ []
three_events = refl

-- a job whose texts have this limit
abbrev limited : Limit → State
limited limit = opening (record { limit = limit; events = 9 }) 1

abbrev put_together : List ℕ → Timed
put_together t = composed (λ limit. within_limit limit t) (λ v. over)

-- 32,768 bytes are LENGTH under the first limit, and a text under the second one; 1,048,577 are LENGTH there too
above_the_first : (t : List ℕ) → length t ≡ 32768 → put_together t 9 no_restart (limited V1) [] ≡ fault faults.Length 9 no_restart (limited V1) []
above_the_first t e = ap (λ k. given (cond (nat_le k 32767) (Ok t) (Err faults.Length)) (λ v. over) 9 no_restart (limited V1) []) e

within_the_second : (t : List ℕ) → length t ≡ 32768 → put_together t 9 no_restart (limited V2) [] ≡ Ended
within_the_second t e = ap (λ k. given (cond (nat_le k 1048576) (Ok t) (Err faults.Length)) (λ v. over) 9 no_restart (limited V2) []) e

above_the_second : (t : List ℕ) → length t ≡ 1048577 → put_together t 9 no_restart (limited V2) [] ≡ fault faults.Length 9 no_restart (limited V2) []
above_the_second t e = ap (λ k. given (cond (nat_le k 1048576) (Ok t) (Err faults.Length)) (λ v. over) 9 no_restart (limited V2) []) e
