-- A job asks no more often before its ending than its program lets it: the words that rows are made of keep this.
use Rattle.std.proofs.Common.{◌≡◌, ℕ, zero, suc, ◌+◌, ◌≤◌, ◌<◌, List, [], ◌∷◌, length, map, Option, Some, None, Bool, true, false, inl, inr, refl, ap, sym, subst, arith, length-append}
use Rattle.std.specs.Prelude.{ℤ, nat_lt, nat_le, if◌then◌else◌}
use Rattle.std.proofs.lemmas.Bool.{ltb-true, ltb-false}
use Rattle.std.proofs.lemmas.List.{length-map}
use Rattle.mj_text.specs.declared.fault.Fault.{Fault}
use Rattle.mj_text.specs.declared.fault.Fault.TheVariants as faults
use Rattle.mj_ask.specs.declared.ask.Ask.{Ask}
use Rattle.mj_ask.specs.declared.ask.Ask.TheVariants as asks
use Rattle.mj_ask.specs.declared.ask.SharedAsk.TheVariants as shared_asks
use Rattle.mj_ask.specs.declared.ask.DeviceAsk.TheVariants as device_asks
use Rattle.mj_ask.specs.declared.ask.Reply.{Reply}
use Rattle.mj_ask.specs.declared.bounds.Bounds.{Bounds}
use Rattle.mj_semantics.specs.State.{State, Locals, Place, OpenDevice, principal, devices_limit, has_failed, ending_order, with_device, is_open, counted}
use Rattle.mj_semantics.specs.Outcome.{Needs, More, Handler, Timed, turn, turns, look, change, asking, no_restart, until, restartable, go_back, over, halt, ends, end, fault_bytes, fault, ask}
use Rattle.mj_semantics.specs.Devices.{is_got, has_no_session, obtained, request_device}
use Rattle.mj_semantics.specs.Sharing.{in_time as test_in_time}
use Rattle.mj_jobvm.specs.Limit.{IsAllowed}
use Rattle.mj_jobvm.proofs.Everywhere.{Everywhere}
use Rattle.mj_jobvm.proofs.Transacted.{Plain, begins, commits, rolls_back, gives_back}

-- no more asks were replied to than may be, and no more devices are open
abbrev pub IsFair : State → Type 0
IsFair s = (s.replied ≤ s.bounds.events) × (length s.devices ≤ devices_limit + 1)

-- as many asks were replied to in one state as in another, as many devices are open, and the bounds are the same
abbrev IsLike : State → State → Type 0
IsLike s t = (t.replied ≡ s.replied) × (length t.devices ≡ length s.devices) × (t.bounds ≡ s.bounds)

like_fair : (s t : State) → IsLike s t → IsFair s → IsFair t
like_fair s t same fair = (subst (λ (b : Bounds). t.replied ≤ b.events) (sym same.2) (let le : t.replied ≤ s.bounds.events = omega (arith, same.0, fair.0) in le), omega (arith, same.1, fair.1))

-- an ask that one state allows, in another with as many replies and the same bounds
allowed_in : (s t : State) (k : ℕ) (a : Ask) → t.replied ≡ s.replied → t.bounds ≡ s.bounds → IsAllowed t.bounds.events (t.replied + k) a → IsAllowed s.bounds.events (s.replied + k) a
allowed_in s t k a replied bounds is = subst (λ (b : Bounds). IsAllowed b.events (s.replied + k) a) bounds (subst (λ r. IsAllowed t.bounds.events (r + k) a) replied is)

-- what a restart goes on with asks only what it may, behind the replies before it and those that it is told
pub record Goes (h : Handler) : Type 0 where
  pub by : (n : ℕ) (s : State) (replies : List Reply) (a : Ask) (locals : Locals) (at : List Place)
      → IsFair s → h n s replies ≡ Needs a locals at → IsAllowed s.bounds.events (s.replied + length replies) a

-- and so does what is left to do
pub record Keeps (t : Timed) : Type 0 where
  pub by : (n : ℕ) (h : Handler) (back : Goes h) (s : State) (replies : List Reply) (a : Ask) (locals : Locals) (at : List Place)
      → IsFair s → t n h s replies ≡ Needs a locals at → IsAllowed s.bounds.events (s.replied + length replies) a

asks_it : (a b : Ask) (locals locals' : Locals) (at at' : List Place) → Needs a locals at ≡ Needs b locals' at' → a ≡ b
asks_it a b locals locals' at at' e = cc

-- an ask that is known, at its place
allowed_as : (events : ℕ) (a b : Ask) (k : ℕ) (locals locals' : Locals) (at at' : List Place) → Needs a locals at ≡ Needs b locals' at' → IsAllowed events k a → IsAllowed events k b
allowed_as events a b k locals locals' at at' e = subst (IsAllowed events k) (asks_it a b locals locals' at at' e)

module _ (rest : Timed) (k : Keeps rest) where
  pub turn_keeps : Keeps (turn rest)
  turn_keeps = record { by = at }
    where
      at : (n : ℕ) (h : Handler) (back : Goes h) (s : State) (replies : List Reply) (a : Ask) (locals : Locals) (at : List Place)
          → IsFair s → turn rest n h s replies ≡ Needs a locals at → IsAllowed s.bounds.events (s.replied + length replies) a
      at zero h back s replies a locals places le e = cc
      at (suc n) h back s replies a locals places le e = k.by n h back s replies a locals places le e

  pub change_keeps : (f : State → State) → ((s : State) → IsLike s (f s)) → Keeps (change f rest)
  change_keeps f same = record {
    by = λ n h back s replies a locals at le e.
        allowed_in s (f s) (length replies) a (same s).0 (same s).2
        (k.by n h back (f s) replies a locals at (like_fair s (f s) (same s) le) e);
  }

  -- behind a change after which no more devices are open
  fewer_keeps : (f : State → State) → ((s : State) → ((f s).replied ≡ s.replied) × (length (f s).devices ≤ length s.devices) × ((f s).bounds ≡ s.bounds)) → Keeps (change f rest)
  fewer_keeps f less = record {
    by = λ n h back s replies a locals at le e.
        let few : (f s).replied ≤ s.bounds.events = omega (arith, (less s).0, le.0) in
        let fair : IsFair (f s) = (subst (λ (b : Bounds). (f s).replied ≤ b.events) (sym (less s).2) few, omega (arith, (less s).1, le.1)) in
        allowed_in s (f s) (length replies) a (less s).0 (less s).2 (k.by n h back (f s) replies a locals at fair e);
  }

pub turns_keep : (many : ℕ) (rest : Timed) → Keeps rest → Keeps (turns many rest)
turns_keep zero rest k = k
turns_keep (suc many) rest k = turn_keeps (turns many rest) (turns_keep many rest k)

pub look_keeps : (rest : State → Timed) → ((s : State) → Keeps (rest s)) → Keeps (look rest)
look_keeps rest k = record { by = λ n h back s replies a locals at le e. (k s).by n h back s replies a locals at le e }

-- The ending.

over_asks : (n : ℕ) (h : Handler) (s : State) (replies : List Reply) (a : Ask) (locals : Locals) (at : List Place) → over n h s replies ≡ Needs a locals at → ⊥
over_asks zero h s replies a locals at e = cc
over_asks (suc n) h s replies a locals at e = cc

-- its last ask, behind so many
halt_keeps : (events : ℕ) (f : Option Fault) (n k : ℕ) (h : Handler) (s : State) (replies : List Reply) (a : Ask) (locals : Locals) (at : List Place)
    → k ≤ events + 2 + devices_limit → halt f n h s replies ≡ Needs a locals at → IsAllowed events (k + length replies) a
halt_keeps events f zero k h s replies a locals at le e = cc
halt_keeps events f (suc n) k h s [] a locals at le e =
    allowed_as events _ a (k + 0) s.locals locals _ at e (inr (let l : k + 0 ≤ events + 2 + devices_limit = omega (arith, le) in l))
halt_keeps events f (suc n) k h s (r ∷ replies) a locals at le e = absurd (over_asks n h s replies a locals at e)

-- the ends of sessions before it
ends_within : (events : ℕ) (names : List (List ℕ)) (f : Option Fault) (n k : ℕ) (h : Handler) (s : State) (replies : List Reply) (a : Ask) (locals : Locals) (at : List Place)
    → k + length names ≤ events + 2 + devices_limit → ends names f n h s replies ≡ Needs a locals at → IsAllowed events (k + length replies) a
ends_within events [] f n k h s replies a locals at le e = halt_keeps events f n k h s replies a locals at (omega (arith, le)) e
ends_within events (name ∷ names) f zero k h s replies a locals at le e = cc
ends_within events (name ∷ names) f (suc n) k h s [] a locals at le e =
    allowed_as events _ a (k + 0) s.locals locals _ at e (inr (let l : k + 0 ≤ events + 1 + devices_limit = omega (arith, le) in l))
ends_within events (name ∷ names) f (suc n) k h s (r ∷ replies) a locals at le e =
    let g : k + 1 + length names ≤ events + 2 + devices_limit = omega (arith, le) in
    let is : k + 1 + length replies ≡ k + length (r ∷ replies) = omega arith in
    subst (λ i. IsAllowed events i a) is (ends_within events names f n (k + 1) h s replies a locals at g e)

-- as many sessions end as devices are open
ending_length : (devices : List OpenDevice) → length (ending_order devices) ≡ length devices
ending_length [] = refl
ending_length (p ∷ others) =
    omega (arith, length-append (map (λ d. d.name) others) (p.name ∷ []), length-map others (λ d. d.name))

end_within : (f : Option Fault) (n k : ℕ) (h : Handler) (s : State) (replies : List Reply) (a : Ask) (locals : Locals) (at : List Place)
    → k ≤ s.bounds.events + 1 → IsFair s → end f n h s replies ≡ Needs a locals at → IsAllowed s.bounds.events (k + length replies) a
end_within f n k h s replies a locals at le fair e =
    let g : k + length (ending_order s.devices) ≤ s.bounds.events + 2 + devices_limit = omega (arith, le, fair.1, ending_length s.devices) in
    ends_within s.bounds.events (ending_order s.devices) f n k h s replies a locals at g e

pub end_keeps : (f : Option Fault) → Keeps (end f)
end_keeps f = record {
  by = λ n h back s replies a locals at le e. end_within f n s.replied h s replies a locals at (let l : s.replied ≤ s.bounds.events + 1 = omega (arith, le.0) in l) le e;
}

-- a fault writes its line first, unless the principal device failed
abbrev telling : Fault → State → Timed
telling f s = asking (asks.Device principal (device_asks.Write (fault_bytes f s))) (λ r. end (Some f))

telling_keeps : (f : Fault) (n : ℕ) (h : Handler) (s : State) (replies : List Reply) (a : Ask) (locals : Locals) (at : List Place)
    → IsFair s → telling f s n h s replies ≡ Needs a locals at → IsAllowed s.bounds.events (s.replied + length replies) a
telling_keeps f n h s [] a locals places le e =
    allowed_as s.bounds.events _ a (s.replied + 0) s.locals locals _ places e
    (inr (let l : s.replied + 0 ≤ s.bounds.events = omega (arith, le.0) in l, refl, (f, s, refl)))
telling_keeps f n h s (r ∷ replies) a locals places le e =
    let g : s.replied + 1 ≤ s.bounds.events + 1 = omega (arith, le.0) in
    let is : s.replied + 1 + length replies ≡ s.replied + length (r ∷ replies) = omega arith in
    subst (λ i. IsAllowed s.bounds.events i a) is (end_within (Some f) n (s.replied + 1) h s replies a locals places g le e)

pub fault_keeps : (f : Fault) → Keeps (fault f)
fault_keeps f = record { by = at }
  where
    by_device : (b : Bool) (n : ℕ) (h : Handler) (back : Goes h) (s : State) (replies : List Reply) (a : Ask) (locals : Locals) (at : List Place)
        → IsFair s → (if b then end (Some f) else telling f s) n h s replies ≡ Needs a locals at → IsAllowed s.bounds.events (s.replied + length replies) a
    by_device true n h back s replies a locals places le e = (end_keeps (Some f)).by n h back s replies a locals places le e
    by_device false n h back s replies a locals places le e = telling_keeps f n h s replies a locals places le e

    at : (n : ℕ) (h : Handler) (back : Goes h) (s : State) (replies : List Reply) (a : Ask) (locals : Locals) (at : List Place)
        → IsFair s → fault f n h s replies ≡ Needs a locals at → IsAllowed s.bounds.events (s.replied + length replies) a
    at zero h back s replies a locals places le e = cc
    at (suc n) h back s replies a locals places le e = by_device (has_failed principal s) n h back s replies a locals places le e

-- Asks.

ask_by : (x : Ask) (rest : Reply → Timed) → ((r : Reply) → Keeps (rest r)) → (b : Bool)
    → (n : ℕ) (h : Handler) (back : Goes h) (s : State) (replies : List Reply) (a : Ask) (locals : Locals) (at : List Place)
    → nat_lt s.replied s.bounds.events ≡ b → IsFair s
    → (if b then asking x (λ r. change counted (rest r)) else fault faults.Steps) n h s replies ≡ Needs a locals at
    → IsAllowed s.bounds.events (s.replied + length replies) a
ask_by x rest k true n h back s [] a locals at b le e =
    allowed_as s.bounds.events x a (s.replied + 0) s.locals locals _ at e
    (inl (let q = ltb-true s.replied s.bounds.events b in let l : s.replied + 0 < s.bounds.events = omega (arith, q) in l))
ask_by x rest k true n h back s (r ∷ replies) a locals at b le e =
    let g : s.replied + 1 ≤ s.bounds.events = (let q = ltb-true s.replied s.bounds.events b in omega (arith, q)) in
    let is : s.replied + 1 + length replies ≡ s.replied + length (r ∷ replies) = omega arith in
    subst (λ i. IsAllowed s.bounds.events i a) is ((k r).by n h back (counted s) replies a locals at (g, le.1) e)
ask_by x rest k false n h back s replies a locals at b le e = (fault_keeps faults.Steps).by n h back s replies a locals at le e

pub ask_keeps : (x : Ask) (rest : Reply → Timed) → ((r : Reply) → Keeps (rest r)) → Keeps (ask x rest)
ask_keeps x rest k = record { by = λ n h back s replies a locals at le e. ask_by x rest k (nat_lt s.replied s.bounds.events) n h back s replies a locals at refl le e }

pub if_keeps : (b : Bool) (t u : Timed) → Keeps t → Keeps u → Keeps (if b then t else u)
if_keeps true t u k l = k
if_keeps false t u k l = l

-- `$TEST` behind an ask that may wait.

tests_same : (timeout : Option ℤ) (b : Bool) (s : State) → IsLike s (test_in_time timeout b s)
tests_same None b s = (refl, refl, refl)
tests_same (Some n) b s = (refl, refl, refl)

-- OPEN.

-- the same where one more device may be open than there are
record KeepsRoom (t : Timed) : Type 0 where
  by : (n : ℕ) (h : Handler) (back : Goes h) (s : State) (replies : List Reply) (a : Ask) (locals : Locals) (at : List Place)
      → IsFair s → length s.devices ≤ devices_limit → t n h s replies ≡ Needs a locals at → IsAllowed s.bounds.events (s.replied + length replies) a

with_room : (t : Timed) → Keeps t → KeepsRoom t
with_room t k = record { by = λ n h back s replies a locals at le room e. k.by n h back s replies a locals at le e }

room_if : (b : Bool) (t u : Timed) → KeepsRoom t → KeepsRoom u → KeepsRoom (if b then t else u)
room_if true t u k l = k
room_if false t u k l = l

-- a device is added
added_keeps : (name : List ℕ) (rest : Timed) → Keeps rest → KeepsRoom (change (with_device name) rest)
added_keeps name rest k = record {
  by = λ n h back s replies a locals at le room e.
      let more : length (with_device name s).devices ≡ length s.devices + 1 = length-append s.devices (record { name = name; column = 0; row = 0; failed = false } ∷ []) in
      k.by n h back (with_device name s) replies a locals at (let fair : IsFair (with_device name s) = (le.0, omega (arith, more, room)) in fair) e;
}

room_change : (f : State → State) (rest : Timed) → ((s : State) → IsLike s (f s)) → KeepsRoom rest → KeepsRoom (change f rest)
room_change f rest same k = record {
  by = λ n h back s replies a locals at le room e.
      allowed_in s (f s) (length replies) a (same s).0 (same s).2
      (k.by n h back (f s) replies a locals at (like_fair s (f s) (same s) le) (let few : length (f s).devices ≤ devices_limit = omega (arith, (same s).1, room) in few) e);
}

room_by : (x : Ask) (rest : Reply → Timed) → ((r : Reply) → KeepsRoom (rest r)) → (b : Bool)
    → (n : ℕ) (h : Handler) (back : Goes h) (s : State) (replies : List Reply) (a : Ask) (locals : Locals) (at : List Place)
    → nat_lt s.replied s.bounds.events ≡ b → IsFair s → length s.devices ≤ devices_limit
    → (if b then asking x (λ r. change counted (rest r)) else fault faults.Steps) n h s replies ≡ Needs a locals at
    → IsAllowed s.bounds.events (s.replied + length replies) a
room_by x rest k true n h back s [] a locals at b le room e =
    allowed_as s.bounds.events x a (s.replied + 0) s.locals locals _ at e
    (inl (let q = ltb-true s.replied s.bounds.events b in let l : s.replied + 0 < s.bounds.events = omega (arith, q) in l))
room_by x rest k true n h back s (r ∷ replies) a locals at b le room e =
    let g : s.replied + 1 ≤ s.bounds.events = (let q = ltb-true s.replied s.bounds.events b in omega (arith, q)) in
    let is : s.replied + 1 + length replies ≡ s.replied + length (r ∷ replies) = omega arith in
    subst (λ i. IsAllowed s.bounds.events i a) is ((k r).by n h back (counted s) replies a locals at (g, le.1) room e)
room_by x rest k false n h back s replies a locals at b le room e = (fault_keeps faults.Steps).by n h back s replies a locals at le e

obtained_keeps : (name : List ℕ) (timeout : Option ℤ) (r : Reply) (late got : Timed) → Keeps late → Keeps got → KeepsRoom (obtained name timeout r late got)
obtained_keeps name timeout r late got l k =
    let in_time : Timed = change (test_in_time timeout true) (change (with_device name) got) in
    let too_late : Timed = change (test_in_time timeout false) late in
    room_if (has_no_session r) (fault faults.NoDevice) (if is_got r then in_time else too_late) (with_room _ (fault_keeps faults.NoDevice))
    (room_if (is_got r) in_time too_late
    (room_change (test_in_time timeout true) (change (with_device name) got) (tests_same timeout true) (added_keeps name got k))
    (with_room _ (change_keeps late l (test_in_time timeout false) (tests_same timeout false))))

obtain_keeps : (name : List ℕ) (timeout : Option ℤ) (late got : Timed) → Keeps late → Keeps got → Keeps (request_device name timeout late got)
obtain_keeps name timeout late got l k = record {
  by =
      λ n h back s replies a locals at le e. at_state (is_open name s) (nat_lt devices_limit (length s.devices)) n h back s replies a locals at refl le e;
}
  where
    asks_for : Timed
    asks_for = ask (asks.Shared (shared_asks.Open name timeout)) (λ r. obtained name timeout r late got)

    at_state : (b full : Bool) (n : ℕ) (h : Handler) (back : Goes h) (s : State) (replies : List Reply) (a : Ask) (locals : Locals) (at : List Place)
        → nat_lt devices_limit (length s.devices) ≡ full → IsFair s
        → (if b then change (test_in_time timeout true) late else if full then fault faults.Limit else asks_for) n h s replies ≡ Needs a locals at
        → IsAllowed s.bounds.events (s.replied + length replies) a
    at_state true full n h back s replies a locals at q le e = (change_keeps late l (test_in_time timeout true) (tests_same timeout true)).by n h back s replies a locals at le e
    at_state false true n h back s replies a locals at q le e = (fault_keeps faults.Limit).by n h back s replies a locals at le e
    at_state false false n h back s replies a locals at q le e =
        room_by _ (λ r. obtained name timeout r late got) (λ r. obtained_keeps name timeout r late got l k) (nat_lt s.replied s.bounds.events)
        n h back s replies a locals at refl le (ltb-false devices_limit (length s.devices) q) e

-- Transactions.

-- without a restart nothing is asked
pub none_goes : Goes no_restart
none_goes = record { by = at }
  where
    at : (n : ℕ) (s : State) (replies : List Reply) (a : Ask) (locals : Locals) (at : List Place)
        → IsFair s → no_restart n s replies ≡ Needs a locals at → IsAllowed s.bounds.events (s.replied + length replies) a
    at zero s replies a locals places le e = cc
    at (suc n) s replies a locals places le e = cc

pub restartable_keeps : (again rest : Timed) → Keeps again → Keeps rest → Keeps (restartable again rest)
restartable_keeps again rest g k = record { by = λ n h back s replies a locals at le e. k.by n (until n again) (goes n) s replies a locals at le e }
  where
    by_turns : (b : Bool) (m : ℕ) (s : State) (replies : List Reply) (a : Ask) (locals : Locals) (at : List Place)
        → IsFair s → (if b then again m no_restart else (λ s replies. More)) s replies ≡ Needs a locals at → IsAllowed s.bounds.events (s.replied + length replies) a
    by_turns true m s replies a locals at le e = g.by m no_restart none_goes s replies a locals at le e
    by_turns false m s replies a locals at le e = cc

    goes : (n : ℕ) → Goes (until n again)
    goes n = record { by = λ m s replies a locals at le e. by_turns (nat_le m n) m s replies a locals at le e }

go_back_keeps : Keeps go_back
go_back_keeps = record { by = λ n h back s replies a locals at le e. back.by n s replies a locals at le e }

plain : Plain Keeps
plain = record {
  turned = turn_keeps;
  looked = look_keeps;
  changed = λ f t same k. change_keeps t k f (λ s. ((same s).0, ap length (same s).1, (same s).3));
  asked = λ x t leaves k. ask_keeps x t k;
  faulted = fault_keeps;
  went_back = go_back_keeps;
}

-- so what holds of a word holds of each row, whatever is asked
pub limited : Everywhere Keeps Keeps
limited = record {
  turned = turn_keeps;
  looked = look_keeps;
  changed = λ f t fewer k. fewer_keeps t k f (λ s. ((fewer s).0, (fewer s).1, (fewer s).3));
  asked = ask_keeps;
  ended = end_keeps;
  faulted = fault_keeps;
  spent = record { by = λ n h back s replies a locals at le e. cc };
  obtained = obtain_keeps;
  begun = begins Keeps plain;
  committed = commits Keeps plain;
  rolled_back = rolls_back Keeps plain;
  given_back = gives_back Keeps plain;
  started = restartable_keeps;
  apart_turned = turn_keeps;
  apart_spent = record { by = λ n h back s replies a locals at le e. cc };
}
