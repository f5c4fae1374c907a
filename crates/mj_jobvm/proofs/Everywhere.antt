-- What holds of words whatever is asked, and whichever devices are open: less has to be shown of it.
use Rattle.std.proofs.Common.{◌≡◌, ℕ, suc, ◌≤◌, List, [], ◌∷◌, length, Option, Bool, true, false, refl, ap, arith}
use Rattle.std.specs.Prelude.{ℤ, not, if◌then◌else◌}
use Rattle.std.specs.Str.{bytes_eq}
use Rattle.std.proofs.lemmas.List.Filters.{length-filter_both}
use Rattle.mj_text.specs.declared.fault.Fault.{Fault}
use Rattle.mj_text.specs.declared.fault.Fault.TheVariants as faults
use Rattle.mj_ask.specs.declared.ask.Ask.{Ask}
use Rattle.mj_ask.specs.declared.ask.Ask.TheVariants as asks
use Rattle.mj_ask.specs.declared.ask.SharedAsk.TheVariants as shared_asks
use Rattle.mj_ask.specs.declared.ask.DeviceAsk.{DeviceAsk}
use Rattle.mj_ask.specs.declared.ask.DeviceAsk.TheVariants as device_asks
use Rattle.mj_ask.specs.declared.ask.Reply.{Reply}
use Rattle.mj_ast.specs.declared.routine.ReadMode.{ReadMode}
use Rattle.mj_semantics.specs.State.{State, Words, OpenDevice, principal, on_device, moved, wrote, broke, used, dropped, is_open, may_close}
use Rattle.mj_semantics.specs.Outcome.{More, Timed, turn, look, change, restartable, end, fault, ask, is_failed, to_device}
use Rattle.mj_semantics.specs.Devices.{request_device, begin_session, open_device, use_device, give_up, close, is_input, input_ask, input_told, read_input}
use Rattle.mj_semantics.specs.Sharing.{in_time as test_in_time}
use Rattle.mj_semantics.specs.Transactions.{begin_transaction, commit, roll_back, roll_back_for_restart, begin_restart}
use Rattle.mj_jobvm.proofs.Rule.{Rule, IsLike, tests_same}

-- as many asks were replied to in one state as in another, at as many levels a transaction is, no more devices are open, and the bounds are the same
abbrev pub IsLess : State → State → Type 0
IsLess s t = (t.replied ≡ s.replied) × (length t.devices ≤ length s.devices) × (t.level ≡ s.level) × (t.bounds ≡ s.bounds)

less : (s t : State) → IsLike s t → IsLess s t
less s t same = (same.0, (let many : length t.devices ≡ length s.devices = ap length same.2 in omega (arith, many)), same.1, same.4)

-- the same as a rule, but that an ask may be any, and a change may take devices away
pub record Everywhere (K Apart : Timed → Type 0) : Type 0 where
  pub turned : (t : Timed) → K t → K (turn t)
  pub looked : (t : State → Timed) → ((s : State) → K (t s)) → K (look t)
  pub changed : (f : State → State) (t : Timed) → ((s : State) → IsLess s (f s)) → K t → K (change f t)
  pub asked : (x : Ask) (t : Reply → Timed) → ((r : Reply) → K (t r)) → K (ask x t)
  pub ended : (f : Option Fault) → K (end f)
  pub faulted : (f : Fault) → K (fault f)
  pub spent : K (λ n h s replies. More)
  pub obtained : (name : List ℕ) (timeout : Option ℤ) (late got : Timed) → K late → K got → K (request_device name timeout late got)
  pub begun : (restored : Option Words) (serial : Bool) (inner outermost : Timed) → K inner → Apart outermost → K (begin_transaction restored serial inner outermost)
  pub committed : (done : Timed) → K done → K (commit (turn begin_restart) done)
  pub rolled_back : (rest : Timed) → K rest → K (roll_back rest)
  pub given_back : K (roll_back_for_restart (turn begin_restart))
  pub started : (again rest : Timed) → Apart again → K rest → Apart (restartable again rest)
  pub apart_turned : (t : Timed) → Apart t → Apart (turn t)
  pub apart_spent : Apart (λ n h s replies. More)

-- the devices of a state, of which one is changed
device_length : (name : List ℕ) (f : OpenDevice → OpenDevice) (devices : List OpenDevice) → length (on_device name f devices) ≡ length devices
device_length name f [] = refl
device_length name f (d ∷ devices) = by (bytes_eq d.name name) (device_length name f devices)
  where
    by : (b : Bool) → length (on_device name f devices) ≡ length devices → length (if b then f d ∷ devices else d ∷ on_device name f devices) ≡ length (d ∷ devices)
    by true e = refl
    by false e = ap suc e

on_device_less : (name : List ℕ) (f : OpenDevice → OpenDevice) (s : State) → IsLess s (record s { devices = on_device name f s.devices })
on_device_less name f s = (refl, omega (arith, device_length name f s.devices), refl, refl)

dropped_less : (name : List ℕ) (s : State) → IsLess s (dropped name s)
dropped_less name s = (refl, omega (arith, length-filter_both (λ d. not (bytes_eq d.name name)) (λ d. not (not (bytes_eq d.name name))) (λ d. refl) s.devices), refl, refl)

module _ (K Apart : Timed → Type 0) (all : Everywhere K Apart) where
  chosen : (b : Bool) (t u : Timed) → K t → K u → K (if b then t else u)
  chosen true t u k l = k
  chosen false t u k l = l

  like : (f : State → State) (t : Timed) → ((s : State) → IsLike s (f s)) → K t → K (change f t)
  like f t same k = all.changed f t (λ s. less s (f s) (same s)) k

  to_device_keeps : (name : List ℕ) (x : DeviceAsk) (rest : Reply → Timed) → ((r : Reply) → K (rest r)) → K (to_device name x rest)
  to_device_keeps name x rest k =
      all.asked (asks.Device name x) _ (λ r. chosen (is_failed r) (change (broke name) (fault faults.Device)) (rest r)
      (all.changed (broke name) (fault faults.Device) (λ s. on_device_less name (λ d. record d { failed = true }) s) (all.faulted faults.Device)) (k r))

  write_keeps : (bytes : List ℕ) (t : Timed) → K t → K (look (λ s. to_device s.current (device_asks.Write bytes) (λ r. change (wrote bytes) t)))
  write_keeps bytes t k =
      all.looked _ (λ s. to_device_keeps s.current (device_asks.Write bytes) (λ r. change (wrote bytes) t)
      (λ r. all.changed (wrote bytes) t (λ q. on_device_less q.current (moved bytes) q) k))

  read_keeps : (m : ReadMode) (timeout : Option ℤ) (t : List ℕ → Timed) → ((v : List ℕ) → K (t v)) → K (read_input m timeout t)
  read_keeps m timeout t k =
      all.looked _ (λ s. to_device_keeps s.current (input_ask m timeout) (λ r. change (test_in_time timeout (is_input r)) (t (input_told m r)))
      (λ r. like (test_in_time timeout (is_input r)) (t (input_told m r)) (tests_same timeout (is_input r)) (k (input_told m r))))

  open_keeps : (name : List ℕ) (timeout : Option ℤ) (t : Timed) → K t → K (open_device name timeout t)
  open_keeps name timeout t k =
      all.obtained name timeout t (turn (begin_session name t)) k (all.turned (begin_session name t) (to_device_keeps name device_asks.Begin (λ r. t) (λ r. k)))

  use_keeps : (name : List ℕ) (t : Timed) → K t → K (use_device name t)
  use_keeps name t k =
      all.looked _ (λ s. chosen (is_open name s) (change (used name) t) (fault faults.NoDevice)
      (all.changed (used name) t (λ q. (refl, (let many : length q.devices ≤ length q.devices = omega arith in many), refl, refl)) k) (all.faulted faults.NoDevice))

  give_up_keeps : (name : List ℕ) (t : Timed) → K t → K (give_up name t)
  give_up_keeps name t k = all.asked (asks.Shared (shared_asks.Close name)) (λ r. t) (λ r. k)

  close_keeps : (name : List ℕ) (t : Timed) → K t → K (close name t)
  close_keeps name t k =
      let badly : Timed = turn (give_up name (fault faults.Device)) in
      let well : Timed = turn (give_up name t) in
      let behind : Reply → Timed = λ r. change (dropped name) (if is_failed r then badly else well) in
      all.looked _ (λ s. chosen (may_close name s) _ t
      (all.asked (asks.Device name device_asks.End) behind (λ r. all.changed (dropped name) (if is_failed r then badly else well) (dropped_less name)
      (chosen (is_failed r) badly well (all.turned _ (give_up_keeps name (fault faults.Device) (all.faulted faults.Device))) (all.turned _ (give_up_keeps name t k)))))
      k)

  -- so it is a rule
  pub rule_of : Rule K Apart
  rule_of = record {
    turned = all.turned;
    looked = all.looked;
    changed = like;
    asked = λ x t leaves k. all.asked x t k;
    first_asked = λ t k. to_device_keeps principal device_asks.Begin (λ r. t) (λ r. k);
    written = write_keeps;
    received = read_keeps;
    opened = open_keeps;
    used = use_keeps;
    closed = close_keeps;
    ended = all.ended;
    faulted = all.faulted;
    spent = all.spent;
    begun = all.begun;
    committed = all.committed;
    rolled_back = all.rolled_back;
    given_back = all.given_back;
    started = all.started;
    apart_turned = all.apart_turned;
    apart_spent = all.apart_spent;
  }
