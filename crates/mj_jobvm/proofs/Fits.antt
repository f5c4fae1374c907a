-- What a run asks of devices fits: how its ending does, and what any ask comes to.
use Rattle.std.proofs.Common.{◌≡◌, ℕ, zero, suc, List, [], ◌∷◌, Option, Some, Bool, true, false, refl, ap, sym, ◌∙◌, subst}
use Rattle.std.specs.Prelude.{nat_lt, if◌then◌else◌}
use Rattle.std.specs.Str.{bytes_eq}
use Rattle.mj_text.specs.declared.fault.Fault.{Fault}
use Rattle.mj_text.specs.declared.fault.Fault.TheVariants as faults
use Rattle.mj_ask.specs.declared.ask.Ask.{Ask}
use Rattle.mj_ask.specs.declared.ask.Ask.TheVariants as asks
use Rattle.mj_ask.specs.declared.ask.SharedAsk.TheVariants as shared_asks
use Rattle.mj_ask.specs.declared.ask.DeviceAsk.{DeviceAsk}
use Rattle.mj_ask.specs.declared.ask.DeviceAsk.TheVariants as device_asks
use Rattle.mj_ask.specs.declared.ask.Reply.{Reply}
use Rattle.mj_semantics.specs.State.{State, Locals, Place, OpenDevice, principal, on_device, has_failed, ending_order, counted, broke}
use Rattle.mj_semantics.specs.Outcome.{Outcome, Needs, Ended, Handler, Timed, turn, change, asking, over, halt, ends, end, fault_bytes, fault, ask, is_failed, to_device}
use Rattle.mj_jobvm.specs.Run.{Log, replies_of}
use Rattle.mj_jobvm.specs.Fit.{Link, Links, is_end, link_called, links_behind, links_after, IsFit}
use Rattle.mj_jobvm.proofs.Names.{same_name, itself, never, is_in, AreApart, names_of, is_in_others, apart_more, names_on, failed_at, fails}

-- what a run asks first
pub record IsFirst (run : List Reply → Outcome) (a : Ask) : Type 0 where
  pub locals : Locals
  pub at : List Place
  pub is : run [] ≡ Needs a locals at

-- each ask of a log is the next one of a run, behind the replies before it
abbrev pub AreAsked : (List Reply → Outcome) → Log → Type 0
AreAsked run [] = Unit {0}
AreAsked run (e ∷ log) = IsFirst run e.0 × AreAsked (λ replies. run (e.1 ∷ replies)) log

-- whatever a run asks fits
pub record Fits (links : Links) (run : List Reply → Outcome) : Type 0 where
  pub by : (log : Log) → AreAsked run log → (a : Ask) (locals : Locals) (at : List Place) → run (replies_of log) ≡ Needs a locals at → IsFit (links_after links log) a

-- A job has these devices open, of which that one is the current one: it has sessions with them alone, of which none failed, and no other name.
pub record Stands (names : List (List ℕ)) (io : List ℕ) (links : Links) : Type 0 where
  pub session : (x : List ℕ) → (links x).session ≡ is_in x names
  pub whole : (x : List ℕ) → (links x).failed ≡ false
  pub named : (x : List ℕ) → (links x).named ≡ true → is_in x names ≡ true
  pub first : is_in principal names ≡ true
  pub current : is_in io names ≡ true
  pub apart : AreApart names

abbrev pub StandsIn : State → Links → Type 0
StandsIn s links = Stands (names_of s.devices) s.current links

-- as much of it as the job's ending needs: it has sessions with the devices that are open, and of the principal one it knows whether it failed
pub record Ends (devices : List OpenDevice) (links : Links) : Type 0 where
  pub session : (x : List ℕ) → (links x).session ≡ is_in x (names_of devices)
  pub failed : (links principal).failed ≡ true → failed_at principal devices ≡ true
  pub first : is_in principal (names_of devices) ≡ true
  pub apart : AreApart (names_of devices)

pub ends_so : (s : State) (links : Links) → StandsIn s links → Ends s.devices links
ends_so s links st = record {
  session = st.session;
  failed = λ e. never (links principal).failed e (st.whole principal);
  first = st.first;
  apart = st.apart;
}

-- links that are the same, one by one
pub alike : (names : List (List ℕ)) (io : List ℕ) (old new : Links) → ((x : List ℕ) → new x ≡ old x) → Stands names io old → Stands names io new
alike names io old new same st = record {
  session = λ x. ap (λ (l : Link). l.session) (same x) ∙ st.session x;
  whole = λ x. ap (λ (l : Link). l.failed) (same x) ∙ st.whole x;
  named = λ x is. st.named x (sym (ap (λ (l : Link). l.named) (same x)) ∙ is);
  first = st.first;
  current = st.current;
  apart = st.apart;
}

-- Links behind an ask of a session that doesn't end it.

pub called_session : (ask : DeviceAsk) (r : Reply) (link : Link) → is_end ask ≡ false → (link_called ask r link).session ≡ link.session
called_session ask r link on = by (is_end ask) (is_failed r) on
  where
    by : (b c : Bool) → b ≡ false → (if b then record link { session = false; failed = false } else if c then record link { failed = true } else link).session ≡ link.session
    by true c q = never true refl q
    by false true q = refl
    by false false q = refl

called_calm : (ask : DeviceAsk) (r : Reply) (link : Link) → is_end ask ≡ false → is_failed r ≡ false → link_called ask r link ≡ link
called_calm ask r link on well = by (is_end ask) (is_failed r) on well
  where
    by : (b c : Bool) → b ≡ false → c ≡ false → (if b then record link { session = false; failed = false } else if c then record link { failed = true } else link) ≡ link
    by true c q w = never true refl q
    by false true q w = never true refl w
    by false false q w = refl

-- it has the sessions that it had
behind_session : (name : List ℕ) (ask : DeviceAsk) (r : Reply) (links : Links) (x : List ℕ) → is_end ask ≡ false
    → (links_behind links (asks.Device name ask) r x).session ≡ (links x).session
behind_session name ask r links x on = by (bytes_eq name x)
  where
    by : (b : Bool) → (if b then link_called ask r (links x) else links x).session ≡ (links x).session
    by true = called_session ask r (links x) on
    by false = refl

-- and where it was done, nothing is otherwise
behind_calm : (name : List ℕ) (ask : DeviceAsk) (r : Reply) (links : Links) (x : List ℕ) → is_end ask ≡ false → is_failed r ≡ false
    → links_behind links (asks.Device name ask) r x ≡ links x
behind_calm name ask r links x on well = by (bytes_eq name x)
  where
    by : (b : Bool) → (if b then link_called ask r (links x) else links x) ≡ links x
    by true = called_calm ask r (links x) on well
    by false = refl

-- Runs.

pub fits_none : (links : Links) (run : List Reply → Outcome) → ((replies : List Reply) (a : Ask) (locals : Locals) (at : List Place) → run replies ≡ Needs a locals at → ⊥) → Fits links run
fits_none links run none = record { by = λ log asked a locals at e. absurd (none (replies_of log) a locals at e) }

asks_it : (a b : Ask) (locals locals' : Locals) (at at' : List Place) → Needs a locals at ≡ Needs b locals' at' → a ≡ b
asks_it a b locals locals' at at' e = cc

pub fits_asking : (x : Ask) (rest : Reply → Timed) (n : ℕ) (h : Handler) (s : State) (links : Links) → IsFit links x
    → ((r : Reply) → Fits (links_behind links x r) (rest r n h s)) → Fits links (asking x rest n h s)
fits_asking x rest n h s links fit k = record { by = made }
  where
    made : (log : Log) → AreAsked (asking x rest n h s) log → (a : Ask) (locals : Locals) (at : List Place)
        → asking x rest n h s (replies_of log) ≡ Needs a locals at → IsFit (links_after links log) a
    made [] asked a locals at e = subst (IsFit links) (asks_it x a s.locals locals _ at e) fit
    made (f ∷ log) asked a locals at e =
        let same : x ≡ f.0 = asks_it x f.0 s.locals asked.0.locals _ asked.0.at asked.0.is in
        subst (λ y. IsFit (links_after (links_behind links y f.1) log) a) same ((k f.1).by log asked.1 a locals at e)

pub fits_turn : (t : Timed) (n : ℕ) (h : Handler) (s : State) (links : Links) → ((m : ℕ) → Fits links (t m h s)) → Fits links (turn t n h s)
fits_turn t zero h s links k = fits_none links (turn t zero h s) (λ replies a locals at e. cc)
fits_turn t (suc n) h s links k = k n

-- The ending.

fits_halt : (f : Option Fault) (n : ℕ) (h : Handler) (s : State) (links : Links) → Fits links (halt f n h s)
fits_halt f n h s links =
    fits_turn _ n h s links (λ m. fits_asking (asks.Shared (shared_asks.Halt f)) (λ r. over) m h s links tt (λ r.
    fits_turn _ m h s links (λ k. fits_none links (λ replies. Ended) (λ replies a locals at e. cc))))

-- the sessions end that it has, each once
fits_ends : (names : List (List ℕ)) (f : Option Fault) (n : ℕ) (h : Handler) (s : State) (links : Links) → ((x : List ℕ) → is_in x names ≡ true → (links x).session ≡ true)
    → AreApart names → Fits links (ends names f n h s)
fits_ends [] f n h s links linked apart = fits_halt f n h s links
fits_ends (name ∷ names) f n h s links linked apart =
    fits_turn _ n h s links (λ m. fits_asking (asks.Device name device_asks.End) (λ r. ends names f) m h s links
    (linked name (ap (λ b. if b then true else is_in name names) (itself name)), (λ e. never true refl e))
    (λ r. fits_ends names f m h s (links_behind links (asks.Device name device_asks.End) r) (λ x there. by x r there (bytes_eq name x) refl) apart.1))
  where
    by : (x : List ℕ) (r : Reply) → is_in x names ≡ true → (b : Bool) → bytes_eq name x ≡ b → (if b then link_called device_asks.End r (links x) else links x).session ≡ true
    by x r there true e = never (is_in x names) there (subst (λ y. is_in y names ≡ false) (same_name name x e) apart.0)
    by x r there false e = linked x (ap (λ b. if b then true else is_in x names) e ∙ there)

in_order : (x : List ℕ) (devices : List OpenDevice) → is_in x (ending_order devices) ≡ true → is_in x (names_of devices) ≡ true
in_order x [] there = there
in_order x (p ∷ others) there = by (bytes_eq p.name x) refl
  where
    by : (b : Bool) → bytes_eq p.name x ≡ b → (if b then true else is_in x (names_of others)) ≡ true
    by true e = refl
    by false e = sym (is_in_others x p.name (names_of others) e) ∙ there

order_apart : (devices : List OpenDevice) → AreApart (names_of devices) → AreApart (ending_order devices)
order_apart [] apart = tt
order_apart (p ∷ others) apart = apart_more p.name (names_of others) apart.1 apart.0

pub fits_end : (f : Option Fault) (n : ℕ) (h : Handler) (s : State) (links : Links) → ((x : List ℕ) → (links x).session ≡ is_in x (names_of s.devices))
    → AreApart (names_of s.devices) → Fits links (end f n h s)
fits_end f n h s links session apart =
    fits_ends (ending_order s.devices) f n h s links (λ x there. session x ∙ in_order x s.devices there) (order_apart s.devices apart)

-- a fault writes its line to a principal device that hasn't failed
pub fits_fault : (f : Fault) (n : ℕ) (h : Handler) (s : State) (links : Links) → Ends s.devices links → Fits links (fault f n h s)
fits_fault f n h s links en = fits_turn _ n h s links (λ m. by (has_failed principal s) refl m)
  where
    line : DeviceAsk
    line = device_asks.Write (fault_bytes f s)

    unfailed : (b : Bool) → (links principal).failed ≡ b → has_failed principal s ≡ false → (links principal).failed ≡ false
    unfailed true q e = never (has_failed principal s) (en.failed q) e
    unfailed false q e = q

    by : (b : Bool) → has_failed principal s ≡ b → (m : ℕ) → Fits links ((if b then end (Some f) else asking (asks.Device principal line) (λ r. end (Some f))) m h s)
    by true e m = fits_end (Some f) m h s links en.session en.apart
    by false e m =
        fits_asking (asks.Device principal line) (λ r. end (Some f)) m h s links
        (en.session principal ∙ en.first, (λ q. unfailed (links principal).failed refl e))
        (λ r. fits_end (Some f) m h s (links_behind links (asks.Device principal line) r) (λ x. behind_session principal line r links x refl ∙ en.session x) en.apart)

-- Asks.

pub fits_ask : (x : Ask) (rest : Reply → Timed) (n : ℕ) (h : Handler) (s : State) (links : Links) → Ends s.devices links → IsFit links x
    → ((r : Reply) → Fits (links_behind links x r) (rest r n h (counted s))) → Fits links (ask x rest n h s)
fits_ask x rest n h s links en fit k = by (nat_lt s.replied s.bounds.events)
  where
    by : (b : Bool) → Fits links ((if b then asking x (λ r. change counted (rest r)) else fault faults.Steps) n h s)
    by true = fits_asking x (λ r. change counted (rest r)) n h s links fit k
    by false = fits_fault faults.Steps n h s links en

-- a call of a session that the job has: where it fails, the job ends, and else all is as before
pub fits_to_device : (name : List ℕ) (x : DeviceAsk) (rest : Reply → Timed) (n : ℕ) (h : Handler) (s : State) (links : Links) → is_end x ≡ false → StandsIn s links
    → is_in name (names_of s.devices) ≡ true → ((r : Reply) (new : Links) → StandsIn s new → Fits new (rest r n h (counted s))) → Fits links (to_device name x rest n h s)
fits_to_device name x rest n h s links on st there k =
    fits_ask (asks.Device name x) (λ r. if is_failed r then change (broke name) (fault faults.Device) else rest r) n h s links (ends_so s links st)
    (st.session name ∙ there, (λ q. st.whole name)) (λ r. by r (is_failed r) refl)
  where
    behind : Reply → Links
    behind r = links_behind links (asks.Device name x) r

    left : List OpenDevice
    left = on_device name (λ d. record d { failed = true }) s.devices

    same : names_of left ≡ names_of s.devices
    same = names_on name (λ d. record d { failed = true }) s.devices (λ d. refl)

    lost : (r : Reply) (b : Bool) → bytes_eq name principal ≡ b → (if b then link_called x r (links principal) else links principal).failed ≡ true → failed_at principal left ≡ true
    lost r true e q =
        subst (λ z. failed_at principal (on_device z (λ d. record d { failed = true }) s.devices) ≡ true) (sym (same_name name principal e)) (fails principal s.devices st.first)
    lost r false e q = never (links principal).failed q (st.whole principal)

    broken : (r : Reply) → Ends left (behind r)
    broken r = record {
      session = λ y. behind_session name x r links y on ∙ st.session y ∙ sym (ap (is_in y) same);
      failed = λ q. lost r (bytes_eq name principal) refl q;
      first = ap (is_in principal) same ∙ st.first;
      apart = subst AreApart (sym same) st.apart;
    }

    by : (r : Reply) (b : Bool) → is_failed r ≡ b → Fits (behind r) ((if b then change (broke name) (fault faults.Device) else rest r) n h (counted s))
    by r true e = fits_fault faults.Device n h (broke name (counted s)) (behind r) (broken r)
    by r false e = k r (behind r) (alike (names_of s.devices) s.current links (behind r) (λ y. behind_calm name x r links y on e) st)
