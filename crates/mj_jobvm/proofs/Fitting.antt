-- A job asks of devices only what fits: each word that rows are made of keeps this, and so each row.
use Rattle.std.proofs.Common.{◌≡◌, ℕ, zero, suc, ◌+◌, List, [], ◌∷◌, ◌++◌, length, Option, Bool, true, false, not, refl, ap, sym, ◌∙◌, subst}
use Rattle.std.specs.Prelude.{ℤ, ◌&&◌, nat_lt, nat_le, if◌then◌else◌}
use Rattle.std.specs.Str.{bytes_eq}
use Rattle.mj_text.specs.declared.fault.Fault.{Fault}
use Rattle.mj_text.specs.declared.fault.Fault.TheVariants as faults
use Rattle.mj_ask.specs.declared.ask.Ask.{Ask}
use Rattle.mj_ask.specs.declared.ask.Ask.TheVariants as asks
use Rattle.mj_ask.specs.declared.ask.SharedAsk.TheVariants as shared_asks
use Rattle.mj_ask.specs.declared.ask.DeviceAsk.TheVariants as device_asks
use Rattle.mj_ask.specs.declared.ask.Reply.{Reply}
use Rattle.mj_ask.specs.declared.ask.Reply.TheVariants as replies_are
use Rattle.mj_ast.specs.declared.routine.ReadMode.{ReadMode}
use Rattle.mj_ast.specs.declared.routine.ReadMode.TheVariants as mode
use Rattle.mj_semantics.specs.State.{State, OpenDevice, principal, devices_limit, is_open, may_close, moved, wrote, used, with_device, dropped, counted}
use Rattle.mj_semantics.specs.Outcome.{More, Handler, Timed, turn, look, change, no_restart, until, restartable, go_back, end, fault, ask, is_failed, to_device}
use Rattle.mj_semantics.specs.Devices.{is_got, has_no_session, obtained, begin_session, open_device, use_device, give_up, close, is_input, input_ask, input_told, read_input}
use Rattle.mj_semantics.specs.Sharing.{in_time as test_in_time}
use Rattle.mj_jobvm.specs.Fit.{Link, Links, link_called, links_behind, IsFit}
use Rattle.mj_jobvm.proofs.Rule.{Rule, LeavesDevices, tests_same}
use Rattle.mj_jobvm.proofs.Transacted.{Plain, begins, commits, rolls_back, gives_back}
use Rattle.mj_jobvm.proofs.Names.{same_name, itself, never, is_in, AreApart, without, names_of, is_in_last, is_in_others, is_in_more, apart_more, isnt_in_without, is_in_without, apart_less, is_there, names_on, names_with, names_without, failed_at}
use Rattle.mj_jobvm.proofs.Fits.{Fits, Stands, StandsIn, Ends, ends_so, alike, fits_none, fits_turn, fits_end, fits_fault, fits_ask, fits_to_device}
use Rattle.mj_open_devices.proofs.Known.{same_turned}

-- what a restart goes on with asks only what fits
pub record Goes (h : Handler) : Type 0 where
  pub by : (n : ℕ) (s : State) (links : Links) → StandsIn s links → Fits links (h n s)

-- and so does what is left to do
pub record Keeps (t : Timed) : Type 0 where
  pub by : (n : ℕ) (h : Handler) (s : State) (links : Links) → Goes h → StandsIn s links → Fits links (t n h s)

-- a state in which the same devices are open
moves : (s t : State) (links : Links) → t.devices ≡ s.devices → t.current ≡ s.current → StandsIn s links → StandsIn t links
moves s t links devices current st =
    subst (λ d. Stands (names_of d) t.current links) (sym devices) (subst (λ io. Stands (names_of s.devices) io links) (sym current) st)

turned : (t : Timed) → Keeps t → Keeps (turn t)
turned t k = record { by = λ n h s links g st. fits_turn t n h s links (λ m. k.by m h s links g st) }

looked : (t : State → Timed) → ((s : State) → Keeps (t s)) → Keeps (look t)
looked t k = record { by = λ n h s links g st. (k s).by n h s links g st }

changed : (f : State → State) (t : Timed) → ((s : State) → ((f s).devices ≡ s.devices) × ((f s).current ≡ s.current)) → Keeps t → Keeps (change f t)
changed f t same k = record { by = λ n h s links g st. k.by n h (f s) links g (moves s (f s) links (same s).0 (same s).1 st) }

chosen : (b : Bool) (t u : Timed) → Keeps t → Keeps u → Keeps (if b then t else u)
chosen true t u k l = k
chosen false t u k l = l

ended : (f : Option Fault) → Keeps (end f)
ended f = record { by = λ n h s links g st. fits_end f n h s links st.session st.apart }

faulted : (f : Fault) → Keeps (fault f)
faulted f = record { by = λ n h s links g st. fits_fault f n h s links (ends_so s links st) }

-- an ask that has nothing to do with devices fits, and leaves all as it is
leaving : (x : Ask) → LeavesDevices x → (links : Links)
    → IsFit links x × ((r : Reply) (names : List (List ℕ)) (io : List ℕ) → Stands names io links → Stands names io (links_behind links x r))
leaving (asks.Device name a) leaves links = absurd leaves
leaving (asks.Shared (shared_asks.Open name timeout)) leaves links = absurd leaves
leaving (asks.Shared (shared_asks.Close name)) leaves links = absurd leaves
leaving _ leaves links = (tt, (λ r names io st. st))

asked : (x : Ask) (t : Reply → Timed) → LeavesDevices x → ((r : Reply) → Keeps (t r)) → Keeps (ask x t)
asked x t leaves k = record {
  by = λ n h s links g st.
      let it = leaving x leaves links in
      fits_ask x t n h s links (ends_so s links st) it.0 (λ r. (k r).by n h (counted s) (links_behind links x r) g (it.1 r (names_of s.devices) s.current st));
}

-- WRITE, READ and USE.

first_asked : (t : Timed) → Keeps t → Keeps (to_device principal device_asks.Begin (λ r. t))
first_asked t k = record {
  by = λ n h s links g st. fits_to_device principal device_asks.Begin (λ r. t) n h s links refl st st.first (λ r new stn. k.by n h (counted s) new g stn);
}

written : (bytes : List ℕ) (t : Timed) → Keeps t → Keeps (look (λ s. to_device s.current (device_asks.Write bytes) (λ r. change (wrote bytes) t)))
written bytes t k = record {
  by = λ n h s links g st.
      fits_to_device s.current (device_asks.Write bytes) (λ r. change (wrote bytes) t) n h s links refl st st.current (λ r new stn.
      k.by n h (wrote bytes (counted s)) new g (subst (λ names. Stands names s.current new) (sym (names_on s.current (moved bytes) s.devices (λ d. refl))) stn));
}

timed : (timeout : Option ℤ) (b : Bool) (s : State) (links : Links) → StandsIn s links → StandsIn (test_in_time timeout b s) links
timed timeout b s links st = let same = tests_same timeout b s in moves s (test_in_time timeout b s) links same.2 same.3 st

received : (m : ReadMode) (timeout : Option ℤ) (t : List ℕ → Timed) → ((v : List ℕ) → Keeps (t v)) → Keeps (read_input m timeout t)
received mode.Line timeout t k = record {
  by = λ n h s links g st.
      fits_to_device s.current (input_ask mode.Line timeout) (λ r. change (test_in_time timeout (is_input r)) (t (input_told mode.Line r))) n h s links refl st st.current (λ r new stn.
      (k (input_told mode.Line r)).by n h (test_in_time timeout (is_input r) (counted s)) new g (timed timeout (is_input r) (counted s) new stn));
}
received mode.Byte timeout t k = record {
  by = λ n h s links g st.
      fits_to_device s.current (input_ask mode.Byte timeout) (λ r. change (test_in_time timeout (is_input r)) (t (input_told mode.Byte r))) n h s links refl st st.current (λ r new stn.
      (k (input_told mode.Byte r)).by n h (test_in_time timeout (is_input r) (counted s)) new g (timed timeout (is_input r) (counted s) new stn));
}

uses : (name : List ℕ) (t : Timed) → Keeps t → Keeps (use_device name t)
uses name t k = record { by = λ n h s links g st. at n h s links g st (is_open name s) refl }
  where
    at : (n : ℕ) (h : Handler) (s : State) (links : Links) → Goes h → StandsIn s links → (b : Bool) → is_open name s ≡ b
        → Fits links ((if b then change (used name) t else fault faults.NoDevice) n h s)
    at n h s links g st true e = k.by n h (used name s) links g (record {
      session = st.session;
      whole = st.whole;
      named = st.named;
      first = st.first;
      current = sym (is_there name s.devices) ∙ e;
      apart = st.apart;
    })
    at n h s links g st false e = fits_fault faults.NoDevice n h s links (ends_so s links st)

-- OPEN.

-- what is got isn't without a session
got_is : (r : Reply) → is_got r ≡ true → has_no_session r ≡ false
got_is replies_are.NoSession e = absurd (let no : false ≡ true = e in cc)
got_is _ e = refl

module _ (name : List ℕ) (timeout : Option ℤ) (r : Reply) (links : Links) where
  abbrev opened_links : Links
  opened_links = links_behind links (asks.Shared (shared_asks.Open name timeout)) r

  abbrev added : Link → Link
  added link = record link { session = true; named = true }

  -- where it isn't got, nothing is otherwise
  not_got : is_got r ≡ false → (x : List ℕ) → opened_links x ≡ links x
  not_got e x = by (bytes_eq name x) (is_got r) e
    where
      by : (b c : Bool) → c ≡ false → (if b then (if c then added (links x) else links x) else links x) ≡ links x
      by true true q = never true refl q
      by true false q = refl
      by false c q = refl

  has_it : is_got r ≡ true → (opened_links name).session ≡ true
  has_it e = by (bytes_eq name name) (is_got r) (itself name) e
    where
      by : (b c : Bool) → b ≡ true → c ≡ true → (if b then (if c then added (links name) else links name) else links name).session ≡ true
      by true true p q = refl
      by true false p q = never false q refl
      by false c p q = never false p refl

  -- where it is got, one more device is open
  one_more : (names : List (List ℕ)) (io : List ℕ) → is_got r ≡ true → is_in name names ≡ false → Stands names io links → Stands (names ++ name ∷ []) io opened_links
  one_more names io got none st = record {
    session = λ x. session x (bytes_eq name x) (is_got r) refl got;
    whole = λ x. whole x (bytes_eq name x) (is_got r);
    named = λ x. owned x (bytes_eq name x) (is_got r) refl;
    first = is_in_more principal name names st.first;
    current = is_in_more io name names st.current;
    apart = apart_more name names st.apart none;
  }
    where
      session : (x : List ℕ) (b c : Bool) → bytes_eq name x ≡ b → c ≡ true
          → (if b then (if c then added (links x) else links x) else links x).session ≡ is_in x (names ++ name ∷ [])
      session x true true e q = sym (is_in_last x name names e)
      session x true false e q = never false q refl
      session x false c e q = st.session x ∙ sym (is_in_others x name names e)

      whole : (x : List ℕ) (b c : Bool) → (if b then (if c then added (links x) else links x) else links x).failed ≡ false
      whole x true true = st.whole x
      whole x true false = st.whole x
      whole x false c = st.whole x

      owned : (x : List ℕ) (b c : Bool) → bytes_eq name x ≡ b → (if b then (if c then added (links x) else links x) else links x).named ≡ true → is_in x (names ++ name ∷ []) ≡ true
      owned x true c e q = is_in_last x name names e
      owned x false c e q = is_in_more x name names (st.named x q)

opens : (name : List ℕ) (timeout : Option ℤ) (t : Timed) → Keeps t → Keeps (open_device name timeout t)
opens name timeout t k = record { by = λ n h s links g st. at n h s links g st (is_open name s) (nat_lt devices_limit (length s.devices)) refl }
  where
    got : Timed
    got = turn (begin_session name t)

    new : OpenDevice
    new = record { name = name; column = 0; row = 0; failed = false }

    asks_for : Timed
    asks_for = ask (asks.Shared (shared_asks.Open name timeout)) (λ r. obtained name timeout r t got)

    fit : (s : State) (links : Links) → StandsIn s links → is_in name (names_of s.devices) ≡ false → IsFit links (asks.Shared (shared_asks.Open name timeout))
    fit s links st none = (another (bytes_eq name principal) refl, st.session name ∙ none, unnamed (links name).named refl)
      where
        another : (b : Bool) → bytes_eq name principal ≡ b → bytes_eq name principal ≡ false
        another true e = never (is_in principal (names_of s.devices)) st.first (subst (λ x. is_in x (names_of s.devices) ≡ false) (same_name name principal e) none)
        another false e = e

        unnamed : (b : Bool) → (links name).named ≡ b → (links name).named ≡ false
        unnamed true e = never (is_in name (names_of s.devices)) (st.named name e) none
        unnamed false e = e

    -- the new device is there, in a state that is timed
    is_new : (r : Reply) (s : State) (links : Links) → StandsIn s links → is_in name (names_of s.devices) ≡ false → is_got r ≡ true
        → StandsIn (with_device name (test_in_time timeout true (counted s))) (opened_links name timeout r links)
    is_new r s links st none is =
        let all : Links = opened_links name timeout r links in
        let in_time : State = test_in_time timeout true (counted s) in
        let same = tests_same timeout true (counted s) in
        let here : Stands (names_of (s.devices ++ new ∷ [])) s.current all =
        subst (λ names. Stands names s.current all) (sym (names_with new s.devices)) (one_more name timeout r links (names_of s.devices) s.current is none st) in
        subst (λ d. Stands (names_of (d ++ new ∷ [])) in_time.current all) (sym same.2)
        (subst (λ io. Stands (names_of (s.devices ++ new ∷ [])) io all) (sym same.3) here)

    told : (r : Reply) (n : ℕ) (h : Handler) (s : State) (links : Links) → Goes h → StandsIn s links → is_in name (names_of s.devices) ≡ false
        → (without_one is : Bool) → has_no_session r ≡ without_one → is_got r ≡ is
        → Fits (opened_links name timeout r links)
        ((if without_one then fault faults.NoDevice else if is then change (test_in_time timeout true) (change (with_device name) got) else change (test_in_time timeout false) t) n h (counted s))
    told r n h s links g st none true true e q = never (has_no_session r) e (got_is r q)
    told r n h s links g st none true false e q =
        fits_fault faults.NoDevice n h (counted s) (opened_links name timeout r links)
        (ends_so (counted s) (opened_links name timeout r links) (alike (names_of s.devices) s.current links (opened_links name timeout r links) (not_got name timeout r links q) st))
    told r n h s links g st none false false e q =
        k.by n h (test_in_time timeout false (counted s)) (opened_links name timeout r links) g
        (timed timeout false (counted s) (opened_links name timeout r links)
        (alike (names_of s.devices) s.current links (opened_links name timeout r links) (not_got name timeout r links q) st))
    told r n h s links g st none false true e q =
        let all : Links = opened_links name timeout r links in
        let there : State = with_device name (test_in_time timeout true (counted s)) in
        let stands : StandsIn there all = is_new r s links st none q in
        fits_turn (begin_session name t) n h there all (λ m.
        fits_to_device name device_asks.Begin (λ x. t) m h there all refl stands (sym (stands.session name) ∙ has_it name timeout r links q) (λ x after stn.
        k.by m h (counted there) after g stn))

    at : (n : ℕ) (h : Handler) (s : State) (links : Links) → Goes h → StandsIn s links → (b full : Bool) → is_open name s ≡ b
        → Fits links ((if b then change (test_in_time timeout true) t else if full then fault faults.Limit else asks_for) n h s)
    at n h s links g st true full e = k.by n h (test_in_time timeout true s) links g (timed timeout true s links st)
    at n h s links g st false true e = fits_fault faults.Limit n h s links (ends_so s links st)
    at n h s links g st false false e =
        let none : is_in name (names_of s.devices) ≡ false = sym (is_there name s.devices) ∙ e in
        fits_ask (asks.Shared (shared_asks.Open name timeout)) (λ r. obtained name timeout r t got) n h s links (ends_so s links st) (fit s links st none)
        (λ r. told r n h s links g st none (has_no_session r) (is_got r) refl refl)

-- CLOSE.

both : (a b : Bool) → a && b ≡ true → (a ≡ true) × (b ≡ true)
both true b e = (refl, e)
both false b e = never false e refl

isnt : (b : Bool) → not b ≡ true → b ≡ false
isnt true e = never false e refl
isnt false e = refl

module _ (name : List ℕ) (r q : Reply) (s : State) (links : Links) (st : StandsIn s links) (other : bytes_eq name principal ≡ false) where
  abbrev ended_links : Links
  ended_links = links_behind links (asks.Device name device_asks.End) r

  abbrev closed_links : Links
  closed_links = links_behind ended_links (asks.Shared (shared_asks.Close name)) q

  left : names_of (dropped name s).devices ≡ without name (names_of s.devices)
  left = names_without name s.devices

  principal_left : is_in principal (without name (names_of s.devices)) ≡ true
  principal_left = is_in_without principal name (names_of s.devices) other ∙ st.first

  -- between the end of the session and the end of the name
  half_closed : Ends (dropped name s).devices ended_links
  half_closed = record {
    session = λ x. session x (bytes_eq name x) refl ∙ sym (ap (is_in x) left);
    failed = λ e. lost (bytes_eq name principal) refl e;
    first = ap (is_in principal) left ∙ principal_left;
    apart = subst (λ names. AreApart names) (sym left) (apart_less name (names_of s.devices) st.apart);
  }
    where
      session : (x : List ℕ) (b : Bool) → bytes_eq name x ≡ b
          → (if b then link_called device_asks.End r (links x) else links x).session ≡ is_in x (without name (names_of s.devices))
      session x true e = sym (isnt_in_without x name (names_of s.devices) e)
      session x false e = st.session x ∙ sym (is_in_without x name (names_of s.devices) e)

      lost : (b : Bool) → bytes_eq name principal ≡ b → (if b then link_called device_asks.End r (links principal) else links principal).failed ≡ true
          → failed_at principal (dropped name s).devices ≡ true
      lost true e p = never false p refl
      lost false e p = never (links principal).failed p (st.whole principal)

  -- and behind both
  one_less : StandsIn (dropped name s) closed_links
  one_less = subst (λ names. Stands names (dropped name s).current closed_links) (sym left) (record {
    session = λ x. session x (bytes_eq name x) refl;
    whole = λ x. whole x (bytes_eq name x);
    named = λ x. owned x (bytes_eq name x) refl;
    first = principal_left;
    current = current (bytes_eq s.current name) refl;
    apart = apart_less name (names_of s.devices) st.apart;
  })
    where
      session : (x : List ℕ) (b : Bool) → bytes_eq name x ≡ b
          → (if b then record (if b then link_called device_asks.End r (links x) else links x) { named = false } else (if b then link_called device_asks.End r (links x) else links x)).session
          ≡ is_in x (without name (names_of s.devices))
      session x true e = sym (isnt_in_without x name (names_of s.devices) e)
      session x false e = st.session x ∙ sym (is_in_without x name (names_of s.devices) e)

      whole : (x : List ℕ) (b : Bool)
          → (if b then record (if b then link_called device_asks.End r (links x) else links x) { named = false } else (if b then link_called device_asks.End r (links x) else links x)).failed ≡ false
      whole x true = refl
      whole x false = st.whole x

      owned : (x : List ℕ) (b : Bool) → bytes_eq name x ≡ b
          → (if b then record (if b then link_called device_asks.End r (links x) else links x) { named = false } else (if b then link_called device_asks.End r (links x) else links x)).named ≡ true
          → is_in x (without name (names_of s.devices)) ≡ true
      owned x true e p = never false p refl
      owned x false e p = is_in_without x name (names_of s.devices) e ∙ st.named x p

      current : (b : Bool) → bytes_eq s.current name ≡ b → is_in (if b then principal else s.current) (without name (names_of s.devices)) ≡ true
      current true e = principal_left
      current false e = is_in_without s.current name (names_of s.devices) (same_turned name s.current ∙ e) ∙ st.current

closes : (name : List ℕ) (t : Timed) → Keeps t → Keeps (close name t)
closes name t k = record { by = λ n h s links g st. at n h s links g st (may_close name s) refl }
  where
    badly : Timed
    badly = turn (give_up name (fault faults.Device))

    well : Timed
    well = turn (give_up name t)

    ended_so : (r : Reply) (n : ℕ) (h : Handler) (s : State) (links : Links) → Goes h → StandsIn s links → bytes_eq name principal ≡ false → (b : Bool)
        → Fits (links_behind links (asks.Device name device_asks.End) r) ((if b then badly else well) n h (dropped name (counted s)))
    ended_so r n h s links g st other true =
        let all : Links = links_behind links (asks.Device name device_asks.End) r in
        let there : State = dropped name (counted s) in
        fits_turn (give_up name (fault faults.Device)) n h there all (λ m.
        fits_ask (asks.Shared (shared_asks.Close name)) (λ q. fault faults.Device) m h there all (half_closed name r r (counted s) links st other) tt (λ q.
        fits_fault faults.Device m h (counted there) (links_behind all (asks.Shared (shared_asks.Close name)) q)
        (ends_so there (links_behind all (asks.Shared (shared_asks.Close name)) q) (one_less name r q (counted s) links st other))))
    ended_so r n h s links g st other false =
        let all : Links = links_behind links (asks.Device name device_asks.End) r in
        let there : State = dropped name (counted s) in
        fits_turn (give_up name t) n h there all (λ m.
        fits_ask (asks.Shared (shared_asks.Close name)) (λ q. t) m h there all (half_closed name r r (counted s) links st other) tt (λ q.
        k.by m h (counted there) (links_behind all (asks.Shared (shared_asks.Close name)) q) g (one_less name r q (counted s) links st other)))

    at : (n : ℕ) (h : Handler) (s : State) (links : Links) → Goes h → StandsIn s links → (b : Bool) → may_close name s ≡ b
        → Fits links ((if b then ask (asks.Device name device_asks.End) (λ r. change (dropped name) (if is_failed r then badly else well)) else t) n h s)
    at n h s links g st true e =
        let may = both (not (bytes_eq name principal)) (is_open name s) e in
        fits_ask (asks.Device name device_asks.End) (λ r. change (dropped name) (if is_failed r then badly else well)) n h s links (ends_so s links st)
        (st.session name ∙ sym (is_there name s.devices) ∙ may.1, (λ q. never true refl q))
        (λ r. ended_so r n h s links g st (isnt (bytes_eq name principal) may.0) (is_failed r))
    at n h s links g st false e = k.by n h s links g st

-- Transactions.

pub none_goes : Goes no_restart
none_goes = record { by = at }
  where
    at : (n : ℕ) (s : State) (links : Links) → StandsIn s links → Fits links (no_restart n s)
    at zero s links st = fits_none links (no_restart zero s) (λ replies a locals at e. cc)
    at (suc n) s links st = fits_none links (no_restart (suc n) s) (λ replies a locals at e. cc)

spends : Keeps (λ n h s replies. More)
spends = record { by = λ n h s links g st. fits_none links (λ replies. More) (λ replies a locals at e. cc) }

restarts : (again rest : Timed) → Keeps again → Keeps rest → Keeps (restartable again rest)
restarts again rest l k = record { by = λ n h s links g st. k.by n (until n again) s links (goes n) st }
  where
    by_turns : (b : Bool) (m : ℕ) (s : State) (links : Links) → StandsIn s links → Fits links ((if b then again m no_restart else (λ s replies. More)) s)
    by_turns true m s links st = l.by m no_restart s links none_goes st
    by_turns false m s links st = fits_none links (λ replies. More) (λ replies a locals at e. cc)

    goes : (n : ℕ) → Goes (until n again)
    goes n = record { by = λ m s links st. by_turns (nat_le m n) m s links st }

goes_back : Keeps go_back
goes_back = record { by = λ n h s links g st. g.by n s links st }

plain : Plain Keeps
plain = record {
  turned = turned;
  looked = looked;
  changed = λ f t same k. changed f t (λ s. ((same s).1, (same s).2)) k;
  asked = asked;
  faulted = faulted;
  went_back = goes_back;
}

-- so what holds of a word holds of each row
pub fitting : Rule Keeps Keeps
fitting = record {
  turned = turned;
  looked = looked;
  changed = λ f t same k. changed f t (λ s. ((same s).2, (same s).3)) k;
  asked = asked;
  first_asked = first_asked;
  written = written;
  received = received;
  opened = opens;
  used = uses;
  closed = closes;
  ended = ended;
  faulted = faulted;
  spent = spends;
  begun = begins Keeps plain;
  committed = commits Keeps plain;
  rolled_back = rolls_back Keeps plain;
  given_back = gives_back Keeps plain;
  started = restarts;
  apart_turned = turned;
  apart_spent = spends;
}
