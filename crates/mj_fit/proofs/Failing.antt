-- By a log a session has failed only where its link says so.
use Rattle.std.proofs.Common.{◌≡◌, ℕ, List, [], ◌∷◌, Bool, true, false, Option, Some, None, refl, ap, sym, ◌∙◌, subst}
use Rattle.std.specs.Prelude.{if◌then◌else◌}
use Rattle.std.specs.Str.{bytes_eq}
use Rattle.mj_ask.specs.declared.ask.Ask.{Ask}
use Rattle.mj_ask.specs.declared.ask.Ask.TheVariants as asks
use Rattle.mj_ask.specs.declared.ask.SharedAsk.{SharedAsk}
use Rattle.mj_ask.specs.declared.ask.SharedAsk.TheVariants as shared_asks
use Rattle.mj_ask.specs.declared.ask.DeviceAsk.{DeviceAsk}
use Rattle.mj_ask.specs.declared.ask.DeviceAsk.TheVariants as device_asks
use Rattle.mj_ask.specs.declared.ask.Reply.{Reply}
use Rattle.mj_ask.specs.declared.ask.Reply.TheVariants as replies
use Rattle.mj_semantics.specs.Outcome.{is_failed}
use Rattle.mj_semantics.specs.Devices.{is_got}
use Rattle.mj_dev.specs.declared.device.Input.{Input}
use Rattle.mj_dev.specs.declared.device.Input.TheVariants as input
use Rattle.mj_dev.specs.declared.talk.Code.{Code}
use Rattle.mj_dev.specs.declared.talk.Code.TheVariants as codes
use Rattle.mj_dev.specs.declared.talk.State.{State}
use Rattle.mj_dev.specs.declared.talk.State.TheVariants as states
use Rattle.mj_dev.specs.Talk.{TalkStand, stand_after, AllowsLine, AllowsByte, Allows}
use Rattle.mj_sessions.specs.Events.{Log, did_of, input_of, code_of, exchange_of, talk_on}
use Rattle.mj_sessions.specs.Follow.{stand_behind, Follow}
use Rattle.mj_jobvm.specs.Fit.{Link, Links, link_called, link_behind, links_behind, links_after}
use Rattle.mj_jobvm.proofs.Names.{never}

-- Calls that didn't fail.

did_well : (old new : TalkStand) (r : Reply) → is_failed r ≡ false → new ≡ stand_after old (did_of r) → new.state ≡ old.state
did_well old new replies.Done well is = ap (λ (t : TalkStand). t.state) is
did_well old new replies.Failed well is = never true refl well
did_well old new _ well is = ap (λ (t : TalkStand). t.state) is

read_line : (old new : TalkStand) (rest : Option (List ℕ)) (i : Input) → (i ≡ input.Failed → ⊥) → AllowsLine old rest i new → new.state ≡ old.state
read_line old new None (input.Line line) well is = ap (λ (t : TalkStand). t.state) is
read_line old new None input.End well is = ap (λ (t : TalkStand). t.state) is
read_line old new None input.NotYet well is = ap (λ (t : TalkStand). t.state) is
read_line old new None input.Failed well is = absurd (well refl)
read_line old new None input.Memory well is = ap (λ (t : TalkStand). t.state) is
read_line old new (Some rest) i well is = is.1

read_byte : (old new : TalkStand) (rest : Option (List ℕ)) (c : Code) → (c ≡ codes.Failed → ⊥) → AllowsByte old rest c new → new.state ≡ old.state
read_byte old new None (codes.Byte byte) well is = is.3
read_byte old new None codes.End well is = ap (λ (t : TalkStand). t.state) is
read_byte old new None codes.NotYet well is = ap (λ (t : TalkStand). t.state) is
read_byte old new None codes.Failed well is = absurd (well refl)
read_byte old new None codes.Memory well is = ap (λ (t : TalkStand). t.state) is
read_byte old new (Some rest) c well is = is.1

line_well : (r : Reply) → is_failed r ≡ false → input_of r ≡ input.Failed → ⊥
line_well (replies.Line line) well is = cc
line_well replies.End well is = cc
line_well replies.Late well is = cc
line_well replies.Failed well is = never true refl well
line_well _ well is = cc

byte_well : (r : Reply) → is_failed r ≡ false → code_of r ≡ codes.Failed → ⊥
byte_well (replies.Byte code) well is = cc
byte_well replies.End well is = cc
byte_well replies.Late well is = cc
byte_well replies.Failed well is = never true refl well
byte_well _ well is = cc

-- where a call that isn't the end leaves the link unfailed, it was so before, and the call was done
was_well : (r : Reply) (link : Link) (b : Bool) → is_failed r ≡ b → (if b then record link { failed = true } else link).failed ≡ false → (is_failed r ≡ false) × (link.failed ≡ false)
was_well r link true is q = never true refl q
was_well r link false is q = (is, q)

-- a session that is open is open behind a call that was done, and a new one is behind an end
stays_open : (x : DeviceAsk) (r : Reply) (old new : TalkStand) (link : Link) → (link.failed ≡ false → old.state ≡ states.Open)
    → Allows old old.state (exchange_of x r) new → (link_called x r link).failed ≡ false → (stand_behind (exchange_of x r) new).state ≡ states.Open
stays_open device_asks.End r old new link is_open allows well = refl
stays_open device_asks.Begin r old new link is_open allows well =
    let was = was_well r link (is_failed r) refl well in
    did_well old new r was.0 (subst (λ (s : State). Allows old s (exchange_of device_asks.Begin r) new) (is_open was.1) allows) ∙ is_open was.1
stays_open (device_asks.Write bytes) r old new link is_open allows well =
    let was = was_well r link (is_failed r) refl well in
    did_well old new r was.0 (subst (λ (s : State). Allows old s (exchange_of (device_asks.Write bytes) r) new) (is_open was.1) allows) ∙ is_open was.1
stays_open (device_asks.Line timeout) r old new link is_open allows well =
    let was = was_well r link (is_failed r) refl well in
    read_line old new old.rest (input_of r) (line_well r was.0) (subst (λ (s : State). Allows old s (exchange_of (device_asks.Line timeout) r) new) (is_open was.1) allows) ∙ is_open was.1
stays_open (device_asks.Byte timeout) r old new link is_open allows well =
    let was = was_well r link (is_failed r) refl well in
    read_byte old new old.rest (code_of r) (byte_well r was.0) (subst (λ (s : State). Allows old s (exchange_of (device_asks.Byte timeout) r) new) (is_open was.1) allows) ∙ is_open was.1

-- what the shared state is asked fails no session
shared_failed : (name : List ℕ) (a : SharedAsk) (r : Reply) (link : Link) → (link_behind name (asks.Shared a) r link).failed ≡ link.failed
shared_failed name (shared_asks.Open device timeout) r link = by (bytes_eq device name) (is_got r)
  where
    by : (b c : Bool) → (if b then (if c then record link { session = true; named = true } else link) else link).failed ≡ link.failed
    by true true = refl
    by true false = refl
    by false c = refl
shared_failed name (shared_asks.Close device) r link = by (bytes_eq device name)
  where
    by : (b : Bool) → (if b then record link { named = false } else link).failed ≡ link.failed
    by true = refl
    by false = refl
shared_failed name _ r link = refl

-- Logs.

module _ (name : List ℕ) where
  -- an open session and a link agree
  abbrev IsOpenBy : Links → TalkStand → Type 0
  IsOpenBy links stand = (links name).failed ≡ false → stand.state ≡ states.Open

  abbrev Leads : Log → Type 0
  Leads log =
      (links : Links) (old last : TalkStand) → IsOpenBy links old → Follow old (talk_on name log) last → (links_after links log name).failed ≡ false → last.state ≡ states.Open

  by_ask : (a : Ask) (r : Reply) (log : Log) → Leads log → Leads ((a, r) ∷ log)
  by_ask (asks.Shared a) r log rest links old last is_open talk well =
      rest (links_behind links (asks.Shared a) r) old last (λ q. is_open (sym (shared_failed name a r (links name)) ∙ q)) talk well
  by_ask (asks.Rest time) r log rest links old last is_open talk well = rest links old last is_open talk well
  by_ask (asks.Device device x) r log rest links old last is_open talk well =
      by (bytes_eq device name) refl talk (λ now open_now on. rest (links_behind links (asks.Device device x) r) now last open_now on well)
    where
      by : (b : Bool) → bytes_eq device name ≡ b
          → Follow old (elim (if b then Some (exchange_of x r) else None) [ None ↦ talk_on name log | Some exchange ↦ exchange ∷ talk_on name log ]) last
          → ((now : TalkStand) → IsOpenBy (links_behind links (asks.Device device x) r) now → Follow now (talk_on name log) last → last.state ≡ states.Open)
          → last.state ≡ states.Open
      by true is t k =
          k (stand_behind (exchange_of x r) t.0)
          (λ q. stays_open x r old t.0 (links name) is_open t.1 (sym (ap (λ c. (if c then link_called x r (links name) else links name).failed) is) ∙ q)) t.2
      by false is t k = k old (λ q. is_open (sym (ap (λ c. (if c then link_called x r (links name) else links name).failed) is) ∙ q)) t

  pub is_open_by : (log : Log) → Leads log
  is_open_by [] links old last is_open talk well = ap (λ (t : TalkStand). t.state) talk ∙ is_open well
  is_open_by (e ∷ log) links old last is_open talk well = by_ask e.0 e.1 log (is_open_by log) links old last is_open talk well
