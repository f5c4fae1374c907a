-- What a session takes by a call in front of others.
use Rattle.std.specs.Prelude.{if◌then◌else◌}
use Rattle.std.specs.Str.{bytes_eq}
use Rattle.std.proofs.Common.{ℕ, zero, suc, ◌-◌, Bool, true, false, List, [], ◌∷◌, ◌++◌, Option, Some, None, ◌≡◌, refl, sym, ap, ◌∙◌, arith}
use Rattle.mj_ask.specs.declared.ask.Ask.{Ask}
use Rattle.mj_ask.specs.declared.ask.Ask.TheVariants as asks
use Rattle.mj_ask.specs.declared.ask.DeviceAsk.{DeviceAsk}
use Rattle.mj_ask.specs.declared.ask.DeviceAsk.TheVariants as device_asks
use Rattle.mj_ask.specs.declared.ask.Reply.{Reply}
use Rattle.mj_ask.specs.declared.ask.Reply.TheVariants as replies
use Rattle.mj_dev.specs.declared.device.Did.{Did}
use Rattle.mj_dev.specs.declared.device.Did.TheVariants as did
use Rattle.mj_dev.specs.Did.{bytes_of}
use Rattle.mj_dev.specs.Talk.{Exchange, Written, Ended, written_by}
use Rattle.mj_sessions.specs.Events.{Log, talk_on, did_of, exchange_of}
use Rattle.mj_sessions.specs.Follow.{is_end, output_on, ends_on, written_on}

none_left : (talk : List Exchange) → output_on 0 talk ≡ []
none_left [] = refl
none_left (x ∷ talk) = refl

-- a session ends
end_of : (k : ℕ) (answer : Did) (talk : List Exchange) → output_on k (Ended answer ∷ talk) ≡ output_on (k - 1) talk
end_of zero answer talk = sym (none_left talk)
end_of (suc zero) answer talk = sym (none_left talk)
end_of (suc (suc k)) answer talk = ap (λ n. output_on n talk) (let e : suc k ≡ suc (suc k) - 1 = omega arith in e)

-- a call to the session that is looked at, or to another
first_of : (x : Exchange) (talk : List Exchange) → is_end x ≡ false → output_on 1 (x ∷ talk) ≡ written_by x ++ output_on 1 talk
first_of x talk on = ap (λ b. if b then [] else written_by x ++ output_on 1 talk) on

later_of : (k : ℕ) (x : Exchange) (talk : List Exchange) → is_end x ≡ false → (k ≡ 1 → ⊥) → output_on k (x ∷ talk) ≡ output_on k talk
later_of zero x talk on other = sym (none_left talk)
later_of (suc zero) x talk on other = absurd (other refl)
later_of (suc (suc k)) x talk on other = ap (λ b. output_on (if b then suc k else suc (suc k)) talk) on

abbrev With : Option Exchange → List Exchange → List Exchange
With o talk = elim o [ None ↦ talk | Some x ↦ x ∷ talk ]

first_at : (b : Bool) (x : Exchange) (talk : List Exchange) → is_end x ≡ false
    → output_on 1 (With (if b then Some x else None) talk) ≡ (if b then written_by x else []) ++ output_on 1 talk
first_at true x talk on = first_of x talk on
first_at false x talk on = refl

-- a call that writes nothing
silent_at : (b : Bool) (x : Exchange) (talk : List Exchange) → is_end x ≡ false → written_by x ≡ []
    → output_on 1 (With (if b then Some x else None) talk) ≡ output_on 1 talk
silent_at true x talk on none = first_of x talk on ∙ ap (λ w. w ++ output_on 1 talk) none
silent_at false x talk on none = refl

unwritten : (b : Bool) (bytes : List ℕ) (reply : Reply) (talk : List Exchange) → bytes_of (did_of reply) bytes ≡ []
    → output_on 1 (With (if b then Some (Written bytes (did_of reply)) else None) talk) ≡ output_on 1 talk
unwritten b bytes reply talk none = silent_at b (Written bytes (did_of reply)) talk refl none

written_at : (b : Bool) (bytes : List ℕ) (talk : List Exchange)
    → output_on 1 (With (if b then Some (Written bytes did.Done) else None) talk) ≡ (if b then bytes else []) ++ output_on 1 talk
written_at b bytes talk = first_at b (Written bytes did.Done) talk refl

later_at : (k : ℕ) (b : Bool) (x : Exchange) (talk : List Exchange) → is_end x ≡ false → (k ≡ 1 → ⊥) → output_on k (With (if b then Some x else None) talk) ≡ output_on k talk
later_at k true x talk on other = later_of k x talk on other
later_at k false x talk on other = refl

end_at : (k : ℕ) (b : Bool) (answer : Did) (talk : List Exchange) → b ≡ true → output_on k (With (if b then Some (Ended answer) else None) talk) ≡ output_on (k - 1) talk
end_at k true answer talk is = end_of k answer talk
end_at k false answer talk is = absurd (let no : false ≡ true = is in cc)

still_at : (k : ℕ) (b : Bool) (answer : Did) (talk : List Exchange) → b ≡ false → output_on k (With (if b then Some (Ended answer) else None) talk) ≡ output_on k talk
still_at k true answer talk is = absurd (let no : true ≡ false = is in cc)
still_at k false answer talk is = refl

module _ (name : List ℕ) (reply : Reply) (log : Log) where
  abbrev talk : List Exchange
  talk = talk_on name log

  pub ended_by : (k : ℕ) (ask : Ask) → ends_on name ask ≡ true → output_on k (talk_on name ((ask, reply) ∷ log)) ≡ output_on (k - 1) talk
  ended_by k (asks.Device d device_asks.End) is = end_at k (bytes_eq d name) (did_of reply) talk is
  ended_by k _ is = absurd (let no : false ≡ true = is in cc)

  -- a call to a session with some device, which isn't its end
  later_call : (k : ℕ) (d : List ℕ) (ask : DeviceAsk) → is_end (exchange_of ask reply) ≡ false → (k ≡ 1 → ⊥)
      → output_on k (talk_on name ((asks.Device d ask, reply) ∷ log)) ≡ output_on k talk
  later_call k d ask on other = later_at k (bytes_eq d name) (exchange_of ask reply) talk on other

  pub later_by : (k : ℕ) (ask : Ask) → ends_on name ask ≡ false → (k ≡ 1 → ⊥) → output_on k (talk_on name ((ask, reply) ∷ log)) ≡ output_on k talk
  later_by k (asks.Device d device_asks.End) is other = still_at k (bytes_eq d name) (did_of reply) talk is
  later_by k (asks.Device d ask) is other = later_call k d ask refl other
  later_by k _ is other = refl

-- a call to a session with some device that writes nothing
silent_call : (name : List ℕ) (log : Log) (d : List ℕ) (ask : DeviceAsk) (reply : Reply) → is_end (exchange_of ask reply) ≡ false
    → written_by (exchange_of ask reply) ≡ [] → output_on 1 (talk_on name ((asks.Device d ask, reply) ∷ log)) ≡ output_on 1 (talk_on name log)
silent_call name log d ask reply on none = silent_at (bytes_eq d name) (exchange_of ask reply) (talk_on name log) on none

wrote_by : (name : List ℕ) (log : Log) (d bytes : List ℕ) (reply : Reply)
    → output_on 1 (talk_on name ((asks.Device d (device_asks.Write bytes), reply) ∷ log))
    ≡ written_on name (asks.Device d (device_asks.Write bytes)) reply ++ output_on 1 (talk_on name log)
wrote_by name log d bytes replies.Done = written_at (bytes_eq d name) bytes (talk_on name log)
wrote_by name log d bytes (replies.Answer a) = unwritten (bytes_eq d name) bytes (replies.Answer a) (talk_on name log) refl
wrote_by name log d bytes replies.Limit = unwritten (bytes_eq d name) bytes replies.Limit (talk_on name log) refl
wrote_by name log d bytes replies.Got = unwritten (bytes_eq d name) bytes replies.Got (talk_on name log) refl
wrote_by name log d bytes replies.Late = unwritten (bytes_eq d name) bytes replies.Late (talk_on name log) refl
wrote_by name log d bytes replies.NoSession = unwritten (bytes_eq d name) bytes replies.NoSession (talk_on name log) refl
wrote_by name log d bytes replies.Failed = unwritten (bytes_eq d name) bytes replies.Failed (talk_on name log) refl
wrote_by name log d bytes replies.End = unwritten (bytes_eq d name) bytes replies.End (talk_on name log) refl
wrote_by name log d bytes (replies.Line l) = unwritten (bytes_eq d name) bytes (replies.Line l) (talk_on name log) refl
wrote_by name log d bytes (replies.Byte b) = unwritten (bytes_eq d name) bytes (replies.Byte b) (talk_on name log) refl
wrote_by name log d bytes (replies.Job j) = unwritten (bytes_eq d name) bytes (replies.Job j) (talk_on name log) refl
wrote_by name log d bytes (replies.Clash c) = unwritten (bytes_eq d name) bytes (replies.Clash c) (talk_on name log) refl

pub first_by : (name : List ℕ) (log : Log) (ask : Ask) (reply : Reply) → ends_on name ask ≡ false
    → output_on 1 (talk_on name ((ask, reply) ∷ log)) ≡ written_on name ask reply ++ output_on 1 (talk_on name log)
first_by name log (asks.Device d device_asks.End) reply is = still_at 1 (bytes_eq d name) (did_of reply) (talk_on name log) is
first_by name log (asks.Device d (device_asks.Write bytes)) reply is = wrote_by name log d bytes reply
first_by name log (asks.Device d ask) reply is = silent_call name log d ask reply refl refl
first_by name log _ reply is = refl
