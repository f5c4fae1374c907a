-- What a session answers to each call.
use Rattle.std.proofs.Common.{ℕ, Bool, true, false, List, [], ◌∷◌, Option, Some, None, ◌≡◌, ◌++◌, subst, refl, sym, ap, ◌∙◌, inl, inr}
use Rattle.std.specs.Prelude.{ℤ, ◌⊎◌}
use Rattle.mj_ask.specs.declared.ask.DeviceAsk.TheVariants as device_asks
use Rattle.mj_dev.specs.declared.device.Did.{Did}
use Rattle.mj_dev.specs.declared.device.Did.TheVariants as did
use Rattle.mj_dev.specs.declared.device.Input.{Input}
use Rattle.mj_dev.specs.declared.device.Input.TheVariants as input
use Rattle.mj_dev.specs.declared.talk.Code.{Code}
use Rattle.mj_dev.specs.declared.talk.Code.TheVariants as codes
use Rattle.mj_dev.specs.declared.talk.State.TheVariants as states
use Rattle.mj_dev.specs.Heard.{Heard, DeviceBegins, Writes, Lines, Bytes, called}
use Rattle.mj_dev.specs.Did.{IsAnswered}
use Rattle.mj_dev.specs.declared.talk.State.{State}
use Rattle.mj_dev.specs.Talk.{Exchange, Ended, Talks, FollowsProtocol, Allows, stand_of}
use Rattle.mj_ask.specs.Late.{is_timed_out}
use Rattle.mj_sessions.specs.Answers.{Hears, IsEnding, answer_to, answer_to_line, answer_to_byte}

module _ (old new : Heard) (usable : old.state ≡ states.Open) where
  pub begun : (late : Bool) (d : Did) → DeviceBegins old d new → Hears old device_asks.Begin late (answer_to d) new
  begun late did.Done e = (usable, e, refl, (λ q. cc))
  begun late did.Failed e = (usable, e, refl, (λ q. cc))
  begun late did.Memory e = (usable, e)

  pub wrote : (bytes : List ℕ) (late : Bool) (d : Did) → Writes old bytes d new → Hears old (device_asks.Write bytes) late (answer_to d) new
  wrote bytes late did.Done e = (usable, e, refl, (λ q. cc))
  wrote bytes late did.Failed e = (usable, e, refl, (λ q. cc))
  wrote bytes late did.Memory e = (usable, e)

  uncalled : new ≡ old → new ≡ called old new
  uncalled e = e ∙ ap (λ n. record old { inside = n }) (sym (ap (λ (h : Heard). h.inside) e))

  at_rest : (read : Input) (rest : Option (List ℕ)) → old.rest ≡ rest → Lines old rest read new → Lines old old.rest read new
  at_rest read rest is e = let P : Option (List ℕ) → Type 0 = λ r. Lines old r read new in subst P (sym is) e

  at_byte : (code : Code) (rest : Option (List ℕ)) → old.rest ≡ rest → Bytes old rest code new → Bytes old old.rest code new
  at_byte code rest is e = let P : Option (List ℕ) → Type 0 = λ r. Bytes old r code new in subst P (sym is) e

  line_waits : (timeout : Option ℤ) (late b : Bool) → is_timed_out timeout late ≡ b → old.rest ≡ None → new ≡ called old new
      → Hears old (device_asks.Line timeout) late (answer_to_line input.NotYet b) new
  line_waits timeout late false over rest e = (usable, tt, rest, over, e)
  line_waits None late true over rest e = absurd (let no : false ≡ true = over in cc)
  line_waits (Some t) late true over rest e = (usable, at_rest input.NotYet None rest e, refl, (λ q. over))

  line_at : (timeout : Option ℤ) (late : Bool) (rest : Option (List ℕ)) (read : Input) → old.rest ≡ rest → Lines old rest read new
      → Hears old (device_asks.Line timeout) late (answer_to_line read (is_timed_out timeout late)) new
  line_at timeout late rest (input.Line line) is e = (usable, at_rest (input.Line line) rest is e, refl, (λ q. cc))
  line_at timeout late rest input.End is e = (usable, at_rest (input.End) rest is e, refl, (λ q. cc))
  line_at timeout late None input.NotYet is e = line_waits timeout late (is_timed_out timeout late) refl is e
  line_at timeout late (Some r) input.NotYet is e = absurd e
  line_at timeout late rest input.Failed is e = (usable, at_rest (input.Failed) rest is e, refl, (λ q. cc))
  line_at timeout late None input.Memory is e = (usable, e)
  line_at timeout late (Some r) input.Memory is e = (usable, uncalled e)

  pub line_read : (timeout : Option ℤ) (late : Bool) (read : Input) → Lines old old.rest read new
      → Hears old (device_asks.Line timeout) late (answer_to_line read (is_timed_out timeout late)) new
  line_read timeout late read e = line_at timeout late old.rest read refl e

  byte_waits : (timeout : Option ℤ) (late b : Bool) → is_timed_out timeout late ≡ b → old.rest ≡ None → new ≡ called old new
      → Hears old (device_asks.Byte timeout) late (answer_to_byte codes.NotYet b) new
  byte_waits timeout late false over rest e = (usable, tt, rest, over, e)
  byte_waits None late true over rest e = absurd (let no : false ≡ true = over in cc)
  byte_waits (Some t) late true over rest e = (usable, at_byte codes.NotYet None rest e, refl, (λ q. over))

  byte_at : (timeout : Option ℤ) (late : Bool) (rest : Option (List ℕ)) (code : Code) → old.rest ≡ rest → Bytes old rest code new
      → Hears old (device_asks.Byte timeout) late (answer_to_byte code (is_timed_out timeout late)) new
  byte_at timeout late rest (codes.Byte b) is e = (usable, at_byte (codes.Byte b) rest is e, refl, (λ q. cc))
  byte_at timeout late rest codes.End is e = (usable, at_byte (codes.End) rest is e, refl, (λ q. cc))
  byte_at timeout late None codes.NotYet is e = byte_waits timeout late (is_timed_out timeout late) refl is e
  byte_at timeout late (Some []) codes.NotYet is e = absurd (let no : codes.NotYet ≡ codes.Byte 10 = e.0 in cc)
  byte_at timeout late (Some (x ∷ xs)) codes.NotYet is e = absurd (let no : codes.NotYet ≡ codes.Byte x = e.0 in cc)
  byte_at timeout late rest codes.Failed is e = (usable, at_byte (codes.Failed) rest is e, refl, (λ q. cc))
  byte_at timeout late None codes.Memory is e = (usable, e)
  byte_at timeout late (Some []) codes.Memory is e = absurd (let no : codes.Memory ≡ codes.Byte 10 = e.0 in cc)
  byte_at timeout late (Some (x ∷ xs)) codes.Memory is e = absurd (let no : codes.Memory ≡ codes.Byte x = e.0 in cc)

  pub byte_read : (timeout : Option ℤ) (late : Bool) (code : Code) → Bytes old old.rest code new
      → Hears old (device_asks.Byte timeout) late (answer_to_byte code (is_timed_out timeout late)) new
  byte_read timeout late code e = byte_at timeout late old.rest code refl e

-- a session that ends wasn't ended
pub ended : (h : Heard) (d : Did) → IsAnswered d
    → ((old : Heard) (talk : List Exchange) → Talks old talk h → FollowsProtocol (stand_of old) (talk ++ Ended d ∷ []) (record { rest = h.rest; state = states.Ended }))
    → IsEnding h (answer_to d)
ended h d answered goes =
    let step = goes h [] refl in
    let P : State → Type 0 = λ state. Allows (stand_of h) state (Ended d) step.0 in
    (λ is. let no : ⊥ = subst P is step.1 in no, told d answered) where
      told : (d : Did) → IsAnswered d → (answer_to d ≡ answer_to did.Done) ⊎ (answer_to d ≡ answer_to did.Failed)
      told did.Done a = inl refl
      told did.Failed a = inr refl
      told did.Memory a = absurd a
