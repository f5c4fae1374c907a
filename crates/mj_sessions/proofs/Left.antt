-- Sessions of which one was called and told nothing.
use Rattle.std.specs.Prelude.{◌⊎◌}
use Rattle.std.specs.Option.{is_some}
use Rattle.std.specs.Str.{bytes_eq}
use Rattle.std.proofs.Common.{◌≡◌, ℕ, List, [], ◌∷◌, Bool, true, false, Option, Some, None, refl, sym, ap, ◌∙◌, subst, inl, inr}
use Rattle.std.proofs.lemmas.Slice.Eq.{bytes_eq-Decides}
use Rattle.mj_dev.specs.declared.device.Did.TheVariants as did
use Rattle.mj_dev.specs.declared.device.Input.{Input}
use Rattle.mj_dev.specs.declared.device.Input.TheVariants as input
use Rattle.mj_dev.specs.declared.talk.Code.{Code}
use Rattle.mj_dev.specs.declared.talk.Code.TheVariants as codes
use Rattle.mj_dev.specs.Heard.{Heard, Lines, Bytes, Firsts, called, after_line}
use Rattle.mj_dev.specs.Talk.{Exchange, Begun, Written, LineRead, ByteRead, Ended, Exchanges, Talks, TalkStand, beginning, stand_of}
use Rattle.mj_sessions.specs.Events.{Log, talk_on}
use Rattle.mj_sessions.specs.Follow.{Follow, taken_by, open_talk}
use Rattle.mj_sessions.specs.Named.{Named, session_of, with_session, ComesOf, TalkLeaves, AreTold, AreLeft}
use Rattle.mj_sessions.proofs.Places.{session_with, session_other}
use Rattle.mj_sessions.proofs.There.{there_with}

-- the session, where its device keeps something else
abbrev keeping : ℕ → Heard → Heard
keeping n session = record session { inside = n }

-- ---- a talk leads to a session whatever its device keeps, since it tells nothing of that

Lines-keeping : (n : ℕ) (old new : Heard) (rest : Option (List ℕ)) (read : Input) → Lines old rest read new → Lines (keeping n old) rest read (keeping n new)
Lines-keeping n old new None (input.Line line) e = ap (keeping n) e
Lines-keeping n old new None input.End e = ap (keeping n) e
Lines-keeping n old new None input.NotYet e = ap (keeping n) e
Lines-keeping n old new None input.Failed e = ap (keeping n) e
Lines-keeping n old new None input.Memory e = ap (keeping n) e
Lines-keeping n old new (Some rest) (input.Line line) e = (e.0, ap (keeping n) e.1)
Lines-keeping n old new (Some rest) input.End e = absurd e
Lines-keeping n old new (Some rest) input.NotYet e = absurd e
Lines-keeping n old new (Some rest) input.Failed e = absurd e
Lines-keeping n old new (Some rest) input.Memory e = ap (keeping n) e

Firsts-keeping : (n : ℕ) (old new : Heard) (rest : List ℕ) (code : Code) → Firsts old rest code new → Firsts (keeping n old) rest code (keeping n new)
Firsts-keeping n old new [] code e = (e.0, ap (keeping n) e.1)
Firsts-keeping n old new (byte ∷ bytes) code e = (e.0, ap (keeping n) e.1)

Bytes-keeping : (n : ℕ) (old new : Heard) (rest : Option (List ℕ)) (code : Code) → Bytes old rest code new → Bytes (keeping n old) rest code (keeping n new)
Bytes-keeping n old new None (codes.Byte byte) e = (e.0, e.1, Firsts-keeping n (after_line (called old new) e.0) new e.0 (codes.Byte byte) e.2)
Bytes-keeping n old new None codes.End e = ap (keeping n) e
Bytes-keeping n old new None codes.NotYet e = ap (keeping n) e
Bytes-keeping n old new None codes.Failed e = ap (keeping n) e
Bytes-keeping n old new None codes.Memory e = ap (keeping n) e
Bytes-keeping n old new (Some rest) code e = Firsts-keeping n old new rest code e

Exchanges-keeping : (n : ℕ) (old new : Heard) (exchange : Exchange) → Exchanges old exchange new → Exchanges (keeping n old) exchange (keeping n new)
Exchanges-keeping n old new (Begun did.Done) e = ap (keeping n) e
Exchanges-keeping n old new (Begun did.Failed) e = ap (keeping n) e
Exchanges-keeping n old new (Begun did.Memory) e = ap (keeping n) e
Exchanges-keeping n old new (Written bytes did.Done) e = ap (keeping n) e
Exchanges-keeping n old new (Written bytes did.Failed) e = ap (keeping n) e
Exchanges-keeping n old new (Written bytes did.Memory) e = ap (keeping n) e
Exchanges-keeping n old new (LineRead read) e = Lines-keeping n old new old.rest read e
Exchanges-keeping n old new (ByteRead code) e = Bytes-keeping n old new old.rest code e
Exchanges-keeping n old new (Ended answer) e = absurd e

Talks-keeping : (n : ℕ) (old new : Heard) (talk : List Exchange) → Talks old talk new → Talks (keeping n old) talk (keeping n new)
Talks-keeping n old new [] e = ap (keeping n) e
Talks-keeping n old new (exchange ∷ talk) e = (keeping n e.0, e.1, Exchanges-keeping n old e.0 exchange e.2, Talks-keeping n e.0 new talk e.3)

comes_so : (talk : List Exchange) (s h : Heard) → h ≡ called s h → ComesOf talk s → ComesOf talk h
comes_so talk s h is came =
    let new = came.1 in
    let P : Heard → Type 0 = λ session. Talks (keeping h.inside came.0) talk session in (
      keeping h.inside came.0,
      record { rest = new.rest; state = new.state; cursor = new.cursor; failures = new.failures; taken = new.taken; given = new.given },
      subst P (sym is) (Talks-keeping h.inside came.0 s talk came.2),
    )

-- they are told of by the same log
leaves_so : (talk : List Exchange) (s : Named) (h : Heard) → h ≡ called s.session h → TalkLeaves talk (Some s) → TalkLeaves talk (Some (record s { session = h }))
leaves_so talk s h is at =
    let P : TalkStand → Type 0 = λ stand. Follow beginning talk stand in
    (subst P (sym (ap stand_of is)) at.0, ap (λ (k : Heard). k.taken) is ∙ at.1, comes_so (open_talk talk) s.session h is at.2)

pub left_told : (log : Log) (old new : List Named) → AreLeft old new → AreTold log old → AreTold log new
left_told log old new (inl same) told = let P : List Named → Type 0 = λ l. AreTold log l in subst P (sym same) told
left_told log old new (inr t) told =
    let P : List Named → Type 0 = λ l. AreTold log l in
    subst P (sym t.3.2) (λ name. at name (bytes_eq t.0 name) refl) where
      at : (name : List ℕ) (b : Bool) → bytes_eq t.0 name ≡ b → TalkLeaves (talk_on name log) (session_of name (with_session t.0 t.3.0 old))
      at name true same =
          let to : t.0 ≡ name = (bytes_eq-Decides t.0 name).0 same in
          let Q : Option Named → Type 0 = λ o. TalkLeaves (talk_on name log) o in
          let R : List ℕ → Type 0 = λ n. session_of n (with_session t.0 t.3.0 old) ≡ Some (record t.1 { session = t.3.0 }) in
          let before : session_of name old ≡ Some t.1 = ap (λ n. session_of n old) (sym to) ∙ t.2 in
          subst Q (sym (subst R to (session_with t.0 t.3.0 old t.1 t.2))) (leaves_so (talk_on name log) t.1 t.3.0 t.3.1 (subst Q before (told name)))
      at name false apart =
          let Q : Option Named → Type 0 = λ o. TalkLeaves (talk_on name log) o in
          subst Q (sym (session_other t.0 name t.3.0 old apart)) (told name)

-- and each is there still
pub left_there : (name : List ℕ) (old new : List Named) → AreLeft old new → is_some (session_of name new) ≡ is_some (session_of name old)
left_there name old new (inl same) = ap (λ l. is_some (session_of name l)) same
left_there name old new (inr t) = ap (λ l. is_some (session_of name l)) t.3.2 ∙ there_with t.0 name t.3.0 old
