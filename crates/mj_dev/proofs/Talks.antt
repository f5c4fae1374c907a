-- What a talk writes, and that it obeys the protocol.
use Rattle.std.proofs.Common.{ℕ, List, [], ◌∷◌, ◌++◌, Option, Some, None, ◌≡◌, refl, sym, ap, subst, ◌∙◌, append_assoc, append-nil}
use Rattle.mj_dev.specs.declared.device.Did.{Did}
use Rattle.mj_dev.specs.declared.device.Did.TheVariants as did
use Rattle.mj_dev.specs.declared.device.Input.{Input}
use Rattle.mj_dev.specs.declared.device.Input.TheVariants as input
use Rattle.mj_dev.specs.declared.talk.State.{State}
use Rattle.mj_dev.specs.declared.talk.State.TheVariants as states
use Rattle.mj_dev.specs.declared.talk.Code.{Code}
use Rattle.mj_dev.specs.declared.talk.Code.TheVariants as codes
use Rattle.mj_dev.specs.Did.{IsAnswered}
use Rattle.mj_dev.specs.Rest.{TakesOne}
use Rattle.mj_dev.specs.Heard.{Heard, Lines, Bytes, Firsts, IsNew, IsFew, called, after_line}
use Rattle.mj_dev.specs.Talk.{Exchange, Begun, Written, LineRead, ByteRead, Ended, written_by, output_of, Exchanges, Talks, TalkStand, stand_of, AllowsOpen, AllowsLine, AllowsByte, Allows, FollowsProtocol, beginning, BeginsOnce, IsTalk}

-- reading a line writes nothing
Lines-taken : (old new : Heard) (rest : Option (List ℕ)) (read : Input) → Lines old rest read new → new.taken ≡ old.taken
Lines-taken old new None (input.Line line) e = ap (λ (h : Heard). h.taken) e
Lines-taken old new None input.End e = ap (λ (h : Heard). h.taken) e
Lines-taken old new None input.NotYet e = ap (λ (h : Heard). h.taken) e
Lines-taken old new None input.Failed e = ap (λ (h : Heard). h.taken) e
Lines-taken old new None input.Memory e = ap (λ (h : Heard). h.taken) e
Lines-taken old new (Some rest) (input.Line line) e = ap (λ (h : Heard). h.taken) e.1
Lines-taken old new (Some rest) input.End e = absurd e
Lines-taken old new (Some rest) input.NotYet e = absurd e
Lines-taken old new (Some rest) input.Failed e = absurd e
Lines-taken old new (Some rest) input.Memory e = ap (λ (h : Heard). h.taken) e

Firsts-taken : (old new : Heard) (rest : List ℕ) (code : Code) → Firsts old rest code new → new.taken ≡ old.taken
Firsts-taken old new [] code e = ap (λ (h : Heard). h.taken) e.1
Firsts-taken old new (byte ∷ bytes) code e = ap (λ (h : Heard). h.taken) e.1

-- reading a byte writes nothing
Bytes-taken : (old new : Heard) (rest : Option (List ℕ)) (code : Code) → Bytes old rest code new → new.taken ≡ old.taken
Bytes-taken old new None (codes.Byte byte) e = Firsts-taken (after_line (called old new) e.0) new e.0 (codes.Byte byte) e.2
Bytes-taken old new None codes.End e = ap (λ (h : Heard). h.taken) e
Bytes-taken old new None codes.NotYet e = ap (λ (h : Heard). h.taken) e
Bytes-taken old new None codes.Failed e = ap (λ (h : Heard). h.taken) e
Bytes-taken old new None codes.Memory e = ap (λ (h : Heard). h.taken) e
Bytes-taken old new (Some rest) code e = Firsts-taken old new rest code e

-- what one call writes
pub Exchanges-taken : (old new : Heard) (exchange : Exchange) → Exchanges old exchange new → new.taken ≡ old.taken ++ written_by exchange
Exchanges-taken old new (Begun did.Done) e = ap (λ (h : Heard). h.taken) e ∙ sym (append-nil old.taken)
Exchanges-taken old new (Begun did.Failed) e = ap (λ (h : Heard). h.taken) e ∙ sym (append-nil old.taken)
Exchanges-taken old new (Begun did.Memory) e = ap (λ (h : Heard). h.taken) e ∙ sym (append-nil old.taken)
Exchanges-taken old new (Written bytes did.Done) e = ap (λ (h : Heard). h.taken) e
Exchanges-taken old new (Written bytes did.Failed) e = ap (λ (h : Heard). h.taken) e ∙ sym (append-nil old.taken)
Exchanges-taken old new (Written bytes did.Memory) e = ap (λ (h : Heard). h.taken) e ∙ sym (append-nil old.taken)
Exchanges-taken old new (LineRead read) e = Lines-taken old new old.rest read e ∙ sym (append-nil old.taken)
Exchanges-taken old new (ByteRead code) e = Bytes-taken old new old.rest code e ∙ sym (append-nil old.taken)
Exchanges-taken old new (Ended answer) e = absurd e

-- the bytes that a device took grow by its talk's output
pub Talks-taken : (old new : Heard) (talk : List Exchange) → Talks old talk new → new.taken ≡ old.taken ++ output_of talk
Talks-taken old new [] e = ap (λ (h : Heard). h.taken) e ∙ sym (append-nil old.taken)
Talks-taken old new (exchange ∷ talk) e =
    Talks-taken e.0 new talk e.3
    ∙ ap (λ bytes. bytes ++ output_of talk) (Exchanges-taken old e.0 exchange e.2)
    ∙ append_assoc old.taken (written_by exchange) (output_of talk)

-- so from a new session on they are the output
pub Talks-output : (old new : Heard) (talk : List Exchange) → IsNew old → Talks old talk new → new.taken ≡ output_of talk
Talks-output old new talk fresh e = Talks-taken old new talk e ∙ ap (λ bytes. bytes ++ output_of talk) fresh.taken

Lines-allowed : (old new : Heard) (rest : Option (List ℕ)) (read : Input) → old.rest ≡ rest → Lines old rest read new → AllowsLine (stand_of old) rest read (stand_of new)
Lines-allowed old new None (input.Line line) at e = ap stand_of e
Lines-allowed old new None input.End at e = ap stand_of e
Lines-allowed old new None input.NotYet at e = ap stand_of e
Lines-allowed old new None input.Failed at e = ap stand_of e
Lines-allowed old new None input.Memory at e = ap stand_of e
Lines-allowed old new (Some rest) (input.Line line) at e = ((e.0, ap (λ (h : Heard). h.rest) e.1), ap (λ (h : Heard). h.state) e.1)
Lines-allowed old new (Some rest) input.End at e = absurd e
Lines-allowed old new (Some rest) input.NotYet at e = absurd e
Lines-allowed old new (Some rest) input.Failed at e = absurd e
Lines-allowed old new (Some rest) input.Memory at e = (ap (λ (h : Heard). h.rest) e ∙ at, ap (λ (h : Heard). h.state) e)

Firsts-allowed : (old new : Heard) (line : List ℕ) (code : Code) → Firsts old line code new → TakesOne line code new.rest × (new.state ≡ old.state)
Firsts-allowed old new [] code e = ((e.0, ap (λ (h : Heard). h.rest) e.1), ap (λ (h : Heard). h.state) e.1)
Firsts-allowed old new (byte ∷ bytes) code e = ((e.0, ap (λ (h : Heard). h.rest) e.1), ap (λ (h : Heard). h.state) e.1)

Bytes-allowed : (old new : Heard) (rest : Option (List ℕ)) (code : Code) → Bytes old rest code new → AllowsByte (stand_of old) rest code (stand_of new)
Bytes-allowed old new None (codes.Byte byte) e =
    let taken : TakesOne e.0 (codes.Byte byte) new.rest × (new.state ≡ old.state) = Firsts-allowed (after_line (called old new) e.0) new e.0 (codes.Byte byte) e.2 in
    (e.0, e.1, taken.0, taken.1)
Bytes-allowed old new None codes.End e = ap stand_of e
Bytes-allowed old new None codes.NotYet e = ap stand_of e
Bytes-allowed old new None codes.Failed e = ap stand_of e
Bytes-allowed old new None codes.Memory e = ap stand_of e
Bytes-allowed old new (Some rest) code e = Firsts-allowed old new rest code e

Exchanges-open : (old new : Heard) (exchange : Exchange) → Exchanges old exchange new → AllowsOpen (stand_of old) exchange (stand_of new)
Exchanges-open old new (Begun did.Done) e = ap stand_of e
Exchanges-open old new (Begun did.Failed) e = ap stand_of e
Exchanges-open old new (Begun did.Memory) e = ap stand_of e
Exchanges-open old new (Written bytes did.Done) e = ap stand_of e
Exchanges-open old new (Written bytes did.Failed) e = ap stand_of e
Exchanges-open old new (Written bytes did.Memory) e = ap stand_of e
Exchanges-open old new (LineRead read) e = Lines-allowed old new old.rest read refl e
Exchanges-open old new (ByteRead code) e = Bytes-allowed old new old.rest code e
Exchanges-open old new (Ended answer) e = absurd e

-- each call to a session is one that the protocol allows
pub Exchanges-allowed : (old new : Heard) (exchange : Exchange) → old.state ≡ states.Open → Exchanges old exchange new → Allows (stand_of old) old.state exchange (stand_of new)
Exchanges-allowed old new exchange usable e =
    let P : State → Type 0 = λ state. Allows (stand_of old) state exchange (stand_of new) in
    subst P (sym usable) (Exchanges-open old new exchange e)

-- so is a whole talk
pub Talks-go : (old new : Heard) (talk : List Exchange) → Talks old talk new → FollowsProtocol (stand_of old) talk (stand_of new)
Talks-go old new [] e = ap stand_of e
Talks-go old new (exchange ∷ talk) e = (stand_of e.0, Exchanges-allowed old e.0 exchange e.1 e.2, Talks-go e.0 new talk e.3)

-- ---- talks that follow one another

pub output_of-append : (talk later : List Exchange) → output_of (talk ++ later) ≡ output_of talk ++ output_of later
output_of-append [] later = refl
output_of-append (exchange ∷ talk) later =
    ap (λ bytes. written_by exchange ++ bytes) (output_of-append talk later) ∙ sym (append_assoc (written_by exchange) (output_of talk) (output_of later))

pub Talks-append : (old between new : Heard) (talk later : List Exchange) → Talks old talk between → Talks between later new → Talks old (talk ++ later) new
Talks-append old between new [] later e f = let P : Heard → Type 0 = λ session. Talks session later new in subst P e f
Talks-append old between new (exchange ∷ talk) later e f = (e.0, e.1, e.2, Talks-append e.0 between new talk later e.3 f)

pub Goes-append : (old between new : TalkStand) (talk later : List Exchange) → FollowsProtocol old talk between → FollowsProtocol between later new → FollowsProtocol old (talk ++ later) new
Goes-append old between new [] later e f = let P : TalkStand → Type 0 = λ stand. FollowsProtocol stand later new in subst P e f
Goes-append old between new (exchange ∷ talk) later e f = (e.0, e.1, Goes-append e.0 between new talk later e.2 f)

-- an end may follow wherever a session stands
end-allowed : (stand : TalkStand) (state : State) (failures : ℕ) (answer : Did) → IsFew state failures → IsAnswered answer → Allows stand state (Ended answer) (record stand { state = states.Ended })
end-allowed stand states.Open failures answer few answered = (answered, refl)
end-allowed stand states.Failed failures answer few answered = (answered, refl)
end-allowed stand states.Ended failures answer few answered = absurd few

-- a session's whole talk, with its end
pub Talks-end : (old new : Heard) (talk : List Exchange) (answer : Did) → IsFew new.state new.failures → IsAnswered answer → Talks old talk new
    → FollowsProtocol (stand_of old) (talk ++ Ended answer ∷ []) (record { rest = new.rest; state = states.Ended })
Talks-end old new talk answer few answered e =
    Goes-append (stand_of old) (stand_of new) (record { rest = new.rest; state = states.Ended }) talk (Ended answer ∷ []) (Talks-go old new talk e)
    (record { rest = new.rest; state = states.Ended }, end-allowed (stand_of new) new.state new.failures answer few answered, refl)

-- a new session's talk obeys the protocol, if its device is begun first and once
pub Talks-obey : (old new : Heard) (talk : List Exchange) → IsNew old → BeginsOnce talk → Talks old talk new → IsTalk talk
Talks-obey old new talk fresh begins e =
    let with_rest : Option (List ℕ) → TalkStand = λ rest. record { rest = rest; state = old.state } in
    let with_state : State → TalkStand = λ state. record { rest = None; state = state } in
    let from : stand_of old ≡ beginning = ap with_rest fresh.rest ∙ ap with_state fresh.state in
    let P : TalkStand → Type 0 = λ stand. FollowsProtocol stand talk (stand_of new) in
    (begins, stand_of new, subst P from (Talks-go old new talk e))
