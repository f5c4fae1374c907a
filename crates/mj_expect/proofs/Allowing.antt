-- One call more, where a talk may stand.
use Rattle.std.specs.Prelude.{◌⊎◌, ◌==◌, ◌||◌, T, nat_le, nat_lt, if◌then◌else◌, ⊤}
use Rattle.std.proofs.Common.{ℕ, suc, ◌+◌, ◌<◌, ◌≤◌, Bool, true, false, List, [], ◌∷◌, ◌++◌, Option, Some, None, ◌≡◌, length, refl, sym, ap, ◌∙◌, subst, inl, inr, arith, eqb→eq, eq-eqb}
use Rattle.mj_text.specs.declared.text.TheConstants.{TEXT_LIMIT}
use Rattle.mj_dev.specs.declared.device.Did.{Did}
use Rattle.mj_dev.specs.declared.device.Did.TheVariants as did
use Rattle.mj_dev.specs.declared.device.Input.{Input}
use Rattle.mj_dev.specs.declared.device.Input.TheVariants as input
use Rattle.mj_dev.specs.declared.talk.Code.{Code}
use Rattle.mj_dev.specs.declared.talk.Code.TheVariants as codes
use Rattle.mj_dev.specs.declared.talk.State.{State}
use Rattle.mj_dev.specs.declared.talk.State.TheVariants as states
use Rattle.mj_dev.specs.Did.{IsAnswered}
use Rattle.mj_dev.specs.Rest.{TakesOne}
use Rattle.mj_dev.specs.Talk.{Exchange, Begun, Written, LineRead, ByteRead, Ended, TalkStand, beginning, Allows, AllowsOpen, AllowsFailed, AllowsLine, AllowsByte, stand_after}
use Rattle.mj_sessions.specs.Follow.{stand_behind, Follow}
use Rattle.mj_sessions.proofs.Telling.{follow_on}
use Rattle.mj_expect.specs.declared.heed.Heed.{Heed}
use Rattle.mj_expect.specs.declared.heed.Heed.TheVariants as heeds
use Rattle.mj_expect.specs.Heeds.{IsLeft, MayStand, called, after_call, after_end, new_line, rest_line, new_byte, rest_byte, heed_after, AllFollow, IsHeed}

-- a talk may stand so, where the call was allowed
abbrev MayBe : Option Heed → TalkStand → Type 0
MayBe None s = ⊥
MayBe (Some h) s = MayStand h s

abbrev at_rest : Option (List ℕ) → TalkStand
at_rest rest = record { rest = rest; state = states.Open }

-- ---- where a call leads

-- a byte of a line leaves no more than what was left, less one
left_one : (line : List ℕ) (read code : ℕ) (rest : Option (List ℕ)) → length line + read ≤ TEXT_LIMIT → TakesOne line (codes.Byte code) rest → IsLeft (read + 1) (code == 10) rest
left_one [] read code rest le t =
    let ten : code ≡ 10 = let same : codes.Byte code ≡ codes.Byte 10 = t.0 in cc in
    let P : Option (List ℕ) → Type 0 = λ r. IsLeft (read + 1) (code == 10) r in
    subst P (sym t.1) (eq-eqb code 10 ten)
left_one (byte ∷ bytes) read code rest le t =
    let P : Option (List ℕ) → Type 0 = λ r. IsLeft (read + 1) (code == 10) r in
    let few : length bytes + (read + 1) ≤ TEXT_LIMIT = omega (arith, le) in
    subst P (sym t.1) few

-- and so also less one in all
left_first : (line : List ℕ) (read code : ℕ) (rest : Option (List ℕ)) → length line + read ≤ TEXT_LIMIT → TakesOne line (codes.Byte code) rest → IsLeft 1 (code == 10) rest
left_first line read code rest le t = left_one line 0 code rest (omega (arith, le)) t

same_at : (h : Heed) (s b : TalkStand) → b ≡ s → MayStand h s → MayStand h b
same_at h s b is m =
    let P : TalkStand → Type 0 = λ x. MayStand h x in
    subst P (sym is) m

failed_at : (s b : TalkStand) → b ≡ record s { state = states.Failed } → MayStand heeds.Failed b
failed_at s b is = ap (λ (x : TalkStand). x.state) is

only_called : (h : Heed) (s b : TalkStand) (answer : Did) → MayStand h s → b ≡ stand_after s answer → MayBe (called h answer) b
only_called h s b did.Done m is = same_at h s b is m
only_called h s b did.Failed m is = failed_at s b is
only_called h s b did.Memory m is = same_at h s b is m

only_end : (answer : Did) (b : TalkStand) → IsAnswered answer → MayBe (after_end answer) beginning
only_end did.Done b a = (refl, refl)
only_end did.Failed b a = (refl, refl)
only_end did.Memory b a = absurd a

only_new_line : (read : Input) (b : TalkStand) → AllowsLine beginning None read b → MayBe (new_line read) b
only_new_line (input.Line line) b is = same_at heeds.Quiet beginning b is (refl, refl)
only_new_line input.End b is = same_at heeds.Quiet beginning b is (refl, refl)
only_new_line input.NotYet b is = same_at heeds.Quiet beginning b is (refl, refl)
only_new_line input.Failed b is = failed_at beginning b is
only_new_line input.Memory b is = same_at heeds.Quiet beginning b is (refl, refl)

only_new_byte : (code : Code) (b : TalkStand) → AllowsByte beginning None code b → MayBe (new_byte code) b
only_new_byte (codes.Byte code) b a = (a.3, left_one a.0 0 code b.rest (let le = a.1 in omega (arith, le)) a.2)
only_new_byte codes.End b is = same_at heeds.Quiet beginning b is (refl, refl)
only_new_byte codes.NotYet b is = same_at heeds.Quiet beginning b is (refl, refl)
only_new_byte codes.Failed b is = failed_at beginning b is
only_new_byte codes.Memory b is = same_at heeds.Quiet beginning b is (refl, refl)

-- a line was begun, and may be over
only_over_line : (n : ℕ) (read : Input) (b : TalkStand) → AllowsLine beginning None read b → MayBe (rest_line n true read) b
only_over_line n (input.Line line) b is = same_at heeds.Quiet beginning b is (refl, refl)
only_over_line n input.End b is = same_at heeds.Quiet beginning b is (refl, refl)
only_over_line n input.NotYet b is = same_at heeds.Quiet beginning b is (refl, refl)
only_over_line n input.Failed b is = failed_at beginning b is
only_over_line n input.Memory b is = same_at (heeds.Rest n true) beginning b is (refl, refl)

-- something is left of it
fits_line : (over : Bool) (line rest : List ℕ) (n : ℕ) → line ≡ rest → length rest + n ≤ TEXT_LIMIT → (over || nat_le (length line + n) TEXT_LIMIT) ≡ true
fits_line true line rest n is le = refl
fits_line false line rest n is le =
    let few : length line + n ≤ TEXT_LIMIT = (let same : length line ≡ length rest = ap (λ l. length l) is in omega (arith, same, le)) in
    grind (arith, few)

only_rest_line : (n : ℕ) (over : Bool) (rest : List ℕ) (read : Input) (b : TalkStand) → length rest + n ≤ TEXT_LIMIT
    → AllowsLine (at_rest (Some rest)) (Some rest) read b → MayBe (rest_line n over read) b
only_rest_line n over rest (input.Line line) b le a =
    let fits = fits_line over line rest n a.0.0 le in
    subst (λ c. MayBe (if c then Some heeds.Quiet else None) b) (sym fits) (a.1, a.0.1)
only_rest_line n over rest input.End b le a = absurd a.0
only_rest_line n over rest input.NotYet b le a = absurd a.0
only_rest_line n over rest input.Failed b le a = absurd a.0
only_rest_line n over rest input.Memory b le a =
    let P : Option (List ℕ) → Type 0 = λ r. IsLeft n over r in
    (a.1, subst P (sym a.0) le)

no_code : (rest : List ℕ) (code : Code) (r : Option (List ℕ)) → ((byte : ℕ) → code ≡ codes.Byte byte → ⊥) → TakesOne rest code r → ⊥
no_code [] code r not t = not 10 t.0
no_code (byte ∷ bytes) code r not t = not byte t.0

-- where all bytes of a text were read, nothing is left but the end
only_one_more : (n code : ℕ) (rest : List ℕ) (b : TalkStand) (below : Bool) → nat_lt n TEXT_LIMIT ≡ below → length rest + n ≤ TEXT_LIMIT
    → TakesOne rest (codes.Byte code) b.rest → b.state ≡ states.Open
    → MayBe (if below then Some (heeds.Rest (n + 1) (code == 10)) else (if code == 10 then Some heeds.Quiet else None)) b
only_one_more n code rest b true is le t usable = (usable, left_one rest n code b.rest le t)
only_one_more n code [] b false is le t usable =
    let ten : code ≡ 10 = let same : codes.Byte code ≡ codes.Byte 10 = t.0 in cc in
    subst (λ c. MayBe (if c then Some heeds.Quiet else None) b) (sym (eq-eqb code 10 ten)) (usable, t.1)
only_one_more n code (byte ∷ bytes) b false is le t usable =
    let above : TEXT_LIMIT ≤ n = grind (arith, is) in
    absurd (omega (arith, le, above))

only_rest_byte : (n : ℕ) (over : Bool) (rest : List ℕ) (code : Code) (b : TalkStand) → length rest + n ≤ TEXT_LIMIT
    → AllowsByte (at_rest (Some rest)) (Some rest) code b → MayBe (rest_byte n over code) b
only_rest_byte n true rest (codes.Byte code) b le a = (a.1, left_first rest n code b.rest le a.0)
only_rest_byte n false rest (codes.Byte code) b le a = only_one_more n code rest b (nat_lt n TEXT_LIMIT) refl le a.0 a.1
only_rest_byte n over rest codes.End b le a = absurd (no_code rest codes.End b.rest (λ byte e. cc) a.0)
only_rest_byte n over rest codes.NotYet b le a = absurd (no_code rest codes.NotYet b.rest (λ byte e. cc) a.0)
only_rest_byte n over rest codes.Failed b le a = absurd (no_code rest codes.Failed b.rest (λ byte e. cc) a.0)
only_rest_byte n over rest codes.Memory b le a = absurd (no_code rest codes.Memory b.rest (λ byte e. cc) a.0)

-- a session that may be used
only_open : (h : Heed) (x : Exchange) (rest : Option (List ℕ)) (b : TalkStand) → MayStand h (at_rest rest) → AllowsOpen (at_rest rest) x b → MayBe (heed_after h x) (stand_behind x b)
only_open heeds.Quiet (Begun answer) rest b m a = only_called heeds.Quiet (at_rest rest) b answer m a
only_open heeds.Quiet (Written bytes answer) rest b m a = only_called heeds.Quiet (at_rest rest) b answer m a
only_open heeds.Quiet (LineRead read) None b m a = only_new_line read b a
only_open heeds.Quiet (LineRead read) (Some rest) b m a = absurd (let no : Some rest ≡ None = m.1 in cc)
only_open heeds.Quiet (ByteRead code) None b m a = only_new_byte code b a
only_open heeds.Quiet (ByteRead code) (Some rest) b m a = absurd (let no : Some rest ≡ None = m.1 in cc)
only_open heeds.Quiet (Ended answer) rest b m a = only_end answer b a.0
only_open (heeds.Rest n over) (Begun answer) rest b m a = only_called (heeds.Rest n over) (at_rest rest) b answer m a
only_open (heeds.Rest n over) (Written bytes answer) rest b m a = only_called (heeds.Rest n over) (at_rest rest) b answer m a
only_open (heeds.Rest n true) (LineRead read) None b m a = only_over_line n read b a
only_open (heeds.Rest n false) (LineRead read) None b m a = absurd (let no : false ≡ true = m.1 in cc)
only_open (heeds.Rest n over) (LineRead read) (Some rest) b m a = only_rest_line n over rest read b m.1 a
only_open (heeds.Rest n true) (ByteRead code) None b m a = only_new_byte code b a
only_open (heeds.Rest n false) (ByteRead code) None b m a = absurd (let no : false ≡ true = m.1 in cc)
only_open (heeds.Rest n over) (ByteRead code) (Some rest) b m a = only_rest_byte n over rest code b m.1 a
only_open (heeds.Rest n over) (Ended answer) rest b m a = only_end answer b a.0
only_open heeds.Failed x rest b m a = absurd (let no : states.Open ≡ states.Failed = m in cc)

only_failed : (h : Heed) (x : Exchange) (rest : Option (List ℕ)) (b : TalkStand) → MayStand h (record { rest = rest; state = states.Failed })
    → AllowsFailed (record { rest = rest; state = states.Failed }) x b → MayBe (heed_after h x) (stand_behind x b)
only_failed h (Begun answer) rest b m a = absurd a
only_failed h (Written bytes answer) rest b m a = absurd a
only_failed h (LineRead read) rest b m a = absurd a
only_failed h (ByteRead code) rest b m a = absurd a
only_failed h (Ended answer) rest b m a = only_end answer b a.0

only_step : (h : Heed) (x : Exchange) (rest : Option (List ℕ)) (state : State) (b : TalkStand) → MayStand h (record { rest = rest; state = state })
    → Allows (record { rest = rest; state = state }) state x b → MayBe (heed_after h x) (stand_behind x b)
only_step h x rest states.Open b m a = only_open h x rest b m a
only_step h x rest states.Failed b m a = only_failed h x rest b m a
only_step h x rest states.Ended b m a = absurd a

-- ---- and each place to which it may lead

-- the talk behind one call more, by what stood before
pub follow_back : (old new : TalkStand) (talk : List Exchange) (x : Exchange) → Follow old (talk ++ x ∷ []) new
    → (mid : TalkStand) × Follow old talk mid × ((between : TalkStand) × Allows mid mid.state x between × (new ≡ stand_behind x between))
follow_back old new [] x f = (old, refl, (f.0, f.1, f.2))
follow_back old new (y ∷ talk) x f =
    let rest = follow_back (stand_behind y f.0) new talk x f.2 in
    (rest.0, (f.0, f.1, rest.1), rest.2)

module _ (h : Heed) (talk : List Exchange) (x : Exchange) (is : IsHeed h talk) where
  abbrev more : List Exchange
  more = talk ++ x ∷ []

  abbrev Reached : TalkStand → Type 0
  Reached s = Follow beginning more s

  only_more : (s : TalkStand) → Reached s → MayBe (heed_after h x) s
  only_more s f =
      let back = follow_back beginning s talk x f in
      let P : TalkStand → Type 0 = λ t. MayBe (heed_after h x) t in
      subst P (sym back.2.2) (only_step h x back.0.rest back.0.state back.2.0 (is.only back.0 back.1) back.2.1)

  -- where no device may have answered so, the protocol doesn't allow it
  pub not_allowed : heed_after h x ≡ None → (s : TalkStand) → Reached s → ⊥
  not_allowed none s f =
      let P : Option Heed → Type 0 = λ o. MayBe o s in
      subst P none (only_more s f)

  only_so : (h' : Heed) → heed_after h x ≡ Some h' → (s : TalkStand) → Reached s → MayStand h' s
  only_so h' some s f =
      let P : Option Heed → Type 0 = λ o. MayBe o s in
      subst P some (only_more s f)

-- where a talk stands that is open and quiet
pub is_beginning : (s : TalkStand) → MayStand heeds.Quiet s → s ≡ beginning
is_beginning s m =
    let of : Option (List ℕ) → State → TalkStand = λ rest state. record { rest = rest; state = state } in
    ap (λ r. of r s.state) m.1 ∙ ap (of None) m.0

is_open : (s : TalkStand) (r : Option (List ℕ)) → s.state ≡ states.Open → s.rest ≡ r → s ≡ at_rest r
is_open s r usable rest =
    let of : Option (List ℕ) → State → TalkStand = λ rest state. record { rest = rest; state = state } in
    ap (λ x. of x s.state) rest ∙ ap (of r) usable

-- ---- each heed with what is reached by it

module _ (talk : List Exchange) where
  abbrev Stood : TalkStand → Type 0
  Stood s = Follow beginning talk s

  abbrev Next : Exchange → TalkStand → Type 0
  Next x s = Follow beginning (talk ++ x ∷ []) s

  -- one step of an usable session
  go : (x : Exchange) (rest : Option (List ℕ)) (b t : TalkStand) → Stood (at_rest rest) → AllowsOpen (at_rest rest) x b → t ≡ stand_behind x b → Next x t
  go x rest b t f a same =
      let P : TalkStand → Type 0 = λ y. Next x y in
      subst P (sym same) (follow_on beginning (at_rest rest) b talk x f a)

  -- what is reached: some stand, and all where it may stand
  abbrev Reach : Option Heed → Exchange → Type 0
  Reach None x = ⊤
  Reach (Some h) x = ((s : TalkStand) × Next x s) × AllFollow h (talk ++ x ∷ [])

  quiet_by : (x : Exchange) → Next x beginning → Reach (Some heeds.Quiet) x
  quiet_by x f = ((beginning, f), (λ s m. (let P : TalkStand → Type 0 = λ y. Next x y in subst P (sym (is_beginning s m)) f)))

  failed_by : (x : Exchange) (s : TalkStand) → Next x s → Reach (Some heeds.Failed) x
  failed_by x s f = ((s, f), tt)

  -- an ended session
  reach_end : (answer : Did) (s : TalkStand) → Stood s → (IsAnswered answer → Allows s s.state (Ended answer) (record s { state = states.Ended })) → Reach (after_end answer) (Ended answer)
  reach_end did.Done s f a = quiet_by (Ended did.Done) (follow_on beginning s (record s { state = states.Ended }) talk (Ended did.Done) f (a tt))
  reach_end did.Failed s f a = quiet_by (Ended did.Failed) (follow_on beginning s (record s { state = states.Ended }) talk (Ended did.Failed) f (a tt))
  reach_end did.Memory s f a = tt

  ends : (answer : Did) (s : TalkStand) (state : State) → (state ≡ states.Open) ⊎ (state ≡ states.Failed) → IsAnswered answer → Allows s state (Ended answer) (record s { state = states.Ended })
  ends answer s states.Open is a = (a, refl)
  ends answer s states.Failed is a = (a, refl)
  ends answer s states.Ended (inl is) a = absurd (let no : states.Ended ≡ states.Open = is in cc)
  ends answer s states.Ended (inr is) a = absurd (let no : states.Ended ≡ states.Failed = is in cc)

  -- a talk stands here once its first reading has failed
  abbrev failed_there : TalkStand
  failed_there = record beginning { state = states.Failed }

  -- a line is read at the beginning
  reach_new_line : (read : Input) → Stood beginning → Reach (new_line read) (LineRead read)
  reach_new_line (input.Line line) f = quiet_by (LineRead (input.Line line)) (go (LineRead (input.Line line)) None beginning beginning f refl refl)
  reach_new_line input.End f = quiet_by (LineRead input.End) (go (LineRead input.End) None beginning beginning f refl refl)
  reach_new_line input.NotYet f = quiet_by (LineRead input.NotYet) (go (LineRead input.NotYet) None beginning beginning f refl refl)
  reach_new_line input.Failed f = failed_by (LineRead input.Failed) failed_there (go (LineRead input.Failed) None failed_there failed_there f refl refl)
  reach_new_line input.Memory f = quiet_by (LineRead input.Memory) (go (LineRead input.Memory) None beginning beginning f refl refl)

  -- a byte's code is read at the beginning: all that may be left of a line
  new_byte_to : (code : ℕ) → Stood beginning → (rest : Option (List ℕ)) → IsLeft 1 (code == 10) rest → Next (ByteRead (codes.Byte code)) (at_rest rest)
  new_byte_to code f None over =
      let ten : code ≡ 10 = eqb→eq code 10 (subst T (sym over) tt) in
      go (ByteRead (codes.Byte code)) None (at_rest None) (at_rest None) f ([], (let le : 0 ≤ TEXT_LIMIT = omega arith in le), (ap codes.Byte ten, refl), refl) refl
  new_byte_to code f (Some rest) le =
      go (ByteRead (codes.Byte code)) None (at_rest (Some rest)) (at_rest (Some rest)) f
      (code ∷ rest, (let few : suc (length rest) ≤ TEXT_LIMIT = omega (arith, le) in few), (refl, refl), refl) refl

  all_rest : (x : Exchange) (n : ℕ) (over : Bool) → ((rest : Option (List ℕ)) → IsLeft n over rest → Next x (at_rest rest)) → AllFollow (heeds.Rest n over) (talk ++ x ∷ [])
  all_rest x n over by s m =
      let P : TalkStand → Type 0 = λ y. Next x y in
      subst P (sym (is_open s s.rest m.0 refl)) (by s.rest m.1)

  reach_new_byte : (code : Code) → Stood beginning → Reach (new_byte code) (ByteRead code)
  reach_new_byte (codes.Byte code) f = (
    (at_rest (Some []), new_byte_to code f (Some []) (let le : 0 + 1 ≤ TEXT_LIMIT = omega arith in le)),
    all_rest (ByteRead (codes.Byte code)) 1 (code == 10) (new_byte_to code f),
  )
  reach_new_byte codes.End f = quiet_by (ByteRead codes.End) (go (ByteRead codes.End) None beginning beginning f refl refl)
  reach_new_byte codes.NotYet f = quiet_by (ByteRead codes.NotYet) (go (ByteRead codes.NotYet) None beginning beginning f refl refl)
  reach_new_byte codes.Failed f = failed_by (ByteRead codes.Failed) failed_there (go (ByteRead codes.Failed) None failed_there failed_there f refl refl)
  reach_new_byte codes.Memory f = quiet_by (ByteRead codes.Memory) (go (ByteRead codes.Memory) None beginning beginning f refl refl)

  -- where a stand that is usable was reached
  stood_open : (s : TalkStand) → Stood s → s.state ≡ states.Open → Stood (at_rest s.rest)
  stood_open s f usable =
      let P : TalkStand → Type 0 = λ y. Stood y in
      subst P (is_open s s.rest usable refl) f

  -- a call that reads nothing
  module _ (x : Exchange) (answer : Did) (allowed : (s b : TalkStand) → s.state ≡ states.Open → b ≡ stand_after s answer → Allows s s.state x b)
      (still : (b : TalkStand) → stand_behind x b ≡ b) where
    step : (s b : TalkStand) → Stood s → s.state ≡ states.Open → b ≡ stand_after s answer → Next x b
    step s b f usable e =
        let P : TalkStand → Type 0 = λ y. Next x y in
        subst P (still b) (follow_on beginning s b talk x f (allowed s b usable e))

  reach_call : (x : Exchange) (answer : Did) → ((s b : TalkStand) → s.state ≡ states.Open → b ≡ stand_after s answer → Allows s s.state x b) → ((b : TalkStand) → stand_behind x b ≡ b)
      → (h : Heed) → IsHeed h talk → Reach (after_call h answer) x
  reach_call x did.Done allowed still heeds.Quiet is = quiet_by x (step x did.Done allowed still beginning beginning (is.all beginning (refl, refl)) refl refl)
  reach_call x did.Failed allowed still heeds.Quiet is =
      failed_by x (record beginning { state = states.Failed }) (step x did.Failed allowed still beginning (record beginning { state = states.Failed }) (is.all beginning (refl, refl)) refl refl)
  reach_call x did.Memory allowed still heeds.Quiet is = quiet_by x (step x did.Memory allowed still beginning beginning (is.all beginning (refl, refl)) refl refl)
  reach_call x did.Done allowed still (heeds.Rest n over) is =
      let s = is.some.0 in
      let f = is.some.1 in
      ((s, step x did.Done allowed still s s f (is.only s f).0 refl), (λ t m. step x did.Done allowed still t t (is.all t m) m.0 refl))
  reach_call x did.Failed allowed still (heeds.Rest n over) is =
      let s = is.some.0 in
      let f = is.some.1 in
      failed_by x (record s { state = states.Failed }) (step x did.Failed allowed still s (record s { state = states.Failed }) f (is.only s f).0 refl)
  reach_call x did.Memory allowed still (heeds.Rest n over) is =
      let s = is.some.0 in
      let f = is.some.1 in
      ((s, step x did.Memory allowed still s s f (is.only s f).0 refl), (λ t m. step x did.Memory allowed still t t (is.all t m) m.0 refl))
  reach_call x answer allowed still heeds.Failed is = tt

  -- where a line was begun
  module _ (n : ℕ) (over : Bool) (is : IsHeed (heeds.Rest n over) talk) where
    from_over : over ≡ true → Stood beginning
    from_over e = is.all beginning (refl, e)

    from_some : Stood (at_rest is.some.0.rest)
    from_some = stood_open is.some.0 is.some.1 (is.only is.some.0 is.some.1).0

    some_left : IsLeft n over is.some.0.rest
    some_left = (is.only is.some.0 is.some.1).1

    by_line : (line : List ℕ) (o : Bool) → over ≡ o → (fits : Bool) → nat_le (length line + n) TEXT_LIMIT ≡ fits
        → Reach (if o || fits then Some heeds.Quiet else None) (LineRead (input.Line line))
    by_line line true e fits le = quiet_by (LineRead (input.Line line)) (go (LineRead (input.Line line)) None beginning beginning (from_over e) refl refl)
    by_line line false e true le =
        let few : length line + n ≤ TEXT_LIMIT = grind (arith, le) in
        quiet_by (LineRead (input.Line line)) (go (LineRead (input.Line line)) (Some line) beginning beginning (is.all (at_rest (Some line)) (refl, few)) ((refl, refl), refl) refl)
    by_line line false e false le = tt

    if_over : (x : Exchange) (h : Heed) (o : Bool) → over ≡ o → (over ≡ true → Reach (Some h) x) → Reach (if o then Some h else None) x
    if_over x h true e by = by e
    if_over x h false e by = tt

    keeps_line : (rest : Option (List ℕ)) → AllowsOpen (at_rest rest) (LineRead input.Memory) (at_rest rest)
    keeps_line None = refl
    keeps_line (Some rest) = (refl, refl)

    reach_rest_line : (read : Input) → Reach (rest_line n over read) (LineRead read)
    reach_rest_line (input.Line line) = by_line line over refl (nat_le (length line + n) TEXT_LIMIT) refl
    reach_rest_line input.End = if_over (LineRead input.End) heeds.Quiet over refl (λ e. reach_new_line input.End (from_over e))
    reach_rest_line input.NotYet = if_over (LineRead input.NotYet) heeds.Quiet over refl (λ e. reach_new_line input.NotYet (from_over e))
    reach_rest_line input.Failed = if_over (LineRead input.Failed) heeds.Failed over refl (λ e. reach_new_line input.Failed (from_over e))
    reach_rest_line input.Memory =
        let x : Exchange = LineRead input.Memory in
        let r = is.some.0.rest in (
          (at_rest r, go x r (at_rest r) (at_rest r) from_some (keeps_line r) refl),
          all_rest x n over (λ rest left. go x rest (at_rest rest) (at_rest rest) (is.all (at_rest rest) (refl, left)) (keeps_line rest) refl),
        )

    -- what may be left behind one byte more
    more_to : (code : ℕ) → (0 + n ≤ TEXT_LIMIT) → (rest : Option (List ℕ)) → IsLeft (n + 1) (code == 10) rest → Next (ByteRead (codes.Byte code)) (at_rest rest)
    more_to code room None end =
        let ten : code ≡ 10 = eqb→eq code 10 (subst T (sym end) tt) in
        go (ByteRead (codes.Byte code)) (Some []) (at_rest None) (at_rest None) (is.all (at_rest (Some [])) (refl, room)) ((ap codes.Byte ten, refl), refl) refl
    more_to code room (Some rest) le =
        let few : suc (length rest) + n ≤ TEXT_LIMIT = omega (arith, le) in
        go (ByteRead (codes.Byte code)) (Some (code ∷ rest)) (at_rest (Some rest)) (at_rest (Some rest)) (is.all (at_rest (Some (code ∷ rest))) (refl, few)) ((refl, refl), refl) refl

    by_end : (code : ℕ) (e : Bool) → (code == 10) ≡ e → 0 + n ≤ TEXT_LIMIT → Reach (if e then Some heeds.Quiet else None) (ByteRead (codes.Byte code))
    by_end code true e room = quiet_by (ByteRead (codes.Byte code)) (more_to code room None e)
    by_end code false e room = tt

    -- where the line isn't over
    room_in : over ≡ false → (rest : Option (List ℕ)) → IsLeft n over rest → 0 + n ≤ TEXT_LIMIT
    room_in e None left = absurd (let no : true ≡ false = sym left ∙ e in cc)
    room_in e (Some rest) left = omega (arith, left)

    by_more : (code : ℕ) (below : Bool) → nat_lt n TEXT_LIMIT ≡ below → 0 + n ≤ TEXT_LIMIT
        → Reach (if below then Some (heeds.Rest (n + 1) (code == 10)) else (if code == 10 then Some heeds.Quiet else None)) (ByteRead (codes.Byte code))
    by_more code true e room =
        let fits : 0 + (n + 1) ≤ TEXT_LIMIT = (let lt : n < TEXT_LIMIT = grind (arith, e) in omega (arith, lt)) in
        ((at_rest (Some []), more_to code room (Some []) fits), all_rest (ByteRead (codes.Byte code)) (n + 1) (code == 10) (more_to code room))
    by_more code false e room = by_end code (code == 10) refl room

    reach_rest_byte : (code : Code) (o : Bool) → over ≡ o → Reach (rest_byte n o code) (ByteRead code)
    reach_rest_byte code true e = reach_new_byte code (from_over e)
    reach_rest_byte (codes.Byte code) false e = by_more code (nat_lt n TEXT_LIMIT) refl (room_in e is.some.0.rest some_left)
    reach_rest_byte codes.End false e = tt
    reach_rest_byte codes.NotYet false e = tt
    reach_rest_byte codes.Failed false e = tt
    reach_rest_byte codes.Memory false e = tt

  opened : (s : TalkStand) (x : Exchange) (b : TalkStand) → s.state ≡ states.Open → AllowsOpen s x b → Allows s s.state x b
  opened s x b usable a =
      let A : State → Type 0 = λ state. Allows s state x b in
      subst A (sym usable) a

  may_end : (h : Heed) (s : TalkStand) → MayStand h s → (s.state ≡ states.Open) ⊎ (s.state ≡ states.Failed)
  may_end heeds.Quiet s m = inl m.0
  may_end (heeds.Rest n over) s m = inl m.0
  may_end heeds.Failed s m = inr m

  reach : (h : Heed) (x : Exchange) → IsHeed h talk → Reach (heed_after h x) x
  reach h (Begun answer) is = reach_call (Begun answer) answer (λ s b usable e. opened s (Begun answer) b usable e) (λ b. refl) h is
  reach h (Written bytes answer) is = reach_call (Written bytes answer) answer (λ s b usable e. opened s (Written bytes answer) b usable e) (λ b. refl) h is
  reach heeds.Quiet (LineRead read) is = reach_new_line read (is.all beginning (refl, refl))
  reach (heeds.Rest n over) (LineRead read) is = reach_rest_line n over is read
  reach heeds.Failed (LineRead read) is = tt
  reach heeds.Quiet (ByteRead code) is = reach_new_byte code (is.all beginning (refl, refl))
  reach (heeds.Rest n over) (ByteRead code) is = reach_rest_byte n over is code over refl
  reach heeds.Failed (ByteRead code) is = tt
  reach h (Ended answer) is =
      let s = is.some.0 in
      reach_end answer s is.some.1 (ends answer s s.state (may_end h s (is.only s is.some.1)))

  -- what is known goes on
  pub heed_on : (h : Heed) (x : Exchange) → IsHeed h talk → (h' : Heed) → heed_after h x ≡ Some h' → IsHeed h' (talk ++ x ∷ [])
  heed_on h x is h' some =
      let P : Option Heed → Type 0 = λ o. Reach o x in
      let r = subst P some (reach h x is) in
      record { some = r.0; only = only_so h talk x is h' some; all = r.1 }
