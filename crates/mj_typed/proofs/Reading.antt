-- A line is read of a reader, byte by byte.
use Rattle.std.proofs.Common.{◌≡◌, ◌∙◌, ◌⊎◌, inl, inr, ◌+◌, ◌≤◌, ◌<◌, ◌==◌, suc, ℕ, Bool, true, false, cond, List, [], ◌∷◌, ◌++◌, length, take, drop, Option, Some, None, Result, Ok, Err, IfOk, OnErr, refl, sym, ap, subst, subst₂, append-nil, eqb-true, append_assoc, arith}
use Rattle.std.specs.Prelude.{IfSome, not, if◌then◌else◌}
use Rattle.std.specs.List.{position_or_len}
use Rattle.std.specs.Io.KnownBytes.{Consumes, Keeps, IsAtEnd, prepend_known}
use Rattle.std.specs.Io.Buffered.{reader_buffer, reader_capacity, reader_inner, reader_remaining}
use Rattle.std.specs.declared.io.buffered.BufReader.{BufReader}
use Rattle.mj_text.specs.declared.text.TheConstants.{TEXT_LIMIT}
use Rattle.mj_dev.specs.declared.device.Input.{Input}
use Rattle.mj_dev.specs.declared.device.Input.TheVariants as input
use Rattle.mj_dev.specs.Supply.{is_line_end, first_line, behind_line}
use Rattle.mj_typed.specs.Typed.{IsOfOneLine, begun_bytes, ahead_of, AreKept, IsReadUp, ReadsKnown, ReadsTyped}

-- ---- what is kept

pub kept_all : (known : Option (List ℕ)) → AreKept known known
kept_all None = tt
kept_all (Some bytes) = refl

pub kept_on : (a b c : Option (List ℕ)) → AreKept a b → AreKept b c → AreKept a c
kept_on None b c h k = tt
kept_on (Some x) b c h k = subst (λ (o : Option (List ℕ)). IfSome o (λ bytes. c ≡ Some bytes)) h k

-- the reader lost nothing
pub none_lost : (begun : List ℕ) (whole : Bool) (old new : Option (List ℕ)) → Keeps old new → AreKept (ahead_of begun whole old) (ahead_of begun whole new)
none_lost begun whole None new h = tt
none_lost begun whole (Some xs) None h = absurd h
none_lost begun whole (Some xs) (Some ys) h = ap (λ (l : List ℕ). Some (begun_bytes begun whole ++ l)) h

-- what it lost is the next byte of the line
pub byte_on : (begun : List ℕ) (byte : ℕ) (old new : Option (List ℕ)) → Consumes old new (byte ∷ [])
    → AreKept (ahead_of begun false old) (ahead_of (begun ++ byte ∷ []) false new)
byte_on begun byte None new h = tt
byte_on begun byte (Some xs) None h = absurd h
byte_on begun byte (Some xs) (Some ys) h =
    ap Some (ap (λ (l : List ℕ). l ++ ys) (append-nil (begun ++ byte ∷ [])) ∙ append_assoc begun (byte ∷ []) ys
    ∙ ap (λ (l : List ℕ). begun ++ l) (sym h) ∙ ap (λ (l : List ℕ). l ++ xs) (sym (append-nil begun)))

-- or its end
pub end_on : (begun : List ℕ) (old new : Option (List ℕ)) → Consumes old new (10 ∷ []) → AreKept (ahead_of begun false old) (ahead_of begun true new)
end_on begun None new h = tt
end_on begun (Some xs) None h = absurd h
end_on begun (Some xs) (Some ys) h =
    ap Some (append_assoc begun (10 ∷ []) ys ∙ ap (λ (l : List ℕ). begun ++ l) (sym h) ∙ ap (λ (l : List ℕ). l ++ xs) (sym (append-nil begun)))

pub consumed : {E : Type 0} (old new : Option (List ℕ)) (r : Result (Option ℕ) E) (read : Option ℕ) (byte : ℕ)
    → IfOk r (λ (o : Option ℕ). IfSome o (λ b. Consumes old new (b ∷ []))) → r ≡ Ok read → read ≡ Some byte → Consumes old new (byte ∷ [])
consumed {E = E} old new r read byte h is some =
    let P : Option ℕ → Type 0 = λ o. IfSome o (λ b. Consumes old new (b ∷ [])) in
    let Q : Result (Option ℕ) E → Type 0 = λ r. IfOk r P in
    subst P some (subst Q is h)

pub on_err : {A E P : Type 0} (r : Result A E) (e : E) → r ≡ Err e → OnErr r P → P
on_err {A = A} {E = E} {P = P} r e is h =
    let Q : Result A E → Type 0 = λ r. OnErr r P in
    subst Q is h

-- ---- where a line ends

behind : (b : Bool) (n m : ℕ) → cond (not b) (1 + n) 0 ≡ suc m → (b ≡ false) × (n ≡ m)
behind true n m h = absurd (omega (arith, h))
behind false n m h = (refl, omega (arith, h))

on : (b : Bool) (n m : ℕ) → b ≡ false → n ≡ m → cond (not b) (1 + n) 0 ≡ suc m
on true n m b e = absurd (let no : true ≡ false = b in cc)
on false n m b e = omega (arith, e)

pub one_line_on : (begun : List ℕ) (byte : ℕ) → IsOfOneLine begun → is_line_end byte ≡ false → IsOfOneLine (begun ++ byte ∷ [])
one_line_on [] byte h other = on (is_line_end byte) 0 0 other refl
one_line_on (b ∷ begun) byte h other =
    let split = behind (is_line_end b) (position_or_len is_line_end begun) (length begun) h in
    on (is_line_end b) (position_or_len is_line_end (begun ++ byte ∷ [])) (length (begun ++ byte ∷ [])) split.0 (one_line_on begun byte split.1 other)

pub ends_there : (begun rest : List ℕ) → IsOfOneLine begun → position_or_len is_line_end (begun ++ 10 ∷ rest) ≡ length begun
ends_there [] rest h = refl
ends_there (b ∷ begun) rest h =
    let split = behind (is_line_end b) (position_or_len is_line_end begun) (length begun) h in
    on (is_line_end b) (position_or_len is_line_end (begun ++ 10 ∷ rest)) (length begun) split.0 (ends_there begun rest split.1)

front : (xs ys : List ℕ) → take (length xs) (xs ++ ys) ≡ xs
front [] [] = refl
front [] (y ∷ ys) = refl
front (x ∷ xs) ys = ap (λ (l : List ℕ). x ∷ l) (front xs ys)

rear : (xs : List ℕ) (y : ℕ) (ys : List ℕ) → drop (suc (length xs)) (xs ++ y ∷ ys) ≡ ys
rear [] y ys = refl
rear (x ∷ xs) y ys = rear xs y ys

none_behind : (xs : List ℕ) → drop (suc (length xs)) xs ≡ []
none_behind [] = refl
none_behind (x ∷ xs) = none_behind xs

one_more : (n : ℕ) → n + 1 ≡ suc n
one_more n = omega arith

all_of : (xs : List ℕ) → take (length xs) xs ≡ xs
all_of [] = refl
all_of (x ∷ xs) = ap (λ (l : List ℕ). x ∷ l) (all_of xs)

-- ---- what is given

known : (a b : List ℕ) → Some a ≡ Some b → a ≡ b
known a b e = ap (λ (o : Option (List ℕ)). elim o as (λ _. List ℕ) [ None ↦ a | Some x ↦ x ]) e

nothing : (bytes : List ℕ) → None ≡ Some bytes → ⊥
nothing bytes e = cc

-- a line whose end was read
whole_line : (begun xs bytes : List ℕ) → IsOfOneLine begun → begun_bytes begun true ++ xs ≡ bytes → ReadsKnown bytes (input.Line begun) (ahead_of [] false (Some xs))
whole_line begun xs bytes one is =
    let at : begun ++ 10 ∷ xs ≡ bytes = sym (append_assoc begun (10 ∷ []) xs) ∙ is in
    subst (λ bytes. ReadsKnown bytes (input.Line begun) (ahead_of [] false (Some xs))) at (
      (λ none. some begun xs none),
      sym (ap (λ n. take n (begun ++ 10 ∷ xs)) (ends_there begun xs one) ∙ front begun (10 ∷ xs)),
      ap Some (sym (ap (λ n. drop n (begun ++ 10 ∷ xs)) (ap (λ n. n + 1) (ends_there begun xs one) ∙ one_more (length begun)) ∙ rear begun 10 xs)),
    )
  where
    some : (begun xs : List ℕ) → begun ++ 10 ∷ xs ≡ [] → ⊥
    some [] xs e = cc
    some (b ∷ begun) xs e = cc

-- the last, which lacks its end
last_line : (begun xs bytes : List ℕ) → IsOfOneLine begun → ((begun ≡ []) → ⊥) → xs ≡ [] → begun_bytes begun false ++ xs ≡ bytes
    → ReadsKnown bytes (input.Line begun) (ahead_of [] false (Some xs))
last_line begun xs bytes one some none is =
    let at : begun ≡ bytes = sym (ap (λ (l : List ℕ). (begun ++ []) ++ l) none ∙ append-nil (begun ++ []) ∙ append-nil begun) ∙ is in
    subst (λ bytes. ReadsKnown bytes (input.Line begun) (ahead_of [] false (Some xs))) at (
      some,
      sym (ap (λ n. take n begun) one ∙ all_of begun),
      ap Some (none ∙ sym (ap (λ n. drop n begun) (ap (λ n. n + 1) one ∙ one_more (length begun)) ∙ none_behind begun)),
    )

module _ (begun : List ℕ) (one : IsOfOneLine begun) where
  by_reader : (whole : Bool) (bytes : List ℕ) (left : Option (List ℕ)) → ahead_of begun whole left ≡ Some bytes → IsReadUp begun whole left → length begun ≤ TEXT_LIMIT
      → ((begun ≡ []) → whole ≡ false → ⊥) → ReadsKnown bytes (input.Line begun) (ahead_of [] false left)
  by_reader whole bytes None is up few some = absurd (nothing bytes is)
  by_reader true bytes (Some xs) is up few some = whole_line begun xs bytes one (known (begun_bytes begun true ++ xs) bytes is)
  by_reader false bytes (Some xs) is (inl never) few some = absurd (let e : false ≡ true = never in cc)
  by_reader false bytes (Some xs) is (inr (inl long)) few some = absurd (omega (arith, long, few))
  by_reader false bytes (Some xs) is (inr (inr none)) few some =
      last_line begun xs bytes one (λ e. some e refl) none (known (begun_bytes begun false ++ xs) bytes is)

  -- the line that was begun is given
  pub line_given : (whole : Bool) (old left : Option (List ℕ)) → AreKept old (ahead_of begun whole left) → IsReadUp begun whole left → length begun ≤ TEXT_LIMIT
      → ((begun ≡ []) → whole ≡ false → ⊥) → ReadsTyped old (input.Line begun) (ahead_of [] false left)
  line_given whole None left kept up few some = tt
  line_given whole (Some bytes) left kept up few some = by_reader whole bytes left kept up few some

-- the input has ended
pub none_given : (old left : Option (List ℕ)) → AreKept old (ahead_of [] false left) → IsReadUp [] false left → ReadsTyped old input.End (ahead_of [] false left)
none_given None left kept up = tt
none_given (Some bytes) None kept up = absurd (nothing bytes kept)
none_given (Some bytes) (Some xs) kept (inl never) = absurd (let e : false ≡ true = never in cc)
none_given (Some bytes) (Some xs) kept (inr (inl long)) = absurd (omega (arith, long))
none_given (Some bytes) (Some xs) kept (inr (inr none)) = let e : bytes ≡ [] = sym (known xs bytes kept) ∙ none in (e, ap Some none)

-- and so where nothing was begun
pub ended : (old left : Option (List ℕ)) (begun : List ℕ) (whole : Bool) → AreKept old (ahead_of begun whole left) → IsReadUp begun whole left → begun ≡ [] → whole ≡ false
    → ReadsTyped old input.End (ahead_of begun whole left)
ended old left begun whole kept up none unended =
    let P : List ℕ → Bool → Type 0 = λ b w. AreKept old (ahead_of b w left) → IsReadUp b w left → ReadsTyped old input.End (ahead_of b w left) in
    subst₂ P (sym none) (sym unended) (none_given old left) kept up

empty : (items : List ℕ) → length items ≡ 0 → items ≡ []
empty [] e = refl
empty (x ∷ items) e = absurd (let e : suc (length items) ≡ 0 = e in omega (arith, e))

-- bytes of which there are none, and bytes of which there are some
pub no_bytes : (items : List ℕ) (len : ℕ) → length items ≡ len → (len == 0) ≡ true → items ≡ []
no_bytes items len is none = empty items (is ∙ eqb-true len 0 none)

pub some_bytes : (items : List ℕ) (len : ℕ) → length items ≡ len → (len == 0) ≡ false → (items ≡ []) → ⊥
some_bytes items len is some none =
    let zero : len ≡ 0 = sym is ∙ ap length none in
    let e : true ≡ false = ap (λ n. n == 0) (sym zero) ∙ some in cc

pub other_byte : (byte : ℕ) → ((byte ≡ 10) → ⊥) → is_line_end byte ≡ false
other_byte byte is = by (byte == 10) refl
  where
    by : (b : Bool) → (byte == 10) ≡ b → (byte == 10) ≡ false
    by true e = absurd (is (eqb-true byte 10 e))
    by false e = e

-- it failed, or memory was refused: nothing is lost
pub failed : (old new : Option (List ℕ)) → AreKept old new → ReadsTyped old input.Failed new
failed None new kept = tt
failed (Some bytes) new kept = kept

pub refused : (old new : Option (List ℕ)) → AreKept old new → ReadsTyped old input.Memory new
refused None new kept = tt
refused (Some bytes) new kept = kept

-- ---- a new device

-- what a buffered reader of which nothing was read has left
pub unread : {T A : Type 0} (remaining : T → Option (List ℕ)) (r : BufReader T A) (reader : T) → reader_inner r ≡ reader → reader_buffer r ≡ [] → reader_capacity r ≡ 8192
    → reader_remaining remaining r ≡ prepend_known [] (remaining reader)
unread remaining r reader inner none capacity =
    ap (λ n. if n == 0 then None else prepend_known (reader_buffer r) (remaining (reader_inner r))) capacity
    ∙ ap (λ (l : List ℕ). prepend_known l (remaining (reader_inner r))) none ∙ ap (λ t. prepend_known [] (remaining t)) inner

pub none_begun : (known left : Option (List ℕ)) → left ≡ prepend_known [] known → AreKept known (ahead_of [] false left)
none_begun None left is = tt
none_begun (Some bytes) left is = ap (λ (l : Option (List ℕ)). ahead_of [] false l) is
