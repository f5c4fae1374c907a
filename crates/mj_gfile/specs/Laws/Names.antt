-- A subscript, a list of them or a name in a listing is read as what it spells, and nothing else is read.
use Rattle.std.proofs.Common.{◌≡◌, ◌∙◌, ◌<◌, ℕ, zero, suc, Bool, true, false, not, cond, ◌&&◌, ◌||◌, eqb, eqb-true, List, [], ◌∷◌, ◌++◌, length, length-append, Option, Some, None, refl, sym, ap, subst, append_assoc, arith}
use Rattle.std.specs.Prelude.{nat_lt}
use Rattle.std.specs.List.{list_all}
use Rattle.std.specs.Char.{is_ascii_digit, is_ascii_alphabetic, is_ascii_alphanumeric}
use Rattle.std.specs.Str.{all_ascii_digits}
use Rattle.std.proofs.lemmas.Bool.Decides.{nat_tests}
use Rattle.mj_num.specs.Number.{is_canonic, is_magnitude}
use Rattle.mj_subs.specs.Name.{Name}
use Rattle.mj_nref.specs.Spelling.{is_filled, word_text}
use Rattle.mj_gfile.specs.Spelling.{is_any_word, quoted_bytes, listed_text, listed_subscript, listed_rest, listed_subscripts, listed_name}
use Rattle.mj_gfile.specs.Reading.{Whole, front_by, rest_by, is_number_byte, is_plain, plain_only, number_at, subscript_at, mark_at, marked, with_mark, item_at, listed, continued_by, subscripts_of, subscripts_at, is_word_byte, named, name_with, name_in, name_at, quoted_at}
use Rattle.mj_gfile.specs.Listing.{are_bytes}
use Rattle.mj_gfile.specs.Laws.Texts.{both_true, NoQuote, IsQuoted, quoted_at-quoted, quoted_at-IsQuoted}

-- ---- runs

not_true : (a : Bool) → not a ≡ true → a ≡ false
not_true true e = absurd cc
not_true false e = refl

-- the bytes don't begin with one that passes the test
abbrev pub Stops : (ℕ → Bool) → List ℕ → Type 0
Stops p [] = Unit {0}
Stops p (c ∷ cs) = p c ≡ false

module _ (p : ℕ → Bool) where
  front-rest : (bs : List ℕ) → bs ≡ front_by p bs ++ rest_by p bs
  front-rest [] = refl
  front-rest (c ∷ cs) = by (p c) (front-rest cs)
    where
      by : (b : Bool) → cs ≡ front_by p cs ++ rest_by p cs → c ∷ cs ≡ cond b (c ∷ front_by p cs) [] ++ cond b (rest_by p cs) (c ∷ cs)
      by true e = ap (λ l. c ∷ l) e
      by false e = refl

  front_by-all : (s r : List ℕ) → list_all p s ≡ true → Stops p r → front_by p (s ++ r) ≡ s
  front_by-all [] [] h m = refl
  front_by-all [] (c ∷ cs) h m = ap (λ b. cond b (c ∷ front_by p cs) []) m
  front_by-all (c ∷ s) r h m =
      let q = both_true (p c) (list_all p s) h in ap (λ b. cond b (c ∷ front_by p (s ++ r)) []) q.0 ∙ ap (λ l. c ∷ l) (front_by-all s r q.1 m)

  rest_by-all : (s r : List ℕ) → list_all p s ≡ true → Stops p r → rest_by p (s ++ r) ≡ r
  rest_by-all [] [] h m = refl
  rest_by-all [] (c ∷ cs) h m = ap (λ b. cond b (rest_by p cs) (c ∷ cs)) m
  rest_by-all (c ∷ s) r h m =
      let q = both_true (p c) (list_all p s) h in ap (λ b. cond b (rest_by p (s ++ r)) (c ∷ (s ++ r))) q.0 ∙ rest_by-all s r q.1 m

-- what one test passes, another passes
pub more_pass : (p q : ℕ → Bool) → ((c : ℕ) → p c ≡ true → q c ≡ true) → (s : List ℕ) → list_all p s ≡ true → list_all q s ≡ true
more_pass p q f [] h = refl
more_pass p q f (c ∷ s) h = let k = both_true (p c) (list_all p s) h in λ i. f c k.0 i && more_pass p q f s k.1 i

-- ---- which bytes stand in numbers

digit_number : (c : ℕ) → is_ascii_digit c ≡ true → is_number_byte c ≡ true
digit_number c h = ap (λ b. b || eqb c 45) h

number_small : (c : ℕ) → is_number_byte c ≡ true → nat_lt c 256 ≡ true
number_small c h = grind (arith, nat_tests)

number_no_quote : (c : ℕ) → is_number_byte c ≡ true → eqb c 34 ≡ false
number_no_quote c h = grind (arith, nat_tests)

-- a canonic text has a byte, and its bytes are those of numbers
record IsClear (s : List ℕ) : Type 0 where
  some_byte : is_filled s ≡ true
  numbers : list_all is_number_byte s ≡ true

magnitude_clear : (s : List ℕ) → is_magnitude s ≡ true → IsClear s
magnitude_clear [] h = absurd cc
magnitude_clear (c ∷ cs) h =
    let digits = (both_true (not (eqb c 48)) (all_ascii_digits (c ∷ cs)) (both_true (not (eqb c 48) && all_ascii_digits (c ∷ cs)) (nat_lt (length cs) 18) h).0).1 in
    record { some_byte = refl; numbers = more_pass is_ascii_digit is_number_byte digit_number (c ∷ cs) digits }

zero_clear : (c : ℕ) (cs : List ℕ) → c ≡ 48 → eqb (length cs) 0 ≡ true → IsClear (c ∷ cs)
zero_clear c (d ∷ cs) e h = absurd (let n = eqb-true (length (d ∷ cs)) 0 h in omega arith)
zero_clear c [] e h = subst (λ x. IsClear (x ∷ [])) (sym e) (record { some_byte = refl; numbers = refl })

minus_clear : (c : ℕ) (cs : List ℕ) → c ≡ 45 → IsClear cs → IsClear (c ∷ cs)
minus_clear c cs e k = subst (λ x. IsClear (x ∷ cs)) (sym e) (record { some_byte = refl; numbers = k.numbers })

canonic_clear : (s : List ℕ) → is_canonic s ≡ true → IsClear s
canonic_clear [] h = absurd cc
canonic_clear (c ∷ cs) h = by (eqb c 48) (eqb c 45) (eqb-true c 48) (eqb-true c 45) h
  where
    by : (a b : Bool) → (a ≡ true → c ≡ 48) → (b ≡ true → c ≡ 45) → cond a (eqb (length cs) 0) (cond b (is_magnitude cs) (is_magnitude (c ∷ cs))) ≡ true → IsClear (c ∷ cs)
    by true b p q k = zero_clear c cs (p refl) k
    by false true p q k = minus_clear c cs (q refl) (magnitude_clear cs k)
    by false false p q k = magnitude_clear (c ∷ cs) k

pub canonic_numbers : (s : List ℕ) → is_canonic s ≡ true → list_all is_number_byte s ≡ true
canonic_numbers s h = (canonic_clear s h).numbers

canonic_bytes : (s : List ℕ) → is_canonic s ≡ true → are_bytes s ≡ true
canonic_bytes s h = more_pass is_number_byte (λ c. nat_lt c 256) number_small s (canonic_numbers s h)

-- ---- one subscript

-- a subscript that can be spelled
pub record IsSub (s : List ℕ) : Type 0 where
  pub filled : is_filled s ≡ true
  pub bytes : are_bytes s ≡ true

spelled : Bool → List ℕ → List ℕ
spelled b s = cond b s (listed_text s)

bare_read : (s r : List ℕ) → is_canonic s ≡ true → Stops is_number_byte r → subscript_at (s ++ r) ≡ Some (s, r)
bare_read [] r h m = absurd cc
bare_read (c ∷ cs) r h m =
    let all = canonic_numbers (c ∷ cs) h in
    let f = front_by-all is_number_byte (c ∷ cs) r all m in
    let t = rest_by-all is_number_byte (c ∷ cs) r all m in
    ap (λ b. cond b (plain_only (quoted_at Whole (cs ++ r))) (number_at (c ∷ (cs ++ r)))) (number_no_quote c (both_true (is_number_byte c) (list_all is_number_byte cs) all).0)
    ∙ (λ i. cond (is_canonic (f i)) (Some (f i, t i)) None) ∙ ap (λ b. cond b (Some (c ∷ cs, r)) None) h

plain_read : (s r : List ℕ) → is_canonic s ≡ false → is_filled s ≡ true → plain_only (Some (s, r)) ≡ Some (s, r)
plain_read [] r h f = absurd cc
plain_read (c ∷ cs) r h f = ap (λ b. cond (not b) (Some (c ∷ cs, r)) None) h

quoted_read : (s r : List ℕ) → is_canonic s ≡ false → IsSub s → NoQuote r → subscript_at (listed_text s ++ r) ≡ Some (s, r)
quoted_read s r h k q =
    ap (λ l. plain_only (quoted_at Whole l)) (append_assoc (quoted_bytes s) (34 ∷ []) r) ∙ ap plain_only (quoted_at-quoted s r k.bytes q) ∙ plain_read s r h k.filled

-- a spelled subscript is read
pub subscript_at-listed : (s r : List ℕ) → IsSub s → Stops is_number_byte r → NoQuote r → subscript_at (listed_subscript s ++ r) ≡ Some (s, r)
unfolding spelled
subscript_at-listed s r k m q = by (is_canonic s) refl
  where
    by : (b : Bool) → is_canonic s ≡ b → subscript_at (cond b s (listed_text s) ++ r) ≡ Some (s, r)
    by true h = bare_read s r h m
    by false h = quoted_read s r h k q

-- what a reading of a subscript says of the bytes
abbrev pub IsSubscriptAt : List ℕ → Option (List ℕ × List ℕ) → Type 0
IsSubscriptAt bs None = Unit {0}
IsSubscriptAt bs (Some p) = (bs ≡ listed_subscript p.0 ++ p.1) × IsSub p.0

plain_parts : (s : List ℕ) → is_plain s ≡ true → (is_canonic s ≡ false) × (is_filled s ≡ true)
plain_parts [] h = absurd cc
plain_parts (c ∷ cs) h = (not_true (is_canonic (c ∷ cs)) h, refl)

plain_spelled : (cs : List ℕ) (o : Option (List ℕ × List ℕ)) → IsQuoted cs o → IsSubscriptAt (34 ∷ cs) (plain_only o)
plain_spelled cs None h = tt
plain_spelled cs (Some p) h = by (is_plain p.0) refl
  where
    by : (b : Bool) → is_plain p.0 ≡ b → IsSubscriptAt (34 ∷ cs) (cond b (Some p) None)
    by false e = tt
    by true e =
        let k = plain_parts p.0 e in
        (ap (λ l. 34 ∷ l) (h.0 ∙ sym (append_assoc (quoted_bytes p.0) (34 ∷ []) p.1)) ∙ ap (λ b. cond b p.0 (listed_text p.0) ++ p.1) (sym k.0), record { filled = k.1; bytes = h.1 })

bare_spelled : (bs : List ℕ) (b : Bool) → is_canonic (front_by is_number_byte bs) ≡ b → IsSubscriptAt bs (cond b (Some (front_by is_number_byte bs, rest_by is_number_byte bs)) None)
bare_spelled bs false e = tt
bare_spelled bs true e = (
  front-rest is_number_byte bs ∙ ap (λ b. cond b (front_by is_number_byte bs) (listed_text (front_by is_number_byte bs)) ++ rest_by is_number_byte bs) (sym e),
  record { filled = (canonic_clear (front_by is_number_byte bs) e).some_byte; bytes = canonic_bytes (front_by is_number_byte bs) e },
)

-- what is read is a spelled subscript
pub subscript_at-IsSubscriptAt : (bs : List ℕ) → IsSubscriptAt bs (subscript_at bs)
subscript_at-IsSubscriptAt [] = tt
subscript_at-IsSubscriptAt (c ∷ cs) = by (eqb c 34) refl
  where
    by : (b : Bool) → eqb c 34 ≡ b → IsSubscriptAt (c ∷ cs) (cond b (plain_only (quoted_at Whole cs)) (number_at (c ∷ cs)))
    by true e = subst (λ d. IsSubscriptAt (d ∷ cs) (plain_only (quoted_at Whole cs))) (sym (eqb-true c 34 e)) (plain_spelled cs (quoted_at Whole cs) (quoted_at-IsQuoted cs))
    by false e = bare_spelled (c ∷ cs) (is_canonic (front_by is_number_byte (c ∷ cs))) refl

-- ---- lists of subscripts

-- the mark behind a subscript
abbrev mark : Bool → ℕ
mark true = 44
mark false = 41

item_at-listed : (s : List ℕ) (more : Bool) (cs : List ℕ) → IsSub s → item_at (listed_subscript s ++ mark more ∷ cs) ≡ Some (s, more, cs)
item_at-listed s true cs k = ap with_mark (subscript_at-listed s (44 ∷ cs) k refl refl)
item_at-listed s false cs k = ap with_mark (subscript_at-listed s (41 ∷ cs) k refl refl)

abbrev IsItem : List ℕ → Option (List ℕ × Bool × List ℕ) → Type 0
IsItem bs None = Unit {0}
IsItem bs (Some p) = (bs ≡ listed_subscript p.0 ++ mark p.1 ∷ p.2) × IsSub p.0

marked_item : (bs s t : List ℕ) → bs ≡ listed_subscript s ++ t → IsSub s → IsItem bs (marked s (mark_at t))
marked_item bs s [] e k = tt
marked_item bs s (c ∷ cs) e k = by (eqb c 44) refl (eqb c 41) refl
  where
    by : (a : Bool) → eqb c 44 ≡ a → (b : Bool) → eqb c 41 ≡ b → IsItem bs (marked s (cond a (Some (true, cs)) (cond b (Some (false, cs)) None)))
    by true p b q = (e ∙ ap (λ d. listed_subscript s ++ d ∷ cs) (eqb-true c 44 p), k)
    by false p true q = (e ∙ ap (λ d. listed_subscript s ++ d ∷ cs) (eqb-true c 41 q), k)
    by false p false q = tt

item_at-IsItem : (bs : List ℕ) → IsItem bs (item_at bs)
item_at-IsItem bs = by (subscript_at bs) (subscript_at-IsSubscriptAt bs)
  where
    by : (o : Option (List ℕ × List ℕ)) → IsSubscriptAt bs o → IsItem bs (with_mark o)
    by None h = tt
    by (Some p) h = marked_item bs p.0 p.1 h.0 h.1

-- each of the subscripts can be spelled
abbrev pub AreSubs : List (List ℕ) → Type 0
AreSubs [] = Unit {0}
AreSubs (s ∷ ss) = IsSub s × AreSubs ss

-- a spelled list is read
subscripts_of-listed : (k : ℕ) (s : List ℕ) (ss : List (List ℕ)) (r : List ℕ) → length ss < k → IsSub s → AreSubs ss → subscripts_of k (listed_subscript s ++ (listed_rest ss ++ r)) ≡ Some (s ∷ ss, r)
unfolding subscripts_of
subscripts_of-listed zero s ss r few f fs = absurd (omega arith)
subscripts_of-listed (suc k) s [] r few f fs = ap (continued_by (subscripts_of k)) (item_at-listed s false r f)
subscripts_of-listed (suc k) s (t ∷ ts) r few f fs =
    ap (λ l. continued_by (subscripts_of k) (item_at (listed_subscript s ++ 44 ∷ l))) (append_assoc (listed_subscript t) (listed_rest ts) r)
    ∙ ap (continued_by (subscripts_of k)) (item_at-listed s true (listed_subscript t ++ (listed_rest ts ++ r)) f)
    ∙ ap (listed s) (subscripts_of-listed k t ts r (omega arith) fs.0 fs.1)

rest_longer : (ss : List (List ℕ)) → length ss < length (listed_rest ss)
rest_longer [] = omega arith
rest_longer (s ∷ ss) = omega (arith, rest_longer ss, length-append (listed_subscript s) (listed_rest ss))

pub subscripts_at-listed : (s : List ℕ) (ss : List (List ℕ)) (r : List ℕ) → IsSub s → AreSubs ss → subscripts_at ((listed_subscript s ++ listed_rest ss) ++ r) ≡ Some (s ∷ ss, r)
subscripts_at-listed s ss r f fs =
    ap (λ l. subscripts_of (length ((listed_subscript s ++ listed_rest ss) ++ r)) l) (append_assoc (listed_subscript s) (listed_rest ss) r)
    ∙ subscripts_of-listed (length ((listed_subscript s ++ listed_rest ss) ++ r)) s ss r
    (omega (arith, rest_longer ss, length-append (listed_subscript s ++ listed_rest ss) r, length-append (listed_subscript s) (listed_rest ss))) f fs

-- what a reading of a list says of the bytes
abbrev pub IsListed : List ℕ → Option (List (List ℕ) × List ℕ) → Type 0
IsListed bs None = Unit {0}
IsListed bs (Some ([], r)) = ⊥
IsListed bs (Some (s ∷ ss, r)) = (bs ≡ (listed_subscript s ++ listed_rest ss) ++ r) × AreSubs (s ∷ ss)

one_more : (bs s cs : List ℕ) (o : Option (List (List ℕ) × List ℕ)) → bs ≡ listed_subscript s ++ 44 ∷ cs → IsSub s → IsListed cs o → IsListed bs (listed s o)
one_more bs s cs None e f h = tt
one_more bs s cs (Some ([], r)) e f h = absurd h
one_more bs s cs (Some (t ∷ ts, r)) e f h =
    (e ∙ ap (λ l. listed_subscript s ++ 44 ∷ l) h.0 ∙ sym (append_assoc (listed_subscript s) (44 ∷ (listed_subscript t ++ listed_rest ts)) r), (f, h.1))

-- what is read is a spelled list
subscripts_of-IsListed : (k : ℕ) (bs : List ℕ) → IsListed bs (subscripts_of k bs)
unfolding subscripts_of
subscripts_of-IsListed zero bs = tt
subscripts_of-IsListed (suc k) bs = listed_by bs (subscripts_of k) (subscripts_of-IsListed k) (item_at bs) (item_at-IsItem bs)
  where
    listed_by : (bs : List ℕ) (more : List ℕ → Option (List (List ℕ) × List ℕ)) → ((cs : List ℕ) → IsListed cs (more cs)) → (o : Option (List ℕ × Bool × List ℕ)) → IsItem bs o
        → IsListed bs (continued_by more o)
    listed_by bs more rec None h = tt
    listed_by bs more rec (Some (s, false, cs)) h = (h.0 ∙ sym (append_assoc (listed_subscript s) (41 ∷ []) cs), (h.1, tt))
    listed_by bs more rec (Some (s, true, cs)) h = one_more bs s cs (more cs) h.0 h.1 (rec cs)

-- what is read is a spelled list
pub subscripts_at-IsListed : (bs : List ℕ) → IsListed bs (subscripts_at bs)
subscripts_at-IsListed bs = subscripts_of-IsListed (length bs) bs

-- ---- names

word_bytes : (w : List ℕ) → is_any_word w ≡ true → list_all is_word_byte w ≡ true
word_bytes [] h = absurd cc
word_bytes (c ∷ cs) h =
    let p = both_true (is_ascii_alphabetic c || eqb c 37) (list_all is_ascii_alphanumeric cs) h in
    λ i. head c p.0 i && more_pass is_ascii_alphanumeric is_word_byte other cs p.1 i
  where
    head : (d : ℕ) → (is_ascii_alphabetic d || eqb d 37) ≡ true → is_word_byte d ≡ true
    head d e = grind (arith, nat_tests)

    other : (d : ℕ) → is_ascii_alphanumeric d ≡ true → is_word_byte d ≡ true
    other d e = ap (λ b. b || eqb d 37) e

-- the name of this kind with this word and these subscripts
abbrev made : Bool → List ℕ → List (List ℕ) → Name
made g w ss = record { global = g; word = w; subscripts = ss }

-- the bytes don't go on with a word or a list of subscripts
abbrev pub Ends : List ℕ → Type 0
Ends [] = Unit {0}
Ends (c ∷ cs) = (is_word_byte c ≡ false) × (eqb c 40 ≡ false)

Stops-subscripts : (ss : List (List ℕ)) (r : List ℕ) → Ends r → Stops is_word_byte (listed_subscripts ss ++ r)
Stops-subscripts [] [] e = tt
Stops-subscripts [] (c ∷ cs) e = e.0
Stops-subscripts (s ∷ ss) r e = refl

list_read : (g : Bool) (w : List ℕ) (ss : List (List ℕ)) (r : List ℕ) → AreSubs ss → Ends r → name_with g w (listed_subscripts ss ++ r) ≡ Some (made g w ss, r)
list_read g w [] [] f e = refl
list_read g w [] (c ∷ cs) f e = ap (λ b. cond b (named g w (subscripts_at cs)) (named g w (Some ([], c ∷ cs)))) e.1
list_read g w (s ∷ ss) r f e = ap (named g w) (subscripts_at-listed s ss r f.0 f.1)

-- a spelled name is read, where neither its word nor a list of subscripts goes on
pub name_in-listed : (g : Bool) (w : List ℕ) (ss : List (List ℕ)) (r : List ℕ) → is_any_word w ≡ true → AreSubs ss → Ends r → name_in g (w ++ (listed_subscripts ss ++ r)) ≡ Some (made g w ss, r)
name_in-listed g w ss r h f e =
    let all = word_bytes w h in
    let front = front_by-all is_word_byte w (listed_subscripts ss ++ r) all (Stops-subscripts ss r e) in
    let rest = rest_by-all is_word_byte w (listed_subscripts ss ++ r) all (Stops-subscripts ss r e) in
    (λ i. cond (is_any_word (front i)) (name_with g (front i) (rest i)) None) ∙ ap (λ b. cond b (name_with g w (listed_subscripts ss ++ r)) None) h ∙ list_read g w ss r f e

no_caret : (c : ℕ) → (is_ascii_alphabetic c || eqb c 37) ≡ true → eqb c 94 ≡ false
no_caret c h = grind (arith, nat_tests)

kind_read : (g : Bool) (w : List ℕ) (ss : List (List ℕ)) (r : List ℕ) → is_any_word w ≡ true → AreSubs ss → Ends r → name_at (word_text g w ++ (listed_subscripts ss ++ r)) ≡ Some (made g w ss, r)
kind_read true w ss r h f e = name_in-listed true w ss r h f e
kind_read false [] ss r h f e = absurd cc
kind_read false (c ∷ cs) ss r h f e =
    ap (λ b. cond b (name_in true (cs ++ (listed_subscripts ss ++ r))) (name_in false (c ∷ (cs ++ (listed_subscripts ss ++ r)))))
    (no_caret c (both_true (is_ascii_alphabetic c || eqb c 37) (list_all is_ascii_alphanumeric cs) h).0)
    ∙ name_in-listed false (c ∷ cs) ss r h f e

-- what is read of a listed name of either kind
pub name_at-listed : (n : Name) (r : List ℕ) → is_any_word n.word ≡ true → AreSubs n.subscripts → Ends r → name_at (listed_name n ++ r) ≡ Some (n, r)
name_at-listed n r h f e = ap name_at (append_assoc (word_text n.global n.word) (listed_subscripts n.subscripts) r) ∙ kind_read n.global n.word n.subscripts r h f e

-- what a reading of a name says of the bytes
pub record IsNameAt (g : Bool) (bs : List ℕ) (n : Name) (r : List ℕ) : Type 0 where
  pub kind : n.global ≡ g
  pub word : is_any_word n.word ≡ true
  pub subs : AreSubs n.subscripts
  pub spells : bs ≡ n.word ++ (listed_subscripts n.subscripts ++ r)

abbrev pub IsNamed : Bool → List ℕ → Option (Name × List ℕ) → Type 0
IsNamed g bs None = Unit {0}
IsNamed g bs (Some p) = IsNameAt g bs p.0 p.1

rest_named : (g : Bool) (w r : List ℕ) → is_any_word w ≡ true → IsNamed g (w ++ r) (name_with g w r)
rest_named g w [] h = record { kind = refl; word = h; subs = tt; spells = refl }
rest_named g w (c ∷ cs) h = by (eqb c 40) refl
  where
    read : (o : Option (List (List ℕ) × List ℕ)) → IsListed cs o → IsNamed g (w ++ 40 ∷ cs) (named g w o)
    read None k = tt
    read (Some ([], r)) k = absurd k
    read (Some (s ∷ ss, r)) k = record { kind = refl; word = h; subs = k.1; spells = ap (λ l. w ++ 40 ∷ l) k.0 }

    by : (b : Bool) → eqb c 40 ≡ b → IsNamed g (w ++ c ∷ cs) (cond b (named g w (subscripts_at cs)) (named g w (Some ([], c ∷ cs))))
    by false e = record { kind = refl; word = h; subs = tt; spells = refl }
    by true e = subst (λ d. IsNamed g (w ++ d ∷ cs) (named g w (subscripts_at cs))) (sym (eqb-true c 40 e)) (read (subscripts_at cs) (subscripts_of-IsListed (length cs) cs))

-- what is read is a spelled name
pub name_in-IsNamed : (g : Bool) (bs : List ℕ) → IsNamed g bs (name_in g bs)
name_in-IsNamed g bs = by (is_any_word (front_by is_word_byte bs)) refl
  where
    by : (b : Bool) → is_any_word (front_by is_word_byte bs) ≡ b → IsNamed g bs (cond b (name_with g (front_by is_word_byte bs) (rest_by is_word_byte bs)) None)
    by false e = tt
    by true e =
        subst (λ l. IsNamed g l (name_with g (front_by is_word_byte bs) (rest_by is_word_byte bs))) (sym (front-rest is_word_byte bs))
        (rest_named g (front_by is_word_byte bs) (rest_by is_word_byte bs) e)

-- what a reading of a name of either kind says of the bytes
pub record IsNameOf (bs : List ℕ) (n : Name) (r : List ℕ) : Type 0 where
  pub word : is_any_word n.word ≡ true
  pub subs : AreSubs n.subscripts
  pub spells : bs ≡ listed_name n ++ r

abbrev pub IsNamedOf : List ℕ → Option (Name × List ℕ) → Type 0
IsNamedOf bs None = Unit {0}
IsNamedOf bs (Some p) = IsNameOf bs p.0 p.1

of_kind : (g : Bool) (bs : List ℕ) (n : Name) (r : List ℕ) → IsNameAt g bs n r → IsNameOf (word_text g bs) n r
of_kind true bs n r k =
    record {
      word = k.word;
      subs = k.subs;
      spells = ap (λ l. 94 ∷ l) (k.spells ∙ sym (append_assoc n.word (listed_subscripts n.subscripts) r))
          ∙ ap (λ g. (word_text g n.word ++ listed_subscripts n.subscripts) ++ r) (sym k.kind);
    }
of_kind false bs n r k =
    record {
      word = k.word;
      subs = k.subs;
      spells = k.spells ∙ sym (append_assoc n.word (listed_subscripts n.subscripts) r)
          ∙ ap (λ g. (word_text g n.word ++ listed_subscripts n.subscripts) ++ r) (sym k.kind);
    }

kind_named : (g : Bool) (bs : List ℕ) (o : Option (Name × List ℕ)) → IsNamed g bs o → IsNamedOf (word_text g bs) o
kind_named g bs None h = tt
kind_named g bs (Some p) h = of_kind g bs p.0 p.1 h

-- what is read is a spelled name of either kind
pub name_at-IsNamedOf : (bs : List ℕ) → IsNamedOf bs (name_at bs)
name_at-IsNamedOf [] = tt
name_at-IsNamedOf (c ∷ cs) = by (eqb c 94) refl
  where
    by : (b : Bool) → eqb c 94 ≡ b → IsNamedOf (c ∷ cs) (cond b (name_in true cs) (name_in false (c ∷ cs)))
    by true e = subst (λ d. IsNamedOf (d ∷ cs) (name_in true cs)) (sym (eqb-true c 94 e)) (kind_named true cs (name_in true cs) (name_in-IsNamed true cs))
    by false e = kind_named false (c ∷ cs) (name_in false (c ∷ cs)) (name_in-IsNamed false (c ∷ cs))
