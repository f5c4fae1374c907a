-- What is spelled in a line is found there.
use Rattle.std.proofs.Common.{◌≡◌, ◌∙◌, ◌+◌, ◌^◌, ◌<◌, ◌≤◌, zero, suc, ℕ, ℤ, pos, Bool, true, false, cond, ◌&&◌, ◌||◌, eqb, List, [], ◌∷◌, ◌++◌, length, length-append, Option, Some, None, refl, sym, ap, append_assoc, arith}
use Rattle.std.specs.Prelude.{nat_lt, decimal}
use Rattle.std.specs.Option.{option_map}
use Rattle.std.specs.List.{list_all}
use Rattle.std.specs.Fmt.{signed_decimal}
use Rattle.std.specs.Char.{is_ascii_alphabetic, is_ascii_alphanumeric}
use Rattle.std.proofs.lemmas.Bool.Decides.{nat_tests}
use Rattle.mj_num.specs.Number.{reading, is_canonic, is_in_range}
use Rattle.mj_num.proofs.Laws.{reading-canonic_text, is_canonic-canonic_text, IsInRange-from}
use Rattle.mj_subs.specs.Name.{Name, is_word}
use Rattle.mj_nref.specs.Spelling.{word_text}
use Rattle.mj_gfile.specs.Spelling.{listed_text, listed_subscript, listed_rest, listed_subscripts, listed_name}
use Rattle.mj_gfile.specs.Reading.{front_by, rest_by, is_number_byte, is_word_byte, subscript_at}
use Rattle.mj_text.specs.declared.limit.Limit.TheVariants.{V2}
use Rattle.mj_gfile.specs.Listing.{limited, is_short, text_field, are_bytes, is_text}
use Rattle.mj_gfile.specs.Laws.Texts.{both_true, NoQuote, text_at-listed}
use Rattle.mj_gfile.specs.Laws.Names.{Stops, more_pass, canonic_numbers, subscript_at-listed}
use Rattle.mj_trace.specs.Reading.{onward, skipped, begins_with, number_read, number_in, below, count_in, code_in, within, text_in, subscript_in, appended, continued, all_more, subscript_more, subscripts_in, with_subscripts, name_of, name_on, name_in, front, behind_bytes, line_of, line_behind, spot_in}
use Rattle.mj_ask.specs.declared.noted.Spot.{Spot}
use Rattle.mj_trace.specs.declared.run.Run.TheVariants as runs
use Rattle.mj_trace.specs.Spelling.{spot_text}
use Rattle.mj_trace.specs.Sized.{is_count, is_code, are_texts, name_fits, spot_fits}

-- ---- runs

-- the bytes don't go on with a text, a number, a word or a list of subscripts
abbrev pub Ends : List ℕ → Type 0
Ends [] = Unit {0}
Ends (c ∷ cs) = (is_word_byte c ≡ false) × (is_number_byte c ≡ false) × (eqb c 34 ≡ false) × (eqb c 40 ≡ false)

pub no_number : (r : List ℕ) → Ends r → Stops is_number_byte r
no_number [] e = tt
no_number (c ∷ cs) e = e.1

pub no_word : (r : List ℕ) → Ends r → Stops is_word_byte r
no_word [] e = tt
no_word (c ∷ cs) e = e.0

pub no_quote : (r : List ℕ) → Ends r → NoQuote r
no_quote [] e = tt
no_quote (c ∷ cs) e = e.2

pub no_list : (r : List ℕ) → Ends r → begins_with 40 r ≡ false
no_list [] e = refl
no_list (c ∷ cs) e = e.3

-- a choice whose test fails
pub if_not : {A : Type 0} {b : Bool} (x y : A) → b ≡ false → cond b x y ≡ y
if_not x y e = ap (λ b. cond b x y) e

module _ (p : ℕ → Bool) where
  pub front_all : (s r : List ℕ) → list_all p s ≡ true → Stops p r → front_by p (s ++ r) ≡ s
  front_all [] [] h m = refl
  front_all [] (c ∷ cs) h m = ap (λ b. cond b (c ∷ front_by p cs) []) m
  front_all (c ∷ s) r h m =
      let q = both_true (p c) (list_all p s) h in ap (λ b. cond b (c ∷ front_by p (s ++ r)) []) q.0 ∙ ap (λ l. c ∷ l) (front_all s r q.1 m)

  pub rest_all : (s r : List ℕ) → list_all p s ≡ true → Stops p r → rest_by p (s ++ r) ≡ r
  rest_all [] [] h m = refl
  rest_all [] (c ∷ cs) h m = ap (λ b. cond b (rest_by p cs) (c ∷ cs)) m
  rest_all (c ∷ s) r h m =
      let q = both_true (p c) (list_all p s) h in ap (λ b. cond b (rest_by p (s ++ r)) (c ∷ (s ++ r))) q.0 ∙ rest_all s r q.1 m

-- ---- numbers

pub number_bytes : (z : ℤ) → is_in_range z ≡ true → list_all is_number_byte (signed_decimal z) ≡ true
number_bytes z h = canonic_numbers (signed_decimal z) (is_canonic-canonic_text z (IsInRange-from z h))

pub number_found : (z : ℤ) (r : List ℕ) → is_in_range z ≡ true → Ends r → number_in (signed_decimal z ++ r) ≡ Some (z, r)
number_found z r h e =
    let all = number_bytes z h in
    let f = front_all is_number_byte (signed_decimal z) r all (no_number r e) in
    let b = rest_all is_number_byte (signed_decimal z) r all (no_number r e) in
    (λ i. number_read (reading (f i)) (b i)) ∙ ap (λ x. number_read x r) (reading-canonic_text z (IsInRange-from z h))

count_in_range : (n : ℕ) → is_count n ≡ true → is_in_range (pos n) ≡ true
count_in_range n h = grind (arith, nat_tests)

code_in_range : (n : ℕ) → is_code n ≡ true → is_in_range (pos n) ≡ true
code_in_range n h = grind (arith, nat_tests)

pub count_found : (n : ℕ) (r : List ℕ) → is_count n ≡ true → Ends r → count_in (decimal n ++ r) ≡ Some (n, r)
count_found n r h e =
    ap (onward (below (2 ^ 32))) (number_found (pos n) r (count_in_range n h) e) ∙ ap (λ b. cond b (Some (n, r)) None) h

pub code_found : (n : ℕ) (r : List ℕ) → is_code n ≡ true → Ends r → code_in (decimal n ++ r) ≡ Some (n, r)
code_found n r h e =
    ap (onward (below 256)) (number_found (pos n) r (code_in_range n h) e) ∙ ap (λ b. cond b (Some (n, r)) None) h

-- ---- texts and subscripts

pub text_found : (t r : List ℕ) → is_text V2 t ≡ true → Ends r → text_in (listed_text t ++ r) ≡ Some (t, r)
text_found t r h e =
    let p = both_true (is_short V2 t) (are_bytes t) h in
    ap (λ o. within (text_field V2 o)) (text_at-listed t r p.1 (no_quote r e)) ∙ ap (λ b. within (Some (limited b t, r))) p.0

number_no_quote : (c : ℕ) → is_number_byte c ≡ true → eqb c 34 ≡ false
number_no_quote c h = grind (arith, nat_tests)

number_no_close : (c : ℕ) → is_number_byte c ≡ true → eqb c 41 ≡ false
number_no_close c h = grind (arith, nat_tests)

bare_found : (s r : List ℕ) → is_text V2 s ≡ true → is_canonic s ≡ true → Ends r → subscript_in (s ++ r) ≡ Some (s, r)
bare_found [] r h k e = absurd cc
bare_found (c ∷ cs) r h k e =
    let p = both_true (is_short V2 (c ∷ cs)) (are_bytes (c ∷ cs)) h in
    let first = (both_true (is_number_byte c) (list_all is_number_byte cs) (canonic_numbers (c ∷ cs) k)).0 in
    let at : subscript_at ((c ∷ cs) ++ r) ≡ Some (c ∷ cs, r) =
    ap (λ b. subscript_at (cond b (c ∷ cs) (listed_text (c ∷ cs)) ++ r)) (sym k) ∙ subscript_at-listed (c ∷ cs) r (record { filled = refl; bytes = p.1 }) (no_number r e) (no_quote r e) in
    ap (λ b. cond b (text_in (c ∷ (cs ++ r))) (within (text_field V2 (subscript_at (c ∷ (cs ++ r)))))) (number_no_quote c first)
    ∙ ap (λ o. within (text_field V2 o)) at ∙ ap (λ b. within (Some (limited b (c ∷ cs), r))) p.0

pub subscript_found : (s r : List ℕ) → is_text V2 s ≡ true → Ends r → subscript_in (listed_subscript s ++ r) ≡ Some (s, r)
subscript_found s r h e = by (is_canonic s) refl
  where
    by : (b : Bool) → is_canonic s ≡ b → subscript_in (cond b s (listed_text s) ++ r) ≡ Some (s, r)
    by true k = bare_found s r h k e
    by false k = text_found s r h e

-- ---- lists

-- one thing after the other is found: `tail` is how those behind the first are spelled, and what follows
module _ {X : Type 0} (one : List X → List ℕ → Option (List X × List ℕ)) (item : X → List ℕ) (tail : List X → List ℕ) (Fits : List X → List X → Type 0)
    (reads : (acc : List X) (x : X) (xs : List X) (r : List ℕ) → Fits acc (x ∷ xs) → Ends r → one acc (item x ++ r) ≡ Some (acc ++ x ∷ [], r))
    (on : (acc : List X) (x : X) (xs : List X) → Fits acc (x ∷ xs) → Fits (acc ++ x ∷ []) xs)
    (stop : Ends (tail [])) (no_comma : begins_with 44 (tail []) ≡ false)
    (step : (x : X) (xs : List X) → tail (x ∷ xs) ≡ 44 ∷ (item x ++ tail xs)) where
  tail_longer : (xs : List X) → length xs ≤ length (tail xs)
  tail_longer [] = omega arith
  tail_longer (x ∷ xs) = omega (arith, tail_longer xs, ap length (step x xs), length-append (item x) (tail xs))

  more_found : (k : ℕ) (acc : List X) (x : X) (xs : List X) → length xs < k → Fits acc (x ∷ xs) → all_more one k acc (item x ++ tail xs) ≡ Some (acc ++ x ∷ xs, tail [])
  unfolding all_more
  more_found zero acc x xs few f = absurd (omega arith)
  more_found (suc k) acc x [] few f =
      ap (continued (all_more one k)) (reads acc x [] (tail []) f stop)
      ∙ ap (λ b. cond b (all_more one k (acc ++ x ∷ []) (skipped (tail []))) (Some (acc ++ x ∷ [], tail []))) no_comma
  more_found (suc k) acc x (y ∷ ys) few f =
      ap (λ l. continued (all_more one k) (one acc (item x ++ l))) (step y ys)
      ∙ ap (continued (all_more one k)) (reads acc x (y ∷ ys) (44 ∷ (item y ++ tail ys)) f (refl, refl, refl, refl))
      ∙ more_found k (acc ++ x ∷ []) y ys (omega arith) (on acc x (y ∷ ys) f)
      ∙ ap (λ l. Some (l, tail [])) (append_assoc acc (x ∷ []) (y ∷ ys))

  pub all_found : (acc : List X) (x : X) (xs : List X) → Fits acc (x ∷ xs) → all_more one (length (item x ++ tail xs) + 1) acc (item x ++ tail xs) ≡ Some (acc ++ x ∷ xs, tail [])
  all_found acc x xs f = more_found (length (item x ++ tail xs) + 1) acc x xs (omega (arith, tail_longer xs, length-append (item x) (tail xs))) f

-- ---- lists of subscripts

-- the first byte of a subscript closes no list
no_close : (s r : List ℕ) → begins_with 41 (listed_subscript s ++ r) ≡ false
no_close s r = by (is_canonic s) refl
  where
    bare : (s : List ℕ) → is_canonic s ≡ true → begins_with 41 (s ++ r) ≡ false
    bare [] k = absurd cc
    bare (c ∷ cs) k = number_no_close c (both_true (is_number_byte c) (list_all is_number_byte cs) (canonic_numbers (c ∷ cs) k)).0

    by : (b : Bool) → is_canonic s ≡ b → begins_with 41 (cond b s (listed_text s) ++ r) ≡ false
    by true k = bare s k
    by false k = refl

-- so many subscripts may stand behind these
abbrev FewTexts : List (List ℕ) → List (List ℕ) → Type 0
FewTexts acc ss = (length acc + length ss ≤ 31) × (are_texts ss ≡ true)

few_more : (acc : List (List ℕ)) (s : List ℕ) (ss : List (List ℕ)) (r : List ℕ) → FewTexts acc (s ∷ ss) → Ends r → subscript_more acc (listed_subscript s ++ r) ≡ Some (acc ++ s ∷ [], r)
few_more acc s ss r f e =
    let below : nat_lt (length acc) 31 ≡ true = grind (arith, nat_tests, f.0) in
    ap (appended (nat_lt (length acc) 31) acc) (subscript_found s r (both_true (is_text V2 s) (are_texts ss) f.1).0 e) ∙ ap (λ b. cond b (Some (acc ++ s ∷ [], r)) None) below

few_on : (acc : List (List ℕ)) (s : List ℕ) (ss : List (List ℕ)) → FewTexts acc (s ∷ ss) → FewTexts (acc ++ s ∷ []) ss
few_on acc s ss f = (omega (arith, f.0, length-append acc (s ∷ [])), (both_true (is_text V2 s) (are_texts ss) f.1).1)

-- how the subscripts behind the first are spelled, and what follows
abbrev tail : List ℕ → List (List ℕ) → List ℕ
tail r ts = listed_rest ts ++ r

pub subscripts_found : (s : List ℕ) (ss : List (List ℕ)) (r : List ℕ) → length (s ∷ ss) ≤ 31 → are_texts (s ∷ ss) ≡ true
    → subscripts_in ((listed_subscript s ++ listed_rest ss) ++ r) ≡ Some (s ∷ ss, r)
subscripts_found s ss r few h =
    ap subscripts_in (append_assoc (listed_subscript s) (listed_rest ss) r)
    ∙ if_not _ (option_map (λ p. (p.0, skipped p.1)) (all_more subscript_more (length (listed_subscript s ++ tail r ss) + 1) [] (listed_subscript s ++ tail r ss))) (no_close s (tail r ss))
    ∙ ap (option_map (λ p. (p.0, skipped p.1)))
    (all_found subscript_more listed_subscript (tail r) FewTexts few_more few_on (refl, refl, refl, refl) refl
    (λ x xs. append_assoc (44 ∷ listed_subscript x) (listed_rest xs) r) [] s ss (omega (arith, few), h))

-- ---- names

pub word_bytes : (w : List ℕ) → is_word w ≡ true → list_all is_word_byte w ≡ true
word_bytes [] h = absurd cc
word_bytes (c ∷ cs) h =
    let a = both_true ((is_ascii_alphabetic c || eqb c 37) && list_all is_ascii_alphanumeric cs) (nat_lt (length cs) 31) h in
    let p = both_true (is_ascii_alphabetic c || eqb c 37) (list_all is_ascii_alphanumeric cs) a.0 in
    λ i. head c p.0 i && more_pass is_ascii_alphanumeric is_word_byte other cs p.1 i
  where
    head : (d : ℕ) → (is_ascii_alphabetic d || eqb d 37) ≡ true → is_word_byte d ≡ true
    head d e = grind (arith, nat_tests)

    other : (d : ℕ) → is_ascii_alphanumeric d ≡ true → is_word_byte d ≡ true
    other d e = ap (λ b. b || eqb d 37) e

word_no_caret : (w r : List ℕ) → is_word w ≡ true → begins_with 94 (w ++ r) ≡ false
word_no_caret [] r h = absurd cc
word_no_caret (c ∷ cs) r h = other c (both_true (is_word_byte c) (list_all is_word_byte cs) (word_bytes (c ∷ cs) h)).0
  where
    other : (d : ℕ) → is_word_byte d ≡ true → eqb d 94 ≡ false
    other d e = grind (arith, nat_tests)

abbrev made : Bool → List ℕ → List (List ℕ) → Name
made g w ss = record { global = g; word = w; subscripts = ss }

list_stops : (ss : List (List ℕ)) (r : List ℕ) → Ends r → Stops is_word_byte (listed_subscripts ss ++ r)
list_stops [] r e = no_word r e
list_stops (s ∷ ss) r e = refl

-- a name behind its word: its subscripts, if it has some
abbrev listed_on : Bool → List ℕ → List ℕ → Option (Name × List ℕ)
listed_on g w bs = cond (begins_with 40 bs) (onward (with_subscripts g w) (subscripts_in (skipped bs))) (with_subscripts g w [] bs)

list_found : (g : Bool) (w : List ℕ) (ss : List (List ℕ)) (r : List ℕ) → length ss ≤ 31 → are_texts ss ≡ true → Ends r
    → listed_on g w (listed_subscripts ss ++ r) ≡ Some (made g w ss, r)
list_found g w [] r few h e = if_not (onward (with_subscripts g w) (subscripts_in (skipped r))) (with_subscripts g w [] r) (no_list r e)
list_found g w (s ∷ ss) r few h e = ap (onward (with_subscripts g w)) (subscripts_found s ss r few h)

name_on_found : (g : Bool) (w : List ℕ) (ss : List (List ℕ)) (r : List ℕ) → is_word w ≡ true → length ss ≤ 31 → are_texts ss ≡ true → Ends r
    → name_on g (w ++ (listed_subscripts ss ++ r)) ≡ Some (made g w ss, r)
name_on_found g w ss r h few t e =
    let all = word_bytes w h in
    let f = front_all is_word_byte w (listed_subscripts ss ++ r) all (list_stops ss r e) in
    let b = rest_all is_word_byte w (listed_subscripts ss ++ r) all (list_stops ss r e) in
    (λ i. name_of g (f i) (b i))
    ∙ ap (λ x. cond x (listed_on g w (listed_subscripts ss ++ r)) None) h
    ∙ list_found g w ss r few t e

kind_found : (g : Bool) (w : List ℕ) (ss : List (List ℕ)) (r : List ℕ) → is_word w ≡ true → length ss ≤ 31 → are_texts ss ≡ true → Ends r
    → name_in (word_text g w ++ (listed_subscripts ss ++ r)) ≡ Some (made g w ss, r)
kind_found true w ss r h few t e = name_on_found true w ss r h few t e
kind_found false w ss r h few t e =
    ap (λ b. cond b (name_on true (skipped (w ++ (listed_subscripts ss ++ r)))) (name_on false (w ++ (listed_subscripts ss ++ r)))) (word_no_caret w (listed_subscripts ss ++ r) h)
    ∙ name_on_found false w ss r h few t e

pub name_found : (n : Name) (r : List ℕ) → is_word n.word ≡ true → length n.subscripts ≤ 31 → name_fits n ≡ true → Ends r → name_in (listed_name n ++ r) ≡ Some (n, r)
name_found n r h few t e =
    ap name_in (append_assoc (word_text n.global n.word) (listed_subscripts n.subscripts) r) ∙ kind_found n.global n.word n.subscripts r h few t e

-- ---- places

word_no_dash : (w r : List ℕ) → is_word w ≡ true → begins_with 45 (w ++ r) ≡ false
word_no_dash [] r h = absurd cc
word_no_dash (c ∷ cs) r h = other c (both_true (is_word_byte c) (list_all is_word_byte cs) (word_bytes (c ∷ cs) h)).0
  where
    other : (d : ℕ) → is_word_byte d ≡ true → eqb d 45 ≡ false
    other d e = grind (arith, nat_tests)

line_found : (s : Spot) (r : List ℕ) → is_word s.routine ≡ true → is_count s.line ≡ true → Ends r → spot_in (s.routine ++ 58 ∷ (decimal s.line ++ r)) ≡ Some (Some s, r)
line_found s r h k e =
    let rest = 58 ∷ (decimal s.line ++ r) in
    let all = word_bytes s.routine h in
    let f = front_all is_word_byte s.routine rest all refl in
    let b = rest_all is_word_byte s.routine rest all refl in
    ap (λ c. cond c (Some (None, skipped (s.routine ++ rest))) (line_behind (front runs.Word (s.routine ++ rest)) (behind_bytes runs.Word (s.routine ++ rest))))
    (word_no_dash s.routine rest h)
    ∙ (λ i. line_behind (f i) (b i))
    ∙ ap (λ c. cond c (option_map (line_of s.routine) (count_in (decimal s.line ++ r))) None) h
    ∙ ap (option_map (line_of s.routine)) (count_found s.line r k e)

-- where an ask came from: nothing, or a line of a routine whose name is a word
abbrev pub IsWordSpot : Option Spot → Type 0
IsWordSpot None = Unit {0}
IsWordSpot (Some s) = is_word s.routine ≡ true

pub spot_found : (spot : Option Spot) (r : List ℕ) → IsWordSpot spot → spot_fits spot ≡ true → Ends r → spot_in (spot_text spot ++ r) ≡ Some (spot, r)
spot_found None r h k e = refl
spot_found (Some s) r h k e = ap spot_in (append_assoc s.routine (58 ∷ decimal s.line) r) ∙ line_found s r h k e
