-- A listing is read as the globals that it lists, and nothing else is read.
use Rattle.std.proofs.Common.{◌≡◌, ◌⊎◌, inl, inr, ◌∙◌, ◌/◌, ◌%◌, ◌<◌, suc, ℕ, Bool, true, false, not, cond, ◌&&◌, ◌||◌, eqb, eqb-true, ne_eqb, List, [], ◌∷◌, ◌++◌, length, Option, Some, None, Result, Ok, Err, refl, sym, ap, subst, append_assoc, arith}
use Rattle.std.specs.Prelude.{T, IfOk, IfErr, nat_le}
use Rattle.std.specs.List.{list_all}
use Rattle.std.specs.Char.{is_ascii_alphabetic, is_ascii_alphanumeric}
use Rattle.std.specs.Str.{bytes_eq}
use Rattle.std.specs.Cmp.Lexicographic.{bytes_decides}
use Rattle.std.specs.declared.cmp.Ordering.{Ordering}
use Rattle.std.specs.declared.cmp.Ordering.TheVariants.{Less, Equal, Greater}
use Rattle.std.specs.Ordering.{is_lt}
use Rattle.std.specs.FinMap.{is_sorted}
use Rattle.std.specs.FinMap.Entries.{below_all}
use Rattle.std.proofs.lemmas.Bool.Decides.{nat_tests}
use Rattle.mj_text.specs.declared.limit.Limit.{Limit}
use Rattle.mj_text.specs.declared.limit.Limit.TheVariants.{V1, V2}
use Rattle.mj_text.specs.Limit.{smaller}
use Rattle.mj_num.specs.Number.{is_canonic}
use Rattle.mj_subs.specs.Name.{Name, is_word}
use Rattle.mj_subs.specs.Collation.{name_cmp}
use Rattle.mj_subs.specs.Laws.Total.{name_cmp_total}
use Rattle.mj_nref.specs.Spelling.{is_filled, word_text}
use Rattle.mj_store.specs.Questions.{Content}
use Rattle.mj_gfile.specs.declared.error.ReadError.{ReadError}
use Rattle.mj_gfile.specs.declared.error.ReadError.TheVariants as error
use Rattle.mj_gfile.specs.Spelling.{is_any_word, is_shown, digit_byte, quoted_byte, quoted_bytes, listed_text, listed_subscript, listed_rest, listed_subscripts, listed_line, listed_lines, header}
use Rattle.mj_gfile.specs.Reading.{Whole, is_number_byte, quoted_at, text_at, whole_only, assigned, value_of, with_value, valued, globally, name_in, line_of}
use Rattle.mj_gfile.specs.Listing.{is_short, are_small, is_small, is_small_node, begun_by, lines_of, is_after, judged, before, followed, nodes_of, version_of, behind_header, headed, reading_of, are_bytes, is_text, is_subscript, is_node, IsListed, IsReading}
use Rattle.mj_gfile.specs.Spelled.{IsReadBack}
use Rattle.mj_gfile.specs.Laws.Texts.{both_true, IsQuoted, quoted_at-quoted, quoted_at-IsQuoted}
use Rattle.mj_gfile.specs.Laws.Names.{canonic_numbers, more_pass, AreSubs, name_in-listed, IsNameAt, IsNamed, name_in-IsNamed}
use Rattle.mj_subs.specs.declared.subs.TheConstants.{SUBSCRIPTS_LIMIT}
use Rattle.mj_subs.specs.declared.word.TheConstants.{WORD_LIMIT}

-- ---- one line

-- a line that can be spelled, of any size
pub record IsSpelled (e : Name × List ℕ) : Type 0 where
  pub global : e.0.global ≡ true
  pub word : is_any_word e.0.word ≡ true
  pub subs : AreSubs e.0.subscripts
  pub text : are_bytes e.1 ≡ true

-- a text that ends the line is its value
value_read : (t : List ℕ) → are_bytes t ≡ true → value_of (61 ∷ listed_text t) ≡ Some t
value_read t h = ap whole_only (quoted_at-quoted t [] h tt)

line_text : (n : Name) (t : List ℕ) → n.global ≡ true → listed_line (n, t) ≡ 94 ∷ (n.word ++ (listed_subscripts n.subscripts ++ 61 ∷ listed_text t))
line_text n t g =
    ap (λ b. (word_text b n.word ++ listed_subscripts n.subscripts) ++ 61 ∷ listed_text t) g
    ∙ ap (λ l. 94 ∷ l) (append_assoc n.word (listed_subscripts n.subscripts) (61 ∷ listed_text t))

-- a spelled line is read
pub line_of-listed : (e : Name × List ℕ) → IsSpelled e → line_of (listed_line e) ≡ Some e
line_of-listed e k =
    ap line_of (line_text e.0 e.1 k.global) ∙ ap valued (name_in-listed true e.0.word e.0.subscripts (61 ∷ listed_text e.1) k.word k.subs (refl, refl))
    ∙ ap (with_value (record { global = true; word = e.0.word; subscripts = e.0.subscripts })) (value_read e.1 k.text)
    ∙ ap (λ g. Some (record { global = g; word = e.0.word; subscripts = e.0.subscripts }, e.1)) (sym k.global)

-- what a reading of a line says of the bytes
abbrev pub IsLine : List ℕ → Option (Name × List ℕ) → Type 0
IsLine bs None = Unit {0}
IsLine bs (Some e) = (bs ≡ listed_line e) × IsSpelled e

-- what a reading of a value says of the bytes
abbrev IsValue : List ℕ → Option (List ℕ) → Type 0
IsValue bs None = Unit {0}
IsValue bs (Some t) = (bs ≡ 61 ∷ listed_text t) × (are_bytes t ≡ true)

whole_value : (cs : List ℕ) (o : Option (List ℕ × List ℕ)) → IsQuoted cs o → IsValue (61 ∷ 34 ∷ cs) (whole_only o)
whole_value cs None h = tt
whole_value cs (Some (t, [])) h = (ap (λ l. 61 ∷ 34 ∷ l) h.0, h.1)
whole_value cs (Some (t, c ∷ r)) h = tt

text_value : (bs : List ℕ) → IsValue (61 ∷ bs) (whole_only (text_at bs))
text_value [] = tt
text_value (c ∷ cs) = by (eqb c 34) refl
  where
    by : (b : Bool) → eqb c 34 ≡ b → IsValue (61 ∷ c ∷ cs) (whole_only (cond b (quoted_at Whole cs) None))
    by false e = tt
    by true e = subst (λ d. IsValue (61 ∷ d ∷ cs) (whole_only (quoted_at Whole cs))) (sym (eqb-true c 34 e)) (whole_value cs (quoted_at Whole cs) (quoted_at-IsQuoted cs))

value_of-IsValue : (bs : List ℕ) → IsValue bs (value_of bs)
value_of-IsValue [] = tt
value_of-IsValue (c ∷ cs) = by (eqb c 61) refl
  where
    by : (b : Bool) → eqb c 61 ≡ b → IsValue (c ∷ cs) (assigned (cond b (Some cs) None))
    by false e = tt
    by true e = subst (λ d. IsValue (d ∷ cs) (whole_only (text_at cs))) (sym (eqb-true c 61 e)) (text_value cs)

valued_line : (cs : List ℕ) (n : Name) (r : List ℕ) (o : Option (List ℕ)) → IsNameAt true cs n r → IsValue r o → IsLine (94 ∷ cs) (with_value n o)
valued_line cs n r None k h = tt
valued_line cs n r (Some t) k h = (
  ap (λ l. 94 ∷ l) (k.spells ∙ ap (λ x. n.word ++ (listed_subscripts n.subscripts ++ x)) h.0) ∙ sym (line_text n t k.kind),
  record { global = k.kind; word = k.word; subs = k.subs; text = h.1 },
)

named_line : (cs : List ℕ) (o : Option (Name × List ℕ)) → IsNamed true cs o → IsLine (94 ∷ cs) (valued o)
named_line cs None h = tt
named_line cs (Some p) h = valued_line cs p.0 p.1 (value_of p.1) h (value_of-IsValue p.1)

-- what is read is a spelled line
pub line_of-IsLine : (bs : List ℕ) → IsLine bs (line_of bs)
line_of-IsLine [] = tt
line_of-IsLine (c ∷ cs) = by (eqb c 94) refl
  where
    by : (b : Bool) → eqb c 94 ≡ b → IsLine (c ∷ cs) (globally (cond b (Some cs) None))
    by false e = tt
    by true e = subst (λ d. IsLine (d ∷ cs) (valued (name_in true cs))) (sym (eqb-true c 94 e)) (named_line cs (name_in true cs) (name_in-IsNamed true cs))

-- ---- within the limits

any_word : (w : List ℕ) → is_word w ≡ (is_any_word w && nat_le (length w) WORD_LIMIT)
any_word [] = refl
any_word (c ∷ cs) = refl

subs_of : (limit : Limit) (ss : List (List ℕ)) → list_all (is_subscript limit) ss ≡ true → AreSubs ss × (list_all (is_short limit) ss ≡ true)
subs_of limit [] h = (tt, refl)
subs_of limit (s ∷ ss) h =
    let p = both_true (is_subscript limit s) (list_all (is_subscript limit) ss) h in
    let q = both_true (is_filled s) (is_text limit s) p.0 in
    let r = both_true (is_short limit s) (are_bytes s) q.1 in
    let more = subs_of limit ss p.1 in
    ((record { filled = q.0; bytes = r.1 }, more.0), (λ i. r.0 i && more.1 i))

of_subs : (limit : Limit) (ss : List (List ℕ)) → AreSubs ss → list_all (is_short limit) ss ≡ true → list_all (is_subscript limit) ss ≡ true
of_subs limit [] k h = refl
of_subs limit (s ∷ ss) k h =
    let p = both_true (is_short limit s) (list_all (is_short limit) ss) h in λ i. (k.0.filled i && (p.0 i && k.0.bytes i)) && of_subs limit ss k.1 p.1 i

-- a node is spelled, and within the limits
pub node_parts : (limit : Limit) (e : Name × List ℕ) → is_node limit e ≡ true → IsSpelled e × (is_small_node limit e ≡ true)
node_parts limit e h =
    let a = both_true (e.0.global && is_word e.0.word && nat_le (length e.0.subscripts) SUBSCRIPTS_LIMIT && list_all (is_subscript limit) e.0.subscripts) (is_text limit e.1) h in
    let b = both_true (e.0.global && is_word e.0.word && nat_le (length e.0.subscripts) SUBSCRIPTS_LIMIT) (list_all (is_subscript limit) e.0.subscripts) a.0 in
    let c = both_true (e.0.global && is_word e.0.word) (nat_le (length e.0.subscripts) SUBSCRIPTS_LIMIT) b.0 in
    let d = both_true e.0.global (is_word e.0.word) c.0 in
    let w = both_true (is_any_word e.0.word) (nat_le (length e.0.word) WORD_LIMIT) (sym (any_word e.0.word) ∙ d.1) in
    let s = subs_of limit e.0.subscripts b.1 in
    let t = both_true (is_short limit e.1) (are_bytes e.1) a.1 in
    (record { global = d.0; word = w.0; subs = s.0; text = t.1 }, (λ i. (w.1 i && (c.1 i && s.1 i)) && t.0 i))

pub node_whole : (limit : Limit) (e : Name × List ℕ) → IsSpelled e → is_small_node limit e ≡ true → is_node limit e ≡ true
node_whole limit e k h =
    let a = both_true (is_small limit e.0) (is_short limit e.1) h in
    let b = both_true (nat_le (length e.0.word) WORD_LIMIT) (are_small limit e.0.subscripts) a.0 in
    let c = both_true (nat_le (length e.0.subscripts) SUBSCRIPTS_LIMIT) (list_all (is_short limit) e.0.subscripts) b.1 in
    let w = any_word e.0.word ∙ (λ i. k.word i && b.0 i) in
    λ i. (((k.global i && w i) && c.0 i) && of_subs limit e.0.subscripts k.subs c.1 i) && (a.1 i && k.text i)

-- ---- lines

-- no byte ends a line
unfoldable pub no_end : ℕ → Bool
no_end c = not (eqb c 10)

abbrev pub AreWithin : List ℕ → Type 0
AreWithin bs = list_all no_end bs ≡ true

pub within-append : (xs ys : List ℕ) → AreWithin xs → AreWithin ys → AreWithin (xs ++ ys)
within-append [] ys h k = k
within-append (x ∷ xs) ys h k = let p = both_true (no_end x) (list_all no_end xs) h in λ i. p.0 i && within-append xs ys p.1 k i

pub above_ten : (c : ℕ) → 10 < c → no_end c ≡ true
unfolding no_end
above_ten c h = ap not (ne_eqb c 10 (λ e. omega arith))

digit_above : (d : ℕ) → 10 < digit_byte d
digit_above d = grind (arith, nat_tests)

shown_above : (c : ℕ) → is_shown c ≡ true → 10 < c
shown_above c h = grind (arith, nat_tests)

pub number_above : (c : ℕ) → is_number_byte c ≡ true → no_end c ≡ true
number_above c h = above_ten c (grind (arith, nat_tests))

pub word_above : (c : ℕ) → is_ascii_alphanumeric c ≡ true → no_end c ≡ true
word_above c h = above_ten c (grind (arith, nat_tests))

head_above : (c : ℕ) → (is_ascii_alphabetic c || eqb c 37) ≡ true → no_end c ≡ true
head_above c h = above_ten c (grind (arith, nat_tests))

byte_within : (c : ℕ) (a b d : Bool) → is_shown c ≡ d → AreWithin (cond a (34 ∷ 34 ∷ []) (cond b (92 ∷ 92 ∷ []) (cond d (c ∷ []) (92 ∷ digit_byte (c / 16) ∷ digit_byte (c % 16) ∷ []))))
unfolding no_end
byte_within c true b d e = refl
byte_within c false true d e = refl
byte_within c false false true e = λ i. above_ten c (shown_above c e) i && true
byte_within c false false false e = λ i. above_ten (digit_byte (c / 16)) (digit_above (c / 16)) i && (above_ten (digit_byte (c % 16)) (digit_above (c % 16)) i && true)

quoted_within : (t : List ℕ) → AreWithin (quoted_bytes t)
quoted_within [] = refl
quoted_within (c ∷ t) = within-append (quoted_byte c) (quoted_bytes t) (byte_within c (eqb c 34) (eqb c 92) (is_shown c) refl) (quoted_within t)

pub text_within : (t : List ℕ) → AreWithin (listed_text t)
unfolding no_end
text_within t = within-append (quoted_bytes t) (34 ∷ []) (quoted_within t) refl

pub subscript_within : (s : List ℕ) → AreWithin (listed_subscript s)
subscript_within s = by (is_canonic s) refl
  where
    by : (b : Bool) → is_canonic s ≡ b → AreWithin (cond b s (listed_text s))
    by true e = more_pass is_number_byte no_end number_above s (canonic_numbers s e)
    by false e = text_within s

rest_within : (ss : List (List ℕ)) → AreWithin (listed_rest ss)
unfolding no_end
rest_within [] = refl
rest_within (s ∷ ss) = within-append (listed_subscript s) (listed_rest ss) (subscript_within s) (rest_within ss)

pub subscripts_within : (ss : List (List ℕ)) → AreWithin (listed_subscripts ss)
unfolding no_end
subscripts_within [] = refl
subscripts_within (s ∷ ss) = within-append (listed_subscript s) (listed_rest ss) (subscript_within s) (rest_within ss)

word_within : (w : List ℕ) → is_any_word w ≡ true → AreWithin w
word_within [] h = refl
word_within (c ∷ cs) h =
    let p = both_true (is_ascii_alphabetic c || eqb c 37) (list_all is_ascii_alphanumeric cs) h in
    λ i. head_above c p.0 i && more_pass is_ascii_alphanumeric no_end word_above cs p.1 i

pub line_within : (e : Name × List ℕ) → IsSpelled e → AreWithin (listed_line e)
unfolding no_end
line_within e k =
    subst AreWithin (sym (line_text e.0 e.1 k.global))
    (within-append e.0.word (listed_subscripts e.0.subscripts ++ 61 ∷ listed_text e.1) (word_within e.0.word k.word)
    (within-append (listed_subscripts e.0.subscripts) (61 ∷ listed_text e.1) (subscripts_within e.0.subscripts) (text_within e.1)))

-- a line ends at the first byte 10
pub line_first : (l r : List ℕ) → AreWithin l → lines_of (l ++ 10 ∷ r) ≡ (l, true) ∷ lines_of r
unfolding no_end
line_first [] r h = refl
line_first (c ∷ l) r h = let p = both_true (not (eqb c 10)) (list_all no_end l) h in by (eqb c 10) p.0 (line_first l r p.1)
  where
    by : (b : Bool) → not b ≡ true → lines_of (l ++ 10 ∷ r) ≡ (l, true) ∷ lines_of r → cond b (([], true) ∷ lines_of (l ++ 10 ∷ r)) (begun_by c (lines_of (l ++ 10 ∷ r))) ≡ (c ∷ l, true) ∷ lines_of r
    by true k rec = absurd cc
    by false k rec = ap (begun_by c) rec

-- the bytes of lines
bytes_of : List (List ℕ × Bool) → List ℕ
bytes_of [] = []
bytes_of ((l, true) ∷ ls) = l ++ 10 ∷ bytes_of ls
bytes_of ((l, false) ∷ ls) = l ++ bytes_of ls

begun_bytes : (c : ℕ) (ls : List (List ℕ × Bool)) → bytes_of (begun_by c ls) ≡ c ∷ bytes_of ls
unfolding bytes_of
begun_bytes c [] = refl
begun_bytes c ((l, true) ∷ ls) = refl
begun_bytes c ((l, false) ∷ ls) = refl

bytes-lines : (bs : List ℕ) → bytes_of (lines_of bs) ≡ bs
unfolding bytes_of
bytes-lines [] = refl
bytes-lines (c ∷ cs) = by (eqb c 10) refl (bytes-lines cs)
  where
    by : (b : Bool) → eqb c 10 ≡ b → bytes_of (lines_of cs) ≡ cs → bytes_of (cond b (([], true) ∷ lines_of cs) (begun_by c (lines_of cs))) ≡ c ∷ cs
    by true e rec = ap (λ l. 10 ∷ l) rec ∙ ap (λ d. d ∷ cs) (sym (eqb-true c 10 e))
    by false e rec = begun_bytes c (lines_of cs) ∙ ap (λ l. c ∷ l) rec

-- ---- order

-- the names rise, from behind the last one
abbrev pub Rises : Option Name → Content → Type 0
Rises last [] = Unit {0}
Rises last (e ∷ es) = (is_after last e.0 ≡ true) × Rises (Some e.0) es

is_true : (b : Bool) → T b → b ≡ true
is_true true p = refl
is_true false p = absurd p

so : (b : Bool) → b ≡ true → T b
so b e = subst T (sym e) tt

first_so : (a b : Bool) → T (a && b) → T a
first_so true b p = tt
first_so false b p = p

second_so : (a b : Bool) → T (a && b) → T b
second_so true b p = p
second_so false b p = absurd p

both_so : (a b : Bool) → T a → T b → T (a && b)
both_so true b p q = q
both_so false b p q = p

less : (r : Ordering) → is_lt r ≡ true → r ≡ Less
less Less e = refl
less Equal e = absurd cc
less Greater e = absurd cc

below_trans : (m n : Name) (es : Content) → name_cmp m n ≡ Less → T (below_all name_cmp n es) → T (below_all name_cmp m es)
below_trans m n [] l h = tt
below_trans m n (e ∷ es) l h =
    let next = name_cmp_total.trans m n e.0 l (less (name_cmp n e.0) (is_true (is_lt (name_cmp n e.0)) (first_so (is_lt (name_cmp n e.0)) (below_all name_cmp n es) h))) in
    both_so (is_lt (name_cmp m e.0)) (below_all name_cmp m es) (so (is_lt (name_cmp m e.0)) (ap is_lt next)) (below_trans m n es l (second_so (is_lt (name_cmp n e.0)) (below_all name_cmp n es) h))

rising_below : (m : Name) (es : Content) → Rises (Some m) es → T (below_all name_cmp m es)
rising_below m [] h = tt
rising_below m (e ∷ es) h =
    both_so (is_lt (name_cmp m e.0)) (below_all name_cmp m es) (so (is_lt (name_cmp m e.0)) h.0) (below_trans m e.0 es (less (name_cmp m e.0) h.0) (rising_below e.0 es h.1))

pub sorted_of : (last : Option Name) (es : Content) → Rises last es → T (is_sorted name_cmp es)
sorted_of last [] h = tt
sorted_of last (e ∷ es) h = both_so (below_all name_cmp e.0 es) (is_sorted name_cmp es) (rising_below e.0 es h.1) (sorted_of (Some e.0) es h.1)

rises_of : (m : Name) (es : Content) → T (below_all name_cmp m es) → T (is_sorted name_cmp es) → Rises (Some m) es
rises_of m [] h k = tt
rises_of m (e ∷ es) h k = (
  is_true (is_lt (name_cmp m e.0)) (first_so (is_lt (name_cmp m e.0)) (below_all name_cmp m es) h),
  rises_of e.0 es (first_so (below_all name_cmp e.0 es) (is_sorted name_cmp es) k) (second_so (below_all name_cmp e.0 es) (is_sorted name_cmp es) k),
)

pub rises_all : (es : Content) → T (is_sorted name_cmp es) → Rises None es
rises_all [] k = tt
rises_all (e ∷ es) k = (refl, rises_of e.0 es (first_so (below_all name_cmp e.0 es) (is_sorted name_cmp es) k) (second_so (below_all name_cmp e.0 es) (is_sorted name_cmp es) k))

-- ---- listings

pub judged_ok : (limit : Limit) (last : Option Name) (k : ℕ) (e : Name × List ℕ) → is_small_node limit e ≡ true → is_after last e.0 ≡ true → judged limit last k (Some e) ≡ Ok e
judged_ok limit last k e s a = λ i. cond (s i) (cond (a i) (Ok e) (Err (error.Order k))) (Err (error.Limit k))

-- the lines of globals are read
nodes_of-listed : (limit : Limit) (last : Option Name) (k : ℕ) (es : Content) → list_all (is_node limit) es ≡ true → Rises last es → nodes_of limit last k (lines_of (listed_lines es)) ≡ Ok es
nodes_of-listed limit last k [] h r = refl
nodes_of-listed limit last k (e ∷ es) h r =
    let p = both_true (is_node limit e) (list_all (is_node limit) es) h in
    let q = node_parts limit e p.0 in
    ap (nodes_of limit last k) (line_first (listed_line e) (listed_lines es) (line_within e q.0))
    ∙ ap (λ o. followed (judged limit last k o) (λ d. nodes_of limit (Some d.0) (suc k) (lines_of (listed_lines es)))) (line_of-listed e q.0)
    ∙ ap (λ o. followed o (λ d. nodes_of limit (Some d.0) (suc k) (lines_of (listed_lines es)))) (judged_ok limit last k e q.1 r.0)
    ∙ ap (before e) (nodes_of-listed limit (Some e.0) (suc k) es p.1 r.1)

-- a header is a line, and names its version
pub header_within : (version : Limit) → AreWithin (header version)
unfolding no_end
header_within V1 = refl
header_within V2 = refl

pub version_of-header : (version : Limit) → version_of (header version) ≡ Some version
version_of-header V1 = refl
version_of-header V2 = refl

pub version_is : (l : List ℕ) (version : Limit) → version_of l ≡ Some version → l ≡ header version
version_is l version e = first (bytes_eq l (header V1)) refl e
  where
    second : (b : Bool) → bytes_eq l (header V2) ≡ b → cond b (Some V2) None ≡ Some version → l ≡ header version
    second true is so = (bytes_decides l (header V2)).0 is ∙ ap header (let same : V2 ≡ version = cc in same)
    second false is so = absurd cc

    first : (b : Bool) → bytes_eq l (header V1) ≡ b → cond b (Some V1) (cond (bytes_eq l (header V2)) (Some V2) None) ≡ Some version → l ≡ header version
    first true is so = (bytes_decides l (header V1)).0 is ∙ ap header (let same : V1 ≡ version = cc in same)
    first false is so = second (bytes_eq l (header V2)) refl so

-- the listing of globals is read as these
pub reads_back : IsReadBack
reads_back limit version content k =
    ap (headed limit) (line_first (header version) (listed_lines content) (header_within version))
    ∙ ap (λ v. behind_header limit v (lines_of (listed_lines content))) (version_of-header version)
    ∙ nodes_of-listed (smaller version limit) None 2 content k.nodes (rises_all content k.rise)

-- what a reading of lines says of their bytes
abbrev AreListed : Limit → Option Name → List (List ℕ × Bool) → Result Content ReadError → Type 0
AreListed limit last ls (Err e) = Unit {0}
AreListed limit last ls (Ok es) = (bytes_of ls ≡ listed_lines es) × (list_all (is_node limit) es ≡ true) × Rises last es

one_more : (limit : Limit) (last : Option Name) (l : List ℕ) (ls : List (List ℕ × Bool)) (e : Name × List ℕ) (r : Result Content ReadError) → l ≡ listed_line e → is_node limit e ≡ true
    → is_after last e.0 ≡ true → AreListed limit (Some e.0) ls r → AreListed limit last ((l, true) ∷ ls) (before e r)
unfolding bytes_of
one_more limit last l ls e (Err x) is node after h = tt
one_more limit last l ls e (Ok es) is node after h = ((λ i. is i ++ 10 ∷ h.0 i), (λ i. node i && h.1 i), (after, h.2))

module _ (limit : Limit) (last : Option Name) (k : ℕ) (l : List ℕ) (ls : List (List ℕ × Bool)) (more : Name × List ℕ → Result Content ReadError)
    (rec : (e : Name × List ℕ) → AreListed limit (Some e.0) ls (more e)) where
  in_place : (e : Name × List ℕ) (b : Bool) → is_after last e.0 ≡ b → l ≡ listed_line e → is_node limit e ≡ true
      → AreListed limit last ((l, true) ∷ ls) (followed (cond b (Ok e) (Err (error.Order k))) more)
  in_place e true a is node = one_more limit last l ls e (more e) is node a (rec e)
  in_place e false a is node = tt

  in_limits : (e : Name × List ℕ) (b : Bool) → is_small_node limit e ≡ b → l ≡ listed_line e → IsSpelled e
      → AreListed limit last ((l, true) ∷ ls) (followed (cond b (cond (is_after last e.0) (Ok e) (Err (error.Order k))) (Err (error.Limit k))) more)
  in_limits e true s is spelled = in_place e (is_after last e.0) refl is (node_whole limit e spelled s)
  in_limits e false s is spelled = tt

  line_listed : (o : Option (Name × List ℕ)) → IsLine l o → AreListed limit last ((l, true) ∷ ls) (followed (judged limit last k o) more)
  line_listed None h = tt
  line_listed (Some e) h = in_limits e (is_small_node limit e) refl h.0 h.1

-- what is read of lines are lines of globals
nodes_of-AreListed : (limit : Limit) (last : Option Name) (k : ℕ) (ls : List (List ℕ × Bool)) → AreListed limit last ls (nodes_of limit last k ls)
unfolding bytes_of
nodes_of-AreListed limit last k [] = (refl, refl, tt)
nodes_of-AreListed limit last k ((l, false) ∷ ls) = tt
nodes_of-AreListed limit last k ((l, true) ∷ ls) =
    line_listed limit last k l ls (λ e. nodes_of limit (Some e.0) (suc k) ls) (λ e. nodes_of-AreListed limit (Some e.0) (suc k) ls) (line_of l) (line_of-IsLine l)

-- what a reading says of the bytes
abbrev IsListing : Limit → List ℕ → Result Content ReadError → Type 0
IsListing limit bs (Err e) = Unit {0}
IsListing limit bs (Ok es) = IsListed limit bs es

lines_behind : (limit version : Limit) (l : List ℕ) (ls : List (List ℕ × Bool)) (r : Result Content ReadError) → l ≡ header version → AreListed (smaller version limit) None ls r
    → IsListing limit (bytes_of ((l, true) ∷ ls)) r
unfolding bytes_of
lines_behind limit version l ls (Err e) is h = tt
lines_behind limit version l ls (Ok es) is h = (version, (λ i. is i ++ 10 ∷ h.0 i), record { nodes = h.1; rise = sorted_of None es h.2 })

headed-IsListing : (limit : Limit) (ls : List (List ℕ × Bool)) → IsListing limit (bytes_of ls) (headed limit ls)
headed-IsListing limit [] = tt
headed-IsListing limit ((l, false) ∷ ls) = tt
headed-IsListing limit ((l, true) ∷ ls) = by (version_of l) refl
  where
    by : (v : Option Limit) → version_of l ≡ v → IsListing limit (bytes_of ((l, true) ∷ ls)) (behind_header limit v ls)
    by None e = tt
    by (Some version) e =
        lines_behind limit version l ls (nodes_of (smaller version limit) None 2 ls) (version_is l version e) (nodes_of-AreListed (smaller version limit) None 2 ls)

reading_of-IsListing : (limit : Limit) (bs : List ℕ) → IsListing limit bs (reading_of limit bs)
reading_of-IsListing limit bs = subst (λ x. IsListing limit x (reading_of limit bs)) (bytes-lines bs) (headed-IsListing limit (lines_of bs))

-- bytes are read as some globals exactly where they are a listing of these
pub reading : (limit : Limit) (bs : List ℕ) → IsReading limit bs (reading_of limit bs)
reading limit bs = record {
  lists = λ content. (λ e. subst (IsListing limit bs) e (reading_of-IsListing limit bs), λ h. ap (reading_of limit) h.1 ∙ reads_back limit h.0 content h.2);
}

-- ---- what a call gives that reads so

pub lists_them : (limit : Limit) (bs : List ℕ) (r : Result Content ReadError) → IfOk r (λ g. reading_of limit bs ≡ Ok g) → IfOk r (IsListed limit bs)
lists_them limit bs (Ok g) h = ((reading limit bs).lists g).0 h
lists_them limit bs (Err e) h = tt

pub lists_all : {A : Type 0} (limit : Limit) (bs : List ℕ) (r : Result A ReadError) → IfErr r (λ e. (e ≡ error.Memory) ⊎ (reading_of limit bs ≡ Err e)) → (content : Content)
    → IsListed limit bs content → IfErr r (λ e. e ≡ error.Memory)
lists_all limit bs (Ok g) h content is = tt
lists_all limit bs (Err e) h content is = by h (((reading limit bs).lists content).1 is)
  where
    by : (e ≡ error.Memory) ⊎ (reading_of limit bs ≡ Err e) → reading_of limit bs ≡ Ok content → e ≡ error.Memory
    by (inl m) ok = m
    by (inr x) ok = absurd cc
