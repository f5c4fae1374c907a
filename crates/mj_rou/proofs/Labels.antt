-- Labels and names.
use Rattle.std.proofs.Common.{◌≡◌, ℕ, zero, suc, ◌≤◌, ◌<◌, List, [], ◌∷◌, ◌++◌, length, refl, ap, sym, ◌∙◌, subst, arith, Bool, true, false, nat_le, Option, Some, None, ◌⊎◌, inl, inr, Bor}
use Rattle.std.specs.Prelude.{cond, ◌↔◌, Contains, slice_index_or}
use Rattle.std.specs.List.{list_any, list_all}
use Rattle.std.specs.Str.{bytes_eq, IsUtf8}
use Rattle.std.specs.Ordering.{nat_cmp}
use Rattle.std.specs.Cmp.Lexicographic.{slice_cmp}
use Rattle.std.specs.BTreeSet.{BTreeSet, contains_by, Updates}
use Rattle.std.proofs.lemmas.Bool.{and_parts, and_from}
use Rattle.std.proofs.lemmas.Bool.Decides.{nat_tests}
use Rattle.std.proofs.lemmas.List.Elements.{Contains-append_left, Contains-append_right, Contains-append_cases}
use Rattle.std.proofs.lemmas.List.Sums.{AllPass-from_list_all, list_all-from_AllPass}
use Rattle.std.proofs.lemmas.Map.Text.{is_eq-slice_cmp}
use Rattle.std.proofs.lemmas.Slice.Eq.{bytes_eq-Decides}
use Rattle.std.proofs.lemmas.Str.{IsUtf8-from_ascii}
use Rattle.std.proofs.lemmas.Str.Ascii.{IsAscii-from_all, IsAscii-cons}
use Rattle.mj_ast.specs.Tokens.{Token, IsWord, tokens, begins_word, continues_word}
use Rattle.mj_ast.specs.Lines.{HasLabelOf, label_of}
use Rattle.mj_ast.specs.Routines.{IsName}
use Rattle.mj_rou.specs.Read.{HoldsLabels, and_label, labels_of, AreApart, IsTwice, is_word, is_name}

-- ---- the labels of several lines

found_as : (a b : List (List ℕ)) (q r : Option (List ℕ)) → a ≡ and_label b r → elim q [ None ↦ a | Some w ↦ w ∷ a ] ≡ and_label (elim q [ None ↦ b | Some w ↦ w ∷ b ]) r
found_as a b None r e = e
found_as a b (Some w) None e = ap (λ (ls : List (List ℕ)). w ∷ ls) e
found_as a b (Some w) (Some v) e = ap (λ (ls : List (List ℕ)). w ∷ ls) e

alone_as : (q : Option (List ℕ)) → elim q [ None ↦ [] | Some w ↦ w ∷ [] ] ≡ and_label [] q
alone_as None = refl
alone_as (Some w) = refl

pub labels_more : (front : List (List ℕ)) (line : List ℕ) → labels_of (front ++ line ∷ []) ≡ and_label (labels_of front) (label_of (tokens line))
labels_more [] line = alone_as (label_of (tokens line))
labels_more (l ∷ ls) line = found_as (labels_of (ls ++ line ∷ [])) (labels_of ls) (label_of (tokens l)) (label_of (tokens line)) (labels_more ls line)

-- ---- no label stands twice

first_same : (x y : List ℕ) (xs ys : List (List ℕ)) → x ∷ xs ≡ y ∷ ys → x ≡ y
first_same x y xs ys e = cc

rest_same : (x y : List ℕ) (xs ys : List (List ℕ)) → x ∷ xs ≡ y ∷ ys → xs ≡ ys
rest_same x y xs ys e = cc

none_some : (x : List ℕ) (xs : List (List ℕ)) → [] ≡ x ∷ xs → ⊥
none_some x xs e = cc

nothing_behind : (front : List (List ℕ)) (x : List ℕ) (back : List (List ℕ)) → [] ≡ front ++ x ∷ back → ⊥
nothing_behind [] x back e = none_some x back e
nothing_behind (f ∷ front) x back e = none_some f (front ++ x ∷ back) e

-- the last of these lines, or one before it
Found : List (List ℕ) → List ℕ → List (List ℕ) → List ℕ → Type 0
Found lines last front x = ((front ≡ lines) × (x ≡ last)) ⊎ ((back : List (List ℕ)) × (lines ≡ front ++ x ∷ back))

found_more : (lines : List (List ℕ)) (last l f x : List ℕ) (front : List (List ℕ)) → Found lines last front x → l ≡ f → Found (l ∷ lines) last (f ∷ front) x
unfolding Found
found_more lines last l f x front (inl h) i = inl (ap (λ (y : List ℕ). y ∷ front) (sym i) ∙ ap (λ (ys : List (List ℕ)). l ∷ ys) h.0, h.1)
found_more lines last l f x front (inr h) i = inr (h.0, ap (λ (y : List ℕ). y ∷ lines) i ∙ ap (λ (ys : List (List ℕ)). f ∷ ys) h.1)

found : (lines : List (List ℕ)) (last : List ℕ) (front : List (List ℕ)) (x : List ℕ) (back : List (List ℕ)) → lines ++ last ∷ [] ≡ front ++ x ∷ back → Found lines last front x
unfolding Found
found [] last [] x back e = inl (refl, sym (first_same last x [] back e))
found [] last (f ∷ front) x back e = absurd (nothing_behind front x back (rest_same last f [] (front ++ x ∷ back) e))
found (l ∷ lines) last [] x back e = inr (lines, ap (λ (y : List ℕ). y ∷ lines) (first_same l x (lines ++ last ∷ []) back e))
found (l ∷ lines) last (f ∷ front) x back e = found_more lines last l f x front
    (found lines last front x back (rest_same l f (lines ++ last ∷ []) (front ++ x ∷ back) e)) (first_same l f (lines ++ last ∷ []) (front ++ x ∷ back) e)

pub apart_none : AreApart []
apart_none front x back e h = nothing_behind front x back e

pub apart_more : (lines : List (List ℕ)) (line : List ℕ) → AreApart lines → (HasLabelOf (labels_of lines) (tokens line) → ⊥) → AreApart (lines ++ line ∷ [])
unfolding Found
apart_more lines line a n front x back e h = by (found lines line front x back e)
  where
    by : Found lines line front x → ⊥
    by (inl f) =
        let P : List (List ℕ) → List ℕ → Type 0 = λ ls l. HasLabelOf (labels_of ls) (tokens l) in
        n (subst (λ (l : List ℕ). P lines l) f.1 (subst (λ (ls : List (List ℕ)). P ls x) f.0 h))
    by (inr f) = a front x f.0 f.1 h

-- ---- the set of labels

list_any_none : (p : Bor (List ℕ) → Bool) (keys : List (Bor (List ℕ))) → keys ≡ [] → list_any p keys ≡ true → ⊥
list_any_none p [] e h = let f : false ≡ true = h in cc
list_any_none p (k ∷ ks) e h = let f : k ∷ ks ≡ [] = e in cc

pub kept_none : (set : BTreeSet (Bor (List ℕ))) → set.keys ≡ [] → HoldsLabels [] set
kept_none set e word = (λ h. absurd (list_any_none _ set.keys e h), λ h. absurd (let l = h.1 in omega arith))

false_true : false ≡ true → ⊥
false_true e = cc

-- with another label
kept_as : (labels : List (List ℕ)) (key word : List ℕ) (was is : Bool) (b : Bool) → bytes_eq key word ≡ b → is ≡ cond b true was →
    (was ≡ true) ↔ Contains labels word → (is ≡ true) ↔ Contains (labels ++ key ∷ []) word
kept_as labels key word was is true e i h =
    let same : key ≡ word = (bytes_eq-Decides key word).0 e in (
      λ x. Contains-append_right labels (key ∷ []) word (0, omega arith, same),
      λ x. i,
    )
kept_as labels key word was is false e i h = (
  λ x. Contains-append_left labels (key ∷ []) word (h.0 (sym i ∙ x)),
  λ x. by (Contains-append_cases labels (key ∷ []) word x),
)
  where
    one : (k : ℕ) → k < 1 → slice_index_or (key ∷ []) k word ≡ word → key ≡ word
    one zero l f = f
    one (suc k) l f = absurd (omega arith)

    by : Contains labels word ⊎ Contains (key ∷ []) word → is ≡ true
    by (inl c) = i ∙ h.1 c
    by (inr c) = absurd (false_true (sym e ∙ (bytes_eq-Decides key word).1 (one c.0 c.1 c.2)))

pub kept_more : (labels : List (List ℕ)) (old new : BTreeSet (Bor (List ℕ))) (key : Bor (List ℕ)) →
    Updates (λ x y. slice_cmp nat_cmp x.now y.now) old new key true → HoldsLabels labels old → HoldsLabels (labels ++ key.now ∷ []) new
kept_more labels old new key u h word =
    let q : Bor (List ℕ) = record { ref_ptr = (0, 0); now = word } in
    let was = contains_by (λ k. slice_cmp nat_cmp word k.now) old in
    let is = contains_by (λ k. slice_cmp nat_cmp word k.now) new in
    kept_as labels key.now word was is (bytes_eq key.now word) refl (u.0 q ∙ ap (λ (b : Bool). cond b true was) (is_eq-slice_cmp key.now word)) (h word)

-- ---- whether a label is kept

some_same : (x y : List ℕ) → Some x ≡ Some y → x ≡ y
some_same x y e = cc

none_is : (x : List ℕ) → None ≡ Some x → ⊥
none_is x e = cc

pub twice_none : (before : List (List ℕ)) (ks : List Token) → None ≡ label_of ks → HasLabelOf before ks → ⊥
twice_none before ks e h = none_is h.0 (e ∙ h.1)

pub twice_some : (before : List (List ℕ)) (ks : List Token) (set : BTreeSet (Bor (List ℕ))) (word : List ℕ) (b : Bool) → Some word ≡ label_of ks →
    HoldsLabels before set → b ≡ contains_by (λ k. slice_cmp nat_cmp word k.now) set → IsTwice b before ks
twice_some before ks set word true e h i = (word, sym e, (h word).0 (sym i))
twice_some before ks set word false e h i = λ l.
    let same : word ≡ l.0 = some_same word l.0 (e ∙ l.1) in
    let P : List ℕ → Type 0 = λ w. Contains before w in
    false_true (i ∙ (h word).1 (subst P (sym same) l.2))

-- ---- names

le_true : (m n : ℕ) → nat_le m n ≡ true → m ≤ n
le_true m n e = grind (arith, nat_tests)

le_same : (m n : ℕ) → m ≤ n → nat_le m n ≡ true
le_same m n h = grind arith

word_is : (w : List ℕ) → is_word w ≡ true → IsWord w
word_is [] e = absurd (false_true e)
word_is (b ∷ bs) e = let p = and_parts (begins_word b) (list_all continues_word bs) e in (p.0, AllPass-from_list_all continues_word bs p.1)

is_word_if : (w : List ℕ) → IsWord w → is_word w ≡ true
is_word_if [] h = absurd h
is_word_if (b ∷ bs) h = and_from (begins_word b) (list_all continues_word bs) h.0 (list_all-from_AllPass continues_word bs h.1)

pub name_is : (w : List ℕ) → is_name w ≡ true → IsName w
name_is w e = let p = and_parts (is_word w) (nat_le (length w) 31) e in record { spelled = word_is w p.0; short = le_true (length w) 31 p.1 }

pub no_name : (w : List ℕ) → is_name w ≡ false → IsName w → ⊥
no_name w e h = false_true (sym e ∙ and_from (is_word w) (nat_le (length w) 31) (is_word_if w h.spelled) (le_same (length w) 31 h.short))

begins_ascii : (b : ℕ) → begins_word b ≡ true → b < 128
begins_ascii b e = grind (arith, nat_tests)

continues_ascii : (b : ℕ) → continues_word b ≡ true → b < 128
continues_ascii b e = grind (arith, nat_tests)

pub name_utf8 : (w : List ℕ) → IsName w → IsUtf8 w
name_utf8 [] h = absurd h.spelled
name_utf8 (b ∷ bs) h = IsUtf8-from_ascii (b ∷ bs) (IsAscii-cons b bs (begins_ascii b h.spelled.0) (IsAscii-from_all bs (λ k d l. continues_ascii _ (h.spelled.1 k d l))))
