-- What NEW hides, one word after the other, and what putting it back gives.
use Rattle.std.proofs.Common.{◌≡◌, ℕ, ◌+◌, ◌<◌, ◌≤◌, Bool, true, false, cond, not, ◌||◌, List, [], ◌∷◌, ◌++◌, length, map, inl, inr, Option, Some, None, refl, sym, ap, ◌∙◌, subst, arith}
use Rattle.std.specs.Prelude.{IsTrue}
use Rattle.std.specs.List.{list_any}
use Rattle.std.specs.Str.{bytes_eq}
use Rattle.std.specs.Ordering.{is_eq}
use Rattle.std.proofs.lemmas.Bool.{cases_lt}
use Rattle.mj_store.specs.Questions.{Subtree}
use Rattle.mj_globs.proofs.Groups.{W}
use Rattle.mj_locals.specs.Groups.{Pairs, Group, newest, rest, with_new_group, saved, reduced}
use Rattle.mj_locals.specs.Kept.{named, HavePlaces, AreOthers}
use Rattle.mj_locals.specs.Trees.{Trees, at, has_room, placed, added, word_at, IsPlace}
use Rattle.mj_locals.specs.Hiding.{Grows, Hides, HidesOnly, HidesOthersTo, all_put}
use Rattle.mj_locals.proofs.Places.{same_word, itself, word_placed, length_placed}
use Rattle.mj_locals.specs.Snapshots.{HaveRoom}
use Rattle.mj_locals.proofs.At.{at_placed, at_added, at_pushed, room_pushed, room_at, grows_itself, grows_on, grows_added, grows_length, grows_same, at_all_put, word_all_put, length_all_put}

-- ---- words in place of places

pub named_words : (ts us : Trees) (ps : Pairs) → ((p : ℕ) → word_at us p ≡ word_at ts p) → named us ps ≡ named ts ps
named_words ts us [] same = refl
named_words ts us (p ∷ ps) same = λ i. (same p.0 i, p.1) ∷ named_words ts us ps same i

pub named_grown : (ts us : Trees) (ps : Pairs) → HavePlaces (length ts) ps → Grows ts us → named us ps ≡ named ts ps
named_grown ts us [] h g = refl
named_grown ts us (p ∷ ps) h g = λ i. ((g p.0 h.0).1 i, p.1) ∷ named_grown ts us ps h.1 g i

pub places_grown : (m n : ℕ) (ps : Pairs) → m ≤ n → HavePlaces m ps → HavePlaces n ps
places_grown m n [] le h = tt
places_grown m n (p ∷ ps) le h = (omega (arith, h.0, le), places_grown m n ps le h.1)

pub named_pushed : (ts : Trees) (ps : Pairs) (x : ℕ × Subtree) → named ts (ps ++ x ∷ []) ≡ named ts ps ++ (word_at ts x.0, x.1) ∷ []
named_pushed ts [] x = refl
named_pushed ts (p ∷ ps) x = ap (λ (ks : Trees). (word_at ts p.0, p.1) ∷ ks) (named_pushed ts ps x)

pub places_pushed : (n : ℕ) (ps : Pairs) (x : ℕ × Subtree) → HavePlaces n ps → x.0 < n → HavePlaces n (ps ++ x ∷ [])
places_pushed n [] x h less = (less, tt)
places_pushed n (p ∷ ps) x h less = (h.0, places_pushed n ps x h.1 less)

pub places_popped : (n : ℕ) (ps : Pairs) (x : ℕ × Subtree) → HavePlaces n (ps ++ x ∷ []) → HavePlaces n ps × (x.0 < n)
places_popped n [] x h = (tt, h.0)
places_popped n (p ∷ ps) x h = let so = places_popped n ps x h.1 in ((h.0, so.0), so.1)

pub have_room : (ts : Trees) (ps : Pairs) → HavePlaces (length ts) ps → HaveRoom ts (named ts ps)
have_room ts [] h = tt
have_room ts (p ∷ ps) h = (room_at ts p.0 h.0, have_room ts ps h.1)

-- ---- one word after the other

newest_saved : (x : ℕ × Subtree) (kept : Option (List (List ℕ))) (gs hs : List Group) → hs ≡ (kept, newest hs) ∷ gs → newest (saved x hs) ≡ newest hs ++ x ∷ []
newest_saved x kept gs hs e = ap (λ (ys : List Group). newest (saved x ys)) e

pub hides_nothing : (kept : Option (List (List ℕ))) (ts : Trees) (hs : List Group) → hs ≡ with_new_group kept (rest hs) → Hides kept ts ts (rest hs) hs
hides_nothing kept ts hs e =
    let none : newest hs ≡ [] = ap newest e in (
      grows_itself ts,
      e ∙ ap (λ (ps : Pairs). (kept, ps) ∷ rest hs) (sym none),
      subst (HavePlaces (length ts)) (sym none) tt,
      λ v. sym (ap (λ (ps : Pairs). cond (has_room (named ts ps) v) [] (at ts v)) none),
      λ v. ap (λ (ps : Pairs). at (named ts ps) v) none ∙ sym (ap (λ (ps : Pairs). cond (has_room (named ts ps) v) (at ts v) []) none),
    )

-- the same where the table or the trail is another one that equals it
pub hides_same : (kept : Option (List (List ℕ))) (ts us xs : Trees) (gs hs js : List Group) → xs ≡ us → js ≡ hs → Hides kept ts us gs hs → Hides kept ts xs gs js
hides_same kept ts us xs gs hs js e f h = subst (λ (ys : List Group). Hides kept ts xs gs ys) (sym f) (subst (λ (ys : Trees). Hides kept ts ys gs hs) (sym e) h)

pub hides_added : (kept : Option (List (List ℕ))) (ts us : Trees) (w : List ℕ) (gs hs : List Group)
    → Hides kept ts us gs hs → (Hides kept ts (added us w) gs hs) × (named (added us w) (newest hs) ≡ named us (newest hs))
hides_added kept ts us w gs hs h =
    let same : named (added us w) (newest hs) ≡ named us (newest hs) = named_grown us (added us w) (newest hs) h.2 (grows_added us w) in (
      (
        grows_on ts us (added us w) h.0 (grows_added us w),
        h.1,
        places_grown (length us) (length (added us w)) (newest hs) (grows_length us (added us w) (grows_added us w)) h.2,
        λ v. at_added us w v ∙ h.3 v ∙ sym (ap (λ (ks : Trees). cond (has_room ks v) [] (at ts v)) same),
        λ v. ap (λ (ks : Trees). at ks v) same ∙ h.4 v ∙ sym (ap (λ (ks : Trees). cond (has_room ks v) (at ts v) []) same),
      ),
      same,
    )

-- a word goes whose place this is
module _ (kept : Option (List (List ℕ))) (ts us : Trees) (gs hs : List Group) (h : Hides kept ts us gs hs)
    (p : ℕ) (less : p < length us) (xs : Trees) (js : List Group) (gone : xs ≡ placed us (word_at us p) []) (kept_it : js ≡ saved (p, at us (word_at us p)) hs) where
  w : List ℕ
  w = word_at us p

  old : Trees
  old = named us (newest hs)

  newest_is : newest js ≡ newest hs ++ (p, at us (word_at us p)) ∷ []
  newest_is = ap newest kept_it ∙ newest_saved (p, at us (word_at us p)) kept gs hs h.1

  words_are : (q : ℕ) → word_at xs q ≡ word_at us q
  words_are q = ap (λ (ys : Trees). word_at ys q) gone ∙ word_placed us (word_at us p) [] q

  length_is : length xs ≡ length us
  length_is = ap (λ (ys : Trees). length ys) gone ∙ length_placed us (word_at us p) []

  -- what is saved then
  pub hidden_named : named xs (newest js) ≡ named us (newest hs) ++ (word_at us p, at us (word_at us p)) ∷ []
  hidden_named = named_words us xs (newest js) words_are ∙ ap (named us) newest_is ∙ named_pushed us (newest hs) (p, at us (word_at us p))

  room_is : (v : List ℕ) → has_room (named xs (newest js)) v ≡ (has_room (named us (newest hs)) v || is_eq (W v (word_at us p)))
  room_is v = ap (λ (ks : Trees). has_room ks v) hidden_named ∙ room_pushed (named us (newest hs)) (word_at us p, at us (word_at us p)) v

  now_is : (v : List ℕ) → at xs v ≡ cond (has_room (named xs (newest js)) v) [] (at ts v)
  now_is v =
      ap (λ (ys : Trees). at ys v) gone ∙ at_placed us (word_at us p) [] v (room_at us p less)
      ∙ ap (λ (n : Subtree). cond (is_eq (W v (word_at us p))) [] n) (h.3 v)
      ∙ by (has_room (named us (newest hs)) v) (is_eq (W v (word_at us p)))
      ∙ sym (ap (λ b. cond b [] (at ts v)) (room_is v))
    where
      by : (a b : Bool) → cond b [] (cond a [] (at ts v)) ≡ cond (a || b) [] (at ts v)
      by true true = refl
      by true false = refl
      by false true = refl
      by false false = refl

  saved_is : (v : List ℕ) → at (named xs (newest js)) v ≡ cond (has_room (named xs (newest js)) v) (at ts v) []
  saved_is v =
      ap (λ (ks : Trees). at ks v) hidden_named ∙ at_pushed (named us (newest hs)) (word_at us p, at us (word_at us p)) v
      ∙ by (has_room (named us (newest hs)) v) (is_eq (W v (word_at us p))) refl refl
      ∙ sym (ap (λ b. cond b (at ts v) []) (room_is v))
    where
      by : (a b : Bool) → has_room (named us (newest hs)) v ≡ a → is_eq (W v (word_at us p)) ≡ b → cond a (at (named us (newest hs)) v) (cond b (at us (word_at us p)) []) ≡ cond (a || b) (at ts v) []
      by true b e f = h.4 v ∙ ap (λ c. cond c (at ts v) []) e
      by false true e f = ap (at us) (sym (same_word v (word_at us p) f)) ∙ h.3 v ∙ ap (λ c. cond c [] (at ts v)) e
      by false false e f = refl

  pub hides_next : Hides kept ts xs gs js
  hides_next = (
    grows_on ts us xs h.0 (grows_same us xs length_is words_are),
    kept_it ∙ ap (saved (p, at us (word_at us p))) h.1 ∙ ap (λ (ps : Pairs). (kept, ps) ∷ gs) (sym newest_is),
    subst (λ n. HavePlaces n (newest js)) (sym length_is) (subst (HavePlaces (length us)) (sym newest_is) (places_pushed (length us) (newest hs) (p, at us (word_at us p)) h.2 less)),
    now_is,
    saved_is,
  )

  pub hidden_room : (v : List ℕ) → IsTrue (has_room (named us (newest hs)) v) → IsTrue (has_room (named xs (newest js)) v)
  hidden_room v r = subst (λ b. IsTrue b) (sym (room_is v)) (either (has_room (named us (newest hs)) v) (is_eq (W v (word_at us p))) r)
    where
      either : (a b : Bool) → IsTrue a → IsTrue (a || b)
      either true b r = r
      either false b r = absurd cc

  pub hidden_own : IsTrue (has_room (named xs (newest js)) (word_at us p))
  hidden_own = room_is (word_at us p) ∙ ap (λ b. has_room (named us (newest hs)) (word_at us p) || b) (itself (word_at us p)) ∙ last (has_room (named us (newest hs)) (word_at us p))
    where
      last : (a : Bool) → (a || true) ≡ true
      last true = refl
      last false = refl

words_pushed : (ks : Trees) (k : List ℕ × Subtree) → map (λ x. x.0) (ks ++ k ∷ []) ≡ map (λ x. x.0) ks ++ k.0 ∷ []
words_pushed [] k = refl
words_pushed (x ∷ xs) k = ap (λ (r : List (List ℕ)). x.0 ∷ r) (words_pushed xs k)

-- a word of a list, which gets a place first
pub only_next : (vs : List (List ℕ)) (ts us ys xs : Trees) (gs hs js : List Group) (w : List ℕ) (p : ℕ)
    → HidesOnly vs ts us gs hs → ys ≡ added us w → IsPlace w p ys → xs ≡ placed ys (word_at ys p) [] → js ≡ saved (p, at ys (word_at ys p)) hs → HidesOnly (vs ++ w ∷ []) ts xs gs js
only_next vs ts us ys xs gs hs js w p h e place gone kept_it =
    let more = hides_added None ts us w gs hs h.0 in
    let g : Hides None ts ys gs hs = subst (λ (zs : Trees). Hides None ts zs gs hs) (sym e) more.0 in
    let same : named ys (newest hs) ≡ named us (newest hs) = ap (λ (zs : Trees). named zs (newest hs)) e ∙ more.1 in (
      hides_next None ts ys gs hs g p place.0 xs js gone kept_it,
      ap (λ (ks : Trees). map (λ k. k.0) ks) (hidden_named None ts ys gs hs g p place.0 xs js gone kept_it)
          ∙ words_pushed (named ys (newest hs)) (word_at ys p, at ys (word_at ys p))
          ∙ (λ i. (ap (λ (ks : Trees). map (λ k. k.0) ks) same ∙ h.1) i ++ place.1 i ∷ []),
    )

pub only_nothing : (ts : Trees) (hs : List Group) → hs ≡ with_new_group None (rest hs) → HidesOnly [] ts ts (rest hs) hs
only_nothing ts hs e = (hides_nothing None ts hs e, ap (λ (gs : List Group). map (λ k. k.0) (named ts (newest gs))) e)

-- ---- all words but some

others_pushed : (ws : List (List ℕ)) (ks : Trees) (k : List ℕ × Subtree) → AreOthers ws ks → list_any (bytes_eq k.0) ws ≡ false → AreOthers ws (ks ++ k ∷ [])
others_pushed ws [] k h e = (e, tt)
others_pushed ws (x ∷ xs) k h e = (h.0, others_pushed ws xs k h.1 e)

pub others_nothing : (ws : List (List ℕ)) (ts : Trees) (hs : List Group) → hs ≡ with_new_group (Some ws) (rest hs) → HidesOthersTo 0 ws ts ts (rest hs) hs
others_nothing ws ts hs e = (
  hides_nothing (Some ws) ts hs e,
  subst (λ (gs : List Group). AreOthers ws (named ts (newest gs))) (sym e) tt,
  λ p less. absurd (omega arith),
)

pub others_next : (n : ℕ) (ws : List (List ℕ)) (ts us xs : Trees) (gs hs js : List Group) → HidesOthersTo n ws ts us gs hs → n < length ts
    → n < length us → list_any (bytes_eq (word_at us n)) ws ≡ false → xs ≡ placed us (word_at us n) [] → js ≡ saved (n, at us (word_at us n)) hs → HidesOthersTo (n + 1) ws ts xs gs js
others_next n ws ts us xs gs hs js h below less other gone kept_it =
    let same : word_at us n ≡ word_at ts n = (h.0.0 n below).1 in (
      hides_next (Some ws) ts us gs hs h.0 n less xs js gone kept_it,
      subst (AreOthers ws) (sym (hidden_named (Some ws) ts us gs hs h.0 n less xs js gone kept_it)) (others_pushed ws (named us (newest hs)) (word_at us n, at us (word_at us n)) h.1 other),
      λ q less_q covered. elim (cases_lt q n) [
        | inl before ↦ hidden_room (Some ws) ts us gs hs h.0 n less xs js gone kept_it (word_at ts q) (h.2 q before covered)
        | inr not_before ↦
            let here : n ≡ q = omega arith in
            subst (λ r. IsTrue (has_room (named xs (newest js)) (word_at ts r))) here
            (subst (λ (v : List ℕ). IsTrue (has_room (named xs (newest js)) v)) same (hidden_own (Some ws) ts us gs hs h.0 n less xs js gone kept_it))
      ],
    )

-- the word of a place is one of those
pub others_skip : (n : ℕ) (ws : List (List ℕ)) (ts us : Trees) (gs hs : List Group) → HidesOthersTo n ws ts us gs hs
    → n < length ts → list_any (bytes_eq (word_at us n)) ws ≡ true → HidesOthersTo (n + 1) ws ts us gs hs
others_skip n ws ts us gs hs h below among = (
  h.0,
  h.1,
  λ q less_q covered. elim (cases_lt q n) [
    | inl before ↦ h.2 q before covered
    | inr not_before ↦
        let here : q ≡ n = omega arith in
        let no : not (list_any (bytes_eq (word_at ts q)) ws) ≡ false =
        ap (λ r. not (list_any (bytes_eq (word_at ts r)) ws)) here ∙ ap (λ (v : List ℕ). not (list_any (bytes_eq v) ws)) (sym (h.0.0 n below).1) ∙ ap not among in
        let yes : not (list_any (bytes_eq (word_at ts q)) ws) ≡ true = covered in
        let both : false ≡ true = sym no ∙ yes in
        absurd cc
  ],
)

-- ---- what was hidden is put back

pub put_back_at : (kept : Option (List (List ℕ))) (ts us xs : Trees) (gs hs : List Group) → Hides kept ts us gs hs → xs ≡ all_put (named us (newest hs)) us → (v : List ℕ) → at xs v ≡ at ts v
put_back_at kept ts us xs gs hs h is v =
    ap (λ (ys : Trees). at ys v) is ∙ at_all_put (named us (newest hs)) us v (have_room us (newest hs) h.2)
    ∙ (λ i. cond (has_room (named us (newest hs)) v) (h.4 v i) (h.3 v i))
    ∙ by (has_room (named us (newest hs)) v)
  where
    by : (b : Bool) → cond b (cond b (at ts v) []) (cond b [] (at ts v)) ≡ at ts v
    by true = refl
    by false = refl

pub put_back_grows : (kept : Option (List (List ℕ))) (ts us xs : Trees) (gs hs : List Group) → Hides kept ts us gs hs → xs ≡ all_put (named us (newest hs)) us → Grows ts xs
put_back_grows kept ts us xs gs hs h is =
    subst (Grows ts) (sym is)
    (grows_on ts us (all_put (named us (newest hs)) us) h.0 (grows_same us (all_put (named us (newest hs)) us) (length_all_put (named us (newest hs)) us) (word_all_put (named us (newest hs)) us)))

-- ---- for the steps of the functions

pub rest_reduced : (ps : Pairs) (gs : List Group) → rest (reduced ps gs) ≡ rest gs
rest_reduced ps [] = refl
rest_reduced ps (g ∷ gs) = refl
