-- It is noted that a run had an end.
use borrow.Author.Tests.{ltb-false}
use Rattle.std.specs.Prelude.{slice_index_or, slice_set, position, if◌then◌else◌}
use Rattle.std.specs.List.{position_or_len, list_any}
use Rattle.std.specs.Str.{bytes_eq}
use Rattle.std.proofs.lemmas.Slice.Eq.{bytes_eq-Decides}
use Rattle.std.proofs.lemmas.Option.{none-some}
use Rattle.std.proofs.lemmas.List.Sums.{fails_before_first, prefix_len-le-length}
use Rattle.std.proofs.Common.{◌≡◌, ℕ, zero, suc, ◌<◌, ◌≤◌, List, [], ◌∷◌, ◌++◌, length, Bool, true, false, Option, Some, None, cond, nat_lt, ◌||◌, refl, sym, ap, ◌∙◌, arith}
use Rattle.mj_explore.specs.declared.ends.End.{End}
use Rattle.mj_explore.specs.Ends.{noted, often, once_more, texts_of}

-- the text of an end
abbrev text_of : End → List ℕ
text_of end = end.text.items

module _ (text other : List ℕ) where
  abbrev now : ℕ → ℕ
  now was = if bytes_eq text other then once_more was else was

  -- this end has the text, or another
  pick : (c : Bool) (a b rest : ℕ) → a ≡ once_more b → (if c then a else rest) ≡ (if c then once_more (if c then b else rest) else (if c then b else rest))
  pick true a b rest is = is
  pick false a b rest is = refl

  beside : (b c : Bool) (runs rest was : ℕ) → (never : b ≡ true → c ≡ true → ⊥) → rest ≡ (if c then once_more was else was)
      → (if b then runs else rest) ≡ (if c then once_more (if b then runs else was) else (if b then runs else was))
  beside true true runs rest was never is = absurd (never refl refl)
  beside true false runs rest was never is = refl
  beside false c runs rest was never is = is

  apart : (e : End) → bytes_eq (text_of e) text ≡ false → bytes_eq (text_of e) other ≡ true → bytes_eq text other ≡ true → ⊥
  apart e not_it this that =
      let same : text_of e ≡ text = (bytes_eq-Decides (text_of e) other).0 this ∙ sym ((bytes_eq-Decides text other).0 that) in
      let no : false ≡ true = sym not_it ∙ (bytes_eq-Decides (text_of e) text).1 same in
      cc

  -- one run more had the end that stands there
  pub changed : (ends : List End) (k : ℕ) (d end : End) → k < length ends → bytes_eq (text_of (slice_index_or ends k d)) text ≡ true
      → ((j : ℕ) → j < k → bytes_eq (text_of (slice_index_or ends j d)) text ≡ false)
      → text_of end ≡ text_of (slice_index_or ends k d) → end.runs ≡ once_more (slice_index_or ends k d).runs
      → often (slice_set ends k end) other ≡ now (often ends other)
  changed [] k d end within here before same more = absurd (omega (arith, within))
  changed (e ∷ ends) zero d end within here before same more =
      let old : text_of e ≡ text = (bytes_eq-Decides (text_of e) text).0 here in
      let new : text_of end ≡ text = same ∙ old in
      ap (λ (t : List ℕ). if bytes_eq t other then end.runs else often ends other) new
      ∙ pick (bytes_eq text other) end.runs e.runs (often ends other) more
      ∙ sym (ap (λ (t : List ℕ). now (if bytes_eq t other then e.runs else often ends other)) old)
  changed (e ∷ ends) (suc k) d end within here before same more =
      beside (bytes_eq (text_of e) other) (bytes_eq text other) e.runs (often (slice_set ends k end) other) (often ends other) (apart e (before 0 (omega arith)))
      (changed ends k d end (omega (arith, within)) here (λ j below. before (suc j) (omega (arith, below))) same more)

  -- or it is a new one
  pub joined : (ends : List End) (end : End) → text_of end ≡ text → end.runs ≡ 1
      → ((j : ℕ) (d : End) → j < length ends → bytes_eq (text_of (slice_index_or ends j d)) text ≡ false)
      → often (ends ++ end ∷ []) other ≡ now (often ends other)
  joined [] end new once none =
      ap (λ (t : List ℕ). if bytes_eq t other then end.runs else 0) new ∙ ap (λ (n : ℕ). if bytes_eq text other then n else 0) once
  joined (e ∷ ends) end new once none =
      beside (bytes_eq (text_of e) other) (bytes_eq text other) e.runs (often (ends ++ end ∷ []) other) (often ends other) (apart e (none 0 e (omega arith)))
      (joined ends end new once (λ j d below. none (suc j) d (omega (arith, below))))

module _ (text : List ℕ) where
  abbrev test : List ℕ → Bool
  test kept = bytes_eq kept text

  or_true : (b : Bool) → (b || true) ≡ true
  or_true true = refl
  or_true false = refl

  -- a text that is there
  is_there : (ends : List End) (k : ℕ) (d : End) → k < length ends → bytes_eq (text_of (slice_index_or ends k d)) text ≡ true → list_any test (texts_of ends) ≡ true
  is_there [] k d within here = absurd (omega (arith, within))
  is_there (e ∷ ends) zero d within here = ap (λ (b : Bool). b || list_any test (texts_of ends)) here
  is_there (e ∷ ends) (suc k) d within here = ap (λ (b : Bool). test (text_of e) || b) (is_there ends k d (omega (arith, within)) here) ∙ or_true (test (text_of e))

  is_none : (ends : List End) → ((j : ℕ) (d : End) → j < length ends → bytes_eq (text_of (slice_index_or ends j d)) text ≡ false) → list_any test (texts_of ends) ≡ false
  is_none [] none = refl
  is_none (e ∷ ends) none =
      ap (λ (b : Bool). b || list_any test (texts_of ends)) (none 0 e (omega arith)) ∙ is_none ends (λ j d below. none (suc j) d (omega (arith, below)))

  set_texts : (ends : List End) (k : ℕ) (d end : End) → k < length ends → text_of end ≡ text_of (slice_index_or ends k d) → texts_of (slice_set ends k end) ≡ texts_of ends
  set_texts [] k d end within same = absurd (omega (arith, within))
  set_texts (e ∷ ends) zero d end within same = ap (λ (t : List ℕ). t ∷ texts_of ends) same
  set_texts (e ∷ ends) (suc k) d end within same = ap (λ (ts : List (List ℕ)). text_of e ∷ ts) (set_texts ends k d end (omega (arith, within)) same)

  push_texts : (ends : List End) (end : End) → texts_of (ends ++ end ∷ []) ≡ texts_of ends ++ text_of end ∷ []
  push_texts [] end = refl
  push_texts (e ∷ ends) end = ap (λ (ts : List (List ℕ)). text_of e ∷ ts) (push_texts ends end)

  pub texts_stay : (ends : List End) (k : ℕ) (d end : End) → k < length ends → bytes_eq (text_of (slice_index_or ends k d)) text ≡ true
      → text_of end ≡ text_of (slice_index_or ends k d) → texts_of (slice_set ends k end) ≡ noted (texts_of ends) text
  texts_stay ends k d end within here same =
      set_texts ends k d end within same
      ∙ sym (ap (λ (b : Bool). if b then texts_of ends else texts_of ends ++ text ∷ []) (is_there ends k d within here))

  pub texts_grow : (ends : List End) (end : End) → text_of end ≡ text
      → ((j : ℕ) (d : End) → j < length ends → bytes_eq (text_of (slice_index_or ends j d)) text ≡ false)
      → texts_of (ends ++ end ∷ []) ≡ noted (texts_of ends) text
  texts_grow ends end new none =
      push_texts ends end ∙ ap (λ (t : List ℕ). texts_of ends ++ t ∷ []) new
      ∙ sym (ap (λ (b : Bool). if b then texts_of ends else texts_of ends ++ text ∷ []) (is_none ends none))

-- where no element passes a test
none_passes : {X : Type 0} (p : X → Bool) (xs : List X) → position p xs ≡ None → position_or_len p xs ≡ length xs
none_passes p xs none = by (nat_lt (position_or_len p xs) (length xs)) refl none where
  by : (b : Bool) → nat_lt (position_or_len p xs) (length xs) ≡ b → cond {A = Option ℕ} b (Some (position_or_len p xs)) None ≡ None → position_or_len p xs ≡ length xs
  by true e q = absurd (none-some (position_or_len p xs) (sym q))
  by false e q = let at_most : position_or_len p xs ≤ length xs = prefix_len-le-length _ xs in omega (arith, ltb-false, e, at_most)

-- a text that isn't found is none of these
pub is_new : (text : List ℕ) (ends : List End) → position (λ e. bytes_eq (text_of e) text) ends ≡ None
    → (j : ℕ) (d : End) → j < length ends → bytes_eq (text_of (slice_index_or ends j d)) text ≡ false
is_new text ends none j d below =
    let end = none_passes (λ e. bytes_eq (text_of e) text) ends none in
    fails_before_first (λ e. bytes_eq (text_of e) text) ends j d (omega (arith, end, below))
