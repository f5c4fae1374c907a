-- A map by words is the map by their bytes.
use Rattle.std.proofs.Common.{◌≡◌, ℕ, ◌+◌, ◌-◌, Bool, true, false, cond, ◌&&◌, List, [], ◌∷◌, Option, Some, None, Vec, Global, refl, sym, ap, ◌∙◌, subst, arith}
use Rattle.std.specs.Prelude.{vec_len, is_some, ◌==◌, MatchOption}
use Rattle.std.specs.declared.cmp.Ordering.{Ordering}
use Rattle.std.specs.declared.cmp.Ordering.TheVariants.{Less, Equal, Greater}
use Rattle.std.specs.Ordering.{is_eq, eq_by_cmp, match_ordering}
use Rattle.std.specs.Cmp.{IsTotalOrder}
use Rattle.std.specs.Str.{bytes_eq}
use Rattle.std.specs.List.{AllZip}
use Rattle.std.specs.Map.{lookup, set_value}
use Rattle.std.specs.BTreeMap.{is_at, insert_entry}
use Rattle.std.specs.FinMap.{find, put}
use Rattle.std.specs.FinMap.Entries.{find-put, by_order}
use Rattle.std.proofs.lemmas.Cmp.{nat_list_cmp_total, eq_by_cmp_equiv}
use Rattle.std.proofs.lemmas.Map.{lookup-set_value}
use Rattle.std.proofs.lemmas.Map.Text.{is_eq-slice_cmp}
use Rattle.mj_subs.specs.Name.{Name, names_eq}
use Rattle.mj_locktab.specs.Trees.{Stands, Kids, word_cmp, spelled, at_words, at_name, is_place_of, is_place_above, is_at_or_above, paths_eq, is_front, stand_in, kid_at, holder_of, tally_of, is_in_way, NoOther, IsLeastOther, AreAlike, HasOneMore, HasOneLess, IsWritten}
use Rattle.mj_locktab.proofs.Kids.{more_kid, less_kid, alike_kid, written_none}
use Rattle.mj_locktab.proofs.InWay.{nobody}

word_cmp_total : IsTotalOrder word_cmp
word_cmp_total = nat_list_cmp_total

words_tied : (s t : List ℕ) → bytes_eq s t ≡ eq_by_cmp word_cmp s t
words_tied s t = sym (is_eq-slice_cmp s t)

-- ---- the map by its words, and by their bytes

module _ (f : List ℕ → Ordering) where
  pub lookup_spelled : (es : List (Vec ℕ Global × Stands)) → lookup (is_at (λ (k : Vec ℕ Global). f k.items)) es ≡ lookup (is_at f) (spelled es)
  lookup_spelled [] = refl
  lookup_spelled (e ∷ es) = ap (λ (r : Option Stands). cond (is_eq (f e.0.items)) (Some e.1) r) (lookup_spelled es)

  set_spelled : (es : List (Vec ℕ Global × Stands)) (w : Stands) → spelled (set_value (is_at (λ (k : Vec ℕ Global). f k.items)) es w) ≡ set_value (is_at f) (spelled es) w
  set_spelled [] w = refl
  set_spelled (e ∷ es) w =
      elim (is_eq (f e.0.items)) as (λ b. spelled (cond b ((e.0, w) ∷ es) (e ∷ set_value (is_at (λ (k : Vec ℕ Global). f k.items)) es w))
      ≡ cond b ((e.0.items, w) ∷ spelled es) ((e.0.items, e.1) ∷ set_value (is_at f) (spelled es) w)) [
        | true ↦ refl
        | false ↦ ap (λ (r : Kids). (e.0.items, e.1) ∷ r) (set_spelled es w)
      ]

insert_spelled : (es : List (Vec ℕ Global × Stands)) (k : Vec ℕ Global) (w : Stands)
    → spelled (insert_entry (λ (x y : Vec ℕ Global). word_cmp x.items y.items) es k w) ≡ put word_cmp k.items w (spelled es)
insert_spelled [] k w = refl
insert_spelled (e ∷ es) k w =
    elim (word_cmp k.items e.0.items) as (λ r. spelled (match_ordering r ((k, w) ∷ e ∷ es) ((e.0, w) ∷ es) (e ∷ insert_entry (λ (x y : Vec ℕ Global). word_cmp x.items y.items) es k w))
    ≡ by_order r ((k.items, w) ∷ (e.0.items, e.1) ∷ spelled es) ((e.0.items, w) ∷ spelled es) ((e.0.items, e.1) ∷ put word_cmp k.items w (spelled es))) [
      | Less ↦ refl
      | Equal ↦ refl
      | Greater ↦ ap (λ (r : Kids). (e.0.items, e.1) ∷ r) (insert_spelled es k w)
    ]

find_lookup : (es : Kids) (q : List ℕ) → find word_cmp q es ≡ lookup (is_at (word_cmp q)) es
find_lookup [] q = refl
find_lookup (e ∷ es) q = ap (cond (is_at (word_cmp q) e.0) (Some e.1)) (find_lookup es q)

-- ---- a word whose tree is written over or put there

one_key : (w x y : List ℕ) → is_at (word_cmp w) x ≡ true → is_at (word_cmp w) y ≡ eq_by_cmp word_cmp x y
one_key w x y t = ap is_eq (word_cmp_total.congr w x y (tied (word_cmp w x) t)) where
  tied : (r : Ordering) → is_eq r ≡ true → r ≡ Equal
  tied Less e = absurd (let never : ⊥ = cc in never)
  tied Equal e = refl
  tied Greater e = absurd (let never : ⊥ = cc in never)

pub word_written : (es new : List (Vec ℕ Global × Stands)) (key w : List ℕ) (old child : Stands) → key ≡ w → Some old ≡ lookup (is_at (λ (k : Vec ℕ Global). word_cmp key k.items)) es
    → new ≡ set_value (is_at (λ (k : Vec ℕ Global). word_cmp key k.items)) es child → IsWritten word_cmp (spelled es) (spelled new) w (Some child)
word_written es new key w old child same there written = λ q.
    ap (λ (xs : List (Vec ℕ Global × Stands)). lookup (is_at (word_cmp q)) (spelled xs)) written
    ∙ ap (λ (xs : Kids). lookup (is_at (word_cmp q)) xs) (set_spelled (word_cmp key) es child)
    ∙ lookup-set_value (eq_by_cmp_equiv word_cmp_total) (is_at (word_cmp key)) (one_key key) q child (spelled es)
    (ap (λ (o : Option Stands). is_some o) (sym (there ∙ lookup_spelled (word_cmp key) es)))
    ∙ ap (λ (x : List ℕ). cond (is_at (word_cmp x) q) (Some child) (lookup (is_at (word_cmp q)) (spelled es))) same

pub word_put : (es new : List (Vec ℕ Global × Stands)) (k : Vec ℕ Global) (w : List ℕ) (child : Stands) → k.items ≡ w
    → new ≡ insert_entry (λ (x y : Vec ℕ Global). word_cmp x.items y.items) es k child → IsWritten word_cmp (spelled es) (spelled new) w (Some child)
word_put es new k w child same added = λ q.
    ap (λ (xs : List (Vec ℕ Global × Stands)). lookup (is_at (word_cmp q)) (spelled xs)) added
    ∙ ap (λ (xs : Kids). lookup (is_at (word_cmp q)) xs) (insert_spelled es k child)
    ∙ sym (find_lookup (put word_cmp k.items child (spelled es)) q)
    ∙ find-put word_cmp word_cmp_total q k.items child (spelled es)
    ∙ ap (λ b. cond b (Some child) (find word_cmp q (spelled es))) ((eq_by_cmp_equiv word_cmp_total).symm q k.items)
    ∙ ap (λ (o : Option Stands). cond (is_at (word_cmp k.items) q) (Some child) o) (find_lookup (spelled es) q)
    ∙ ap (λ (x : List ℕ). cond (is_at (word_cmp x) q) (Some child) (lookup (is_at (word_cmp q)) (spelled es))) same

-- ---- a change of the tree of a word

pub there_spelled : (es : List (Vec ℕ Global × Stands)) (key w : List ℕ) (o : Option Stands) → key ≡ w → o ≡ lookup (is_at (λ (k : Vec ℕ Global). word_cmp key k.items)) es
    → lookup (is_at (word_cmp w)) (spelled es) ≡ o
there_spelled es key w o same there =
    ap (λ (x : List ℕ). lookup (is_at (word_cmp x)) (spelled es)) (sym same) ∙ sym (there ∙ lookup_spelled (word_cmp key) es)

module _ (es new : List (Vec ℕ Global × Stands)) (key : List ℕ) (n : Name) (path : List (List ℕ)) (job : ℕ) (same : key ≡ n.word) (pieces : path ≡ n.subscripts) (before after : Option Stands)
    (there : before ≡ lookup (is_at (λ (k : Vec ℕ Global). word_cmp key k.items)) es) (written : IsWritten word_cmp (spelled es) (spelled new) n.word after) where
  pub more_word : HasOneMore (stand_in before) (stand_in after) (λ p. paths_eq p path) (λ p. is_front p path) job
      → HasOneMore (at_words (spelled es)) (at_words (spelled new)) (is_place_of n) (is_place_above n) job
  more_word more =
      more_kid word_cmp word_cmp_total words_tied (spelled es) (spelled new) n.word before after (there_spelled es key n.word before same there) written
      (λ p. paths_eq p n.subscripts) (λ p. is_front p n.subscripts) job
      (subst (λ (x : List (List ℕ)). HasOneMore (stand_in before) (stand_in after) (λ p. paths_eq p x) (λ p. is_front p x) job) pieces more)

  pub less_word : HasOneLess (stand_in before) (stand_in after) (λ p. paths_eq p path) (λ p. is_front p path) job
      → HasOneLess (at_words (spelled es)) (at_words (spelled new)) (is_place_of n) (is_place_above n) job
  less_word less =
      less_kid word_cmp word_cmp_total words_tied (spelled es) (spelled new) n.word before after (there_spelled es key n.word before same there) written
      (λ p. paths_eq p n.subscripts) (λ p. is_front p n.subscripts) job
      (subst (λ (x : List (List ℕ)). HasOneLess (stand_in before) (stand_in after) (λ p. paths_eq p x) (λ p. is_front p x) job) pieces less)

  pub alike_word : AreAlike (stand_in before) (stand_in after) → AreAlike (at_words (spelled es)) (at_words (spelled new))
  alike_word alike = alike_kid word_cmp word_cmp_total words_tied (spelled es) (spelled new) n.word before after (there_spelled es key n.word before same there) written alike

-- a word that has no tree is as if its tree were taken out
pub word_none : (es : List (Vec ℕ Global × Stands)) (key w : List ℕ) → key ≡ w → None ≡ lookup (is_at (λ (k : Vec ℕ Global). word_cmp key k.items)) es
    → IsWritten word_cmp (spelled es) (spelled es) w None
word_none es key w same none = written_none word_cmp word_cmp_total words_tied (spelled es) w (there_spelled es key w None same none)

-- ---- who is in the way, by the words of a kind

pub told_below : (words : Kids) (w v : List ℕ) (p q : List (List ℕ)) (job : ℕ) (r : Option ℕ) (o : Option Stands) → v ≡ w → q ≡ p → o ≡ lookup (is_at (word_cmp v)) words
    → MatchOption r (NoOther (is_in_way (stand_in o) q) job) (IsLeastOther (is_in_way (stand_in o) q) job)
    → MatchOption r (NoOther (is_in_way (λ x. kid_at word_cmp words w x) p) job) (IsLeastOther (is_in_way (λ x. kid_at word_cmp words w x) p) job)
told_below words w v p q job r o same pieces there told =
    subst (λ (x : List ℕ). MatchOption r (NoOther (is_in_way (λ y. kid_at word_cmp words x y) p) job) (IsLeastOther (is_in_way (λ y. kid_at word_cmp words x y) p) job)) same
    (subst (λ (x : List (List ℕ)). MatchOption r (NoOther (is_in_way (λ y. kid_at word_cmp words v y) x) job) (IsLeastOther (is_in_way (λ y. kid_at word_cmp words v y) x) job)) pieces
    (subst (λ (x : Option Stands). MatchOption r (NoOther (is_in_way (stand_in x) q) job) (IsLeastOther (is_in_way (stand_in x) q) job)) there told))

pub nobody_below : (p : List (List ℕ)) (job : ℕ) → NoOther (is_in_way (stand_in None) p) job
nobody_below p job = λ j other. nobody p j

-- ---- a copy of each word and of its tree spells the same

same_items : (xs ys : List ℕ) → AllZip (λ (x y : ℕ). y ≡ x) xs ys → ys ≡ xs
same_items [] [] h = refl
same_items [] (y ∷ ys) h = absurd h
same_items (x ∷ xs) [] h = absurd h
same_items (x ∷ xs) (y ∷ ys) h = (λ i. h.0 i ∷ same_items xs ys h.1 i)

pub copy_spelled : (es fs : List (Vec ℕ Global × Stands)) → AllZip (λ (p q : Vec ℕ Global × Stands). (AllZip (λ (x y : ℕ). y ≡ x) p.0.items q.0.items × (vec_len q.0 ≡ vec_len p.0)) × (q.1 ≡ p.1)) es
    fs → spelled fs ≡ spelled es
copy_spelled [] [] h = refl
copy_spelled [] (f ∷ fs) h = absurd h
copy_spelled (e ∷ es) [] h = absurd h
copy_spelled (e ∷ es) (f ∷ fs) h = (λ i. (same_items e.0.items f.0.items h.0.0.0 i, h.0.1 i) ∷ copy_spelled es fs h.1 i)

-- ---- of both kinds

module _ (globals locals : Kids) (n : Name) (job : ℕ) where
  -- a change of the words of globals, or of locals, at a name of that kind
  pub more_global : (new : Kids) → n.global ≡ true → HasOneMore (at_words globals) (at_words new) (is_place_of n) (is_place_above n) job
      → HasOneMore (at_name globals locals) (at_name new locals) (λ m. names_eq m n) (λ m. is_at_or_above m n) job
  more_global new kind more = record {
    holders = λ m. at_holder m.global m.word m.subscripts n.global kind;
    tallies = λ m j. at_tally m.global m.word m.subscripts j n.global kind;
  } where
    at_holder : (g : Bool) (w : List ℕ) (p : List (List ℕ)) (k : Bool) → k ≡ true → holder_of (kid_at word_cmp (cond g new locals) w p)
        ≡ cond (names_eq (record { global = g; word = w; subscripts = p }) (record { global = k; word = n.word; subscripts = n.subscripts }))
        (Some job) (holder_of (kid_at word_cmp (cond g globals locals) w p))
    at_holder true w p true is = more.holders (w, p)
    at_holder true w p false is = absurd (let never : ⊥ = cc in never)
    at_holder false w p true is = refl
    at_holder false w p false is = absurd (let never : ⊥ = cc in never)

    at_tally : (g : Bool) (w : List ℕ) (p : List (List ℕ)) (j : ℕ) (k : Bool) → k ≡ true → tally_of (kid_at word_cmp (cond g new locals) w p) j
        ≡ tally_of (kid_at word_cmp (cond g globals locals) w p) j
        + cond (is_at_or_above (record { global = g; word = w; subscripts = p }) (record { global = k; word = n.word; subscripts = n.subscripts }) && j == job) 1 0
    at_tally true w p j true is = more.tallies (w, p) j
    at_tally true w p j false is = absurd (let never : ⊥ = cc in never)
    at_tally false w p j true is = omega arith
    at_tally false w p j false is = absurd (let never : ⊥ = cc in never)

  pub more_local : (new : Kids) → n.global ≡ false → HasOneMore (at_words locals) (at_words new) (is_place_of n) (is_place_above n) job
      → HasOneMore (at_name globals locals) (at_name globals new) (λ m. names_eq m n) (λ m. is_at_or_above m n) job
  more_local new kind more = record {
    holders = λ m. at_holder m.global m.word m.subscripts n.global kind;
    tallies = λ m j. at_tally m.global m.word m.subscripts j n.global kind;
  } where
    at_holder : (g : Bool) (w : List ℕ) (p : List (List ℕ)) (k : Bool) → k ≡ false → holder_of (kid_at word_cmp (cond g globals new) w p)
        ≡ cond (names_eq (record { global = g; word = w; subscripts = p }) (record { global = k; word = n.word; subscripts = n.subscripts }))
        (Some job) (holder_of (kid_at word_cmp (cond g globals locals) w p))
    at_holder false w p false is = more.holders (w, p)
    at_holder false w p true is = absurd (let never : ⊥ = cc in never)
    at_holder true w p false is = refl
    at_holder true w p true is = absurd (let never : ⊥ = cc in never)

    at_tally : (g : Bool) (w : List ℕ) (p : List (List ℕ)) (j : ℕ) (k : Bool) → k ≡ false → tally_of (kid_at word_cmp (cond g globals new) w p) j
        ≡ tally_of (kid_at word_cmp (cond g globals locals) w p) j
        + cond (is_at_or_above (record { global = g; word = w; subscripts = p }) (record { global = k; word = n.word; subscripts = n.subscripts }) && j == job) 1 0
    at_tally false w p j false is = more.tallies (w, p) j
    at_tally false w p j true is = absurd (let never : ⊥ = cc in never)
    at_tally true w p j false is = omega arith
    at_tally true w p j true is = absurd (let never : ⊥ = cc in never)

  pub less_global : (new : Kids) → n.global ≡ true → HasOneLess (at_words globals) (at_words new) (is_place_of n) (is_place_above n) job
      → HasOneLess (at_name globals locals) (at_name new locals) (λ m. names_eq m n) (λ m. is_at_or_above m n) job
  less_global new kind less = record {
    holders = λ m. at_holder m.global m.word m.subscripts n.global kind;
    tallies = λ m j. at_tally m.global m.word m.subscripts j n.global kind;
  } where
    at_holder : (g : Bool) (w : List ℕ) (p : List (List ℕ)) (k : Bool) → k ≡ true → holder_of (kid_at word_cmp (cond g new locals) w p)
        ≡ cond (names_eq (record { global = g; word = w; subscripts = p }) (record { global = k; word = n.word; subscripts = n.subscripts }))
        None (holder_of (kid_at word_cmp (cond g globals locals) w p))
    at_holder true w p true is = less.holders (w, p)
    at_holder true w p false is = absurd (let never : ⊥ = cc in never)
    at_holder false w p true is = refl
    at_holder false w p false is = absurd (let never : ⊥ = cc in never)

    at_tally : (g : Bool) (w : List ℕ) (p : List (List ℕ)) (j : ℕ) (k : Bool) → k ≡ true → tally_of (kid_at word_cmp (cond g new locals) w p) j
        ≡ tally_of (kid_at word_cmp (cond g globals locals) w p) j
        - cond (is_at_or_above (record { global = g; word = w; subscripts = p }) (record { global = k; word = n.word; subscripts = n.subscripts }) && j == job) 1 0
    at_tally true w p j true is = less.tallies (w, p) j
    at_tally true w p j false is = absurd (let never : ⊥ = cc in never)
    at_tally false w p j true is = omega arith
    at_tally false w p j false is = absurd (let never : ⊥ = cc in never)

  pub less_local : (new : Kids) → n.global ≡ false → HasOneLess (at_words locals) (at_words new) (is_place_of n) (is_place_above n) job
      → HasOneLess (at_name globals locals) (at_name globals new) (λ m. names_eq m n) (λ m. is_at_or_above m n) job
  less_local new kind less = record {
    holders = λ m. at_holder m.global m.word m.subscripts n.global kind;
    tallies = λ m j. at_tally m.global m.word m.subscripts j n.global kind;
  } where
    at_holder : (g : Bool) (w : List ℕ) (p : List (List ℕ)) (k : Bool) → k ≡ false → holder_of (kid_at word_cmp (cond g globals new) w p)
        ≡ cond (names_eq (record { global = g; word = w; subscripts = p }) (record { global = k; word = n.word; subscripts = n.subscripts }))
        None (holder_of (kid_at word_cmp (cond g globals locals) w p))
    at_holder false w p false is = less.holders (w, p)
    at_holder false w p true is = absurd (let never : ⊥ = cc in never)
    at_holder true w p false is = refl
    at_holder true w p true is = absurd (let never : ⊥ = cc in never)

    at_tally : (g : Bool) (w : List ℕ) (p : List (List ℕ)) (j : ℕ) (k : Bool) → k ≡ false → tally_of (kid_at word_cmp (cond g globals new) w p) j
        ≡ tally_of (kid_at word_cmp (cond g globals locals) w p) j
        - cond (is_at_or_above (record { global = g; word = w; subscripts = p }) (record { global = k; word = n.word; subscripts = n.subscripts }) && j == job) 1 0
    at_tally false w p j false is = less.tallies (w, p) j
    at_tally false w p j true is = absurd (let never : ⊥ = cc in never)
    at_tally true w p j false is = omega arith
    at_tally true w p j true is = absurd (let never : ⊥ = cc in never)

-- nothing that is told of one kind changes
pub alike_kinds : (globals locals g l : Kids) → AreAlike (at_words globals) (at_words g) → AreAlike (at_words locals) (at_words l) → AreAlike (at_name globals locals) (at_name g l)
alike_kinds globals locals g l one two = record { holders = λ m. holders m.global m.word m.subscripts; tallies = λ m j. tallies m.global m.word m.subscripts j } where
  holders : (k : Bool) (w : List ℕ) (p : List (List ℕ)) → holder_of (kid_at word_cmp (cond k g l) w p) ≡ holder_of (kid_at word_cmp (cond k globals locals) w p)
  holders true w p = one.holders (w, p)
  holders false w p = two.holders (w, p)

  tallies : (k : Bool) (w : List ℕ) (p : List (List ℕ)) (j : ℕ) → tally_of (kid_at word_cmp (cond k g l) w p) j ≡ tally_of (kid_at word_cmp (cond k globals locals) w p) j
  tallies true w p j = one.tallies (w, p) j
  tallies false w p j = two.tallies (w, p) j

pub alike_words : (words : Kids) → AreAlike (at_words words) (at_words words)
alike_words words = record { holders = λ q. refl; tallies = λ q j. refl }
