-- What stands at the places of a node is told by its own stand and by its children.
use Rattle.std.proofs.Common.{◌≡◌, ℕ, zero, suc, ◌+◌, ◌-◌, ◌<◌, ◌≤◌, Bool, true, false, cond, ◌&&◌, List, [], ◌∷◌, ◌++◌, length, take, drop, get_or, Option, Some, None, refl, sym, ap, ◌∙◌, subst, arith}
use Rattle.std.specs.Prelude.{◌==◌}
use Rattle.std.specs.Option.{option_or}
use Rattle.std.specs.List.Sorted.{IsStrictlySortedBy}
use Rattle.std.specs.Map.{keys_of, lookup}
use Rattle.std.specs.BTreeMap.{is_at}
use Rattle.std.specs.Str.{bytes_eq}
use Rattle.std.proofs.lemmas.Cmp.{eq_by_cmp_equiv}
use Rattle.std.proofs.lemmas.Map.{lookup-none}
use Rattle.std.proofs.lemmas.Map.Keys.{sorted_tail, IsDistinct-from_sorted}
use Rattle.std.proofs.lemmas.Map.Entries.{none_past_head}
use Rattle.mj_subs.specs.Collation.{subscript_cmp}
use Rattle.mj_subs.specs.Laws.Total.{subscript_cmp_total}
use Rattle.mj_subs.specs.Laws.Ties.{bytes_eq-subscript_cmp}
use Rattle.mj_locktab.specs.Trees.{Tallies, Stand, Stands, Kids, under, below, paths_eq, stand_at, tally, holder_of, tally_of, stand_in, kid_at, is_front, AreAlike, HasOneMore, HasOneLess, IsWritten}
use Rattle.mj_locktab.proofs.Kids.{more_kid, less_kid, alike_kid}

abbrev pub AreRising : Kids → Type 0
AreRising ks = IsStrictlySortedBy subscript_cmp (keys_of ks)

-- ---- a node and its children

two_tests : (b c : Bool) (v : Stand) (o r : Option Stand) → cond (b && c) (Some v) (cond b (option_or o r) r) ≡ cond b (option_or (cond c (Some v) o) r) r
two_tests true true v o r = refl
two_tests true false v o r = refl
two_tests false c v o r = refl

either_same : (b : Bool) (r : Option Stand) → r ≡ cond b (option_or None r) r
either_same true r = refl
either_same false r = refl

stand-under : (t : List ℕ) (stands rest : Stands) (s : List ℕ) (p : List (List ℕ))
    → stand_at (under t stands ++ rest) (s ∷ p) ≡ cond (bytes_eq s t) (option_or (stand_at stands p) (stand_at rest (s ∷ p))) (stand_at rest (s ∷ p))
stand-under t [] rest s p = either_same (bytes_eq s t) (stand_at rest (s ∷ p))
stand-under t (e ∷ es) rest s p =
    ap (λ (o : Option Stand). cond (bytes_eq s t && paths_eq p e.0) (Some e.1) o) (stand-under t es rest s p)
    ∙ two_tests (bytes_eq s t) (paths_eq p e.0) e.1 (stand_at es p) (stand_at rest (s ∷ p))

or_none : (o : Option Stand) → option_or o None ≡ o
or_none None = refl
or_none (Some v) = refl

pub stand-below : (ks : Kids) (s : List ℕ) (p : List (List ℕ)) → AreRising ks → stand_at (below ks) (s ∷ p) ≡ kid_at subscript_cmp ks s p
stand-below [] s p h = refl
stand-below (k ∷ ks) s p h =
    stand-under k.0 k.1 (below ks) s p
    ∙ ap (λ (o : Option Stand). cond (bytes_eq s k.0) (option_or (stand_at k.1 p) o) o) (stand-below ks s p (sorted_tail subscript_cmp k.0 (keys_of ks) h))
    ∙ at (bytes_eq s k.0) refl
    ∙ ap (λ b. stand_in (cond b (Some k.1) (lookup (is_at (subscript_cmp s)) ks)) p) (bytes_eq-subscript_cmp s k.0)
  where
    at : (b : Bool) → bytes_eq s k.0 ≡ b → cond b (option_or (stand_at k.1 p) (kid_at subscript_cmp ks s p)) (kid_at subscript_cmp ks s p)
        ≡ stand_in (cond b (Some k.1) (lookup (is_at (subscript_cmp s)) ks)) p
    at true e =
        let none : lookup (is_at (subscript_cmp s)) ks ≡ None =
        lookup-none (is_at (subscript_cmp s)) ks
        (none_past_head (eq_by_cmp_equiv subscript_cmp_total) s k ks (IsDistinct-from_sorted subscript_cmp (keys_of (k ∷ ks)) h) (sym (bytes_eq-subscript_cmp s k.0) ∙ e)) in
        ap (λ (l : Option Stands). option_or (stand_at k.1 p) (stand_in l p)) none ∙ or_none (stand_at k.1 p)
    at false e = refl

-- ---- a change below a node, at a child

module _ (own next : Stand) (ks new : Kids) (s : List ℕ) (rest : List (List ℕ)) (before after : Option Stands) (rises : AreRising ks) (rises' : AreRising new)
    (there : lookup (is_at (subscript_cmp s)) ks ≡ before) (written : IsWritten subscript_cmp ks new s after) (same : next.0 ≡ own.0) where
  old_place : (t : List ℕ) (p : List (List ℕ)) → stand_at (([], own) ∷ below ks) (t ∷ p) ≡ kid_at subscript_cmp ks t p
  old_place t p = stand-below ks t p rises

  new_place : (t : List ℕ) (p : List (List ℕ)) → stand_at (([], next) ∷ below new) (t ∷ p) ≡ kid_at subscript_cmp new t p
  new_place t p = stand-below new t p rises'

  -- the job holds one name more below
  pub more_below : (job : ℕ) → ((j : ℕ) → tally next.1 j ≡ tally own.1 j + cond (j == job) 1 0)
      → HasOneMore (stand_in before) (stand_in after) (λ p. paths_eq p rest) (λ p. is_front p rest) job
      → HasOneMore (stand_at (([], own) ∷ below ks)) (stand_at (([], next) ∷ below new)) (λ p. paths_eq p (s ∷ rest)) (λ p. is_front p (s ∷ rest)) job
  more_below job raised more = record { holders = holders; tallies = tallies } where
    kids : HasOneMore (λ (q : List ℕ × List (List ℕ)). kid_at subscript_cmp ks q.0 q.1) (λ q. kid_at subscript_cmp new q.0 q.1) (λ q. bytes_eq q.0 s && paths_eq q.1 rest)
        (λ q. bytes_eq q.0 s && is_front q.1 rest) job
    kids = more_kid subscript_cmp subscript_cmp_total bytes_eq-subscript_cmp ks new s before after there written (λ p. paths_eq p rest) (λ p. is_front p rest) job more

    holders : (p : List (List ℕ)) → holder_of (stand_at (([], next) ∷ below new) p) ≡ cond (paths_eq p (s ∷ rest)) (Some job) (holder_of (stand_at (([], own) ∷ below ks) p))
    holders [] = same
    holders (t ∷ p) =
        ap (λ (o : Option Stand). holder_of o) (new_place t p) ∙ kids.holders (t, p)
        ∙ ap (λ (o : Option Stand). cond (bytes_eq t s && paths_eq p rest) (Some job) (holder_of o)) (sym (old_place t p))

    tallies : (p : List (List ℕ)) (j : ℕ) → tally_of (stand_at (([], next) ∷ below new) p) j ≡ tally_of (stand_at (([], own) ∷ below ks) p) j + cond (is_front p (s ∷ rest) && j == job) 1 0
    tallies [] j = raised j
    tallies (t ∷ p) j =
        ap (λ (o : Option Stand). tally_of o j) (new_place t p) ∙ kids.tallies (t, p) j
        ∙ ap (λ (o : Option Stand). tally_of o j + cond ((bytes_eq t s && is_front p rest) && j == job) 1 0) (sym (old_place t p))

  -- it holds one name less below
  pub less_below : (job : ℕ) → ((j : ℕ) → tally next.1 j ≡ tally own.1 j - cond (j == job) 1 0)
      → HasOneLess (stand_in before) (stand_in after) (λ p. paths_eq p rest) (λ p. is_front p rest) job
      → HasOneLess (stand_at (([], own) ∷ below ks)) (stand_at (([], next) ∷ below new)) (λ p. paths_eq p (s ∷ rest)) (λ p. is_front p (s ∷ rest)) job
  less_below job lowered less = record { holders = holders; tallies = tallies } where
    kids : HasOneLess (λ (q : List ℕ × List (List ℕ)). kid_at subscript_cmp ks q.0 q.1) (λ q. kid_at subscript_cmp new q.0 q.1) (λ q. bytes_eq q.0 s && paths_eq q.1 rest)
        (λ q. bytes_eq q.0 s && is_front q.1 rest) job
    kids = less_kid subscript_cmp subscript_cmp_total bytes_eq-subscript_cmp ks new s before after there written (λ p. paths_eq p rest) (λ p. is_front p rest) job less

    holders : (p : List (List ℕ)) → holder_of (stand_at (([], next) ∷ below new) p) ≡ cond (paths_eq p (s ∷ rest)) None (holder_of (stand_at (([], own) ∷ below ks) p))
    holders [] = same
    holders (t ∷ p) =
        ap (λ (o : Option Stand). holder_of o) (new_place t p) ∙ kids.holders (t, p)
        ∙ ap (λ (o : Option Stand). cond (bytes_eq t s && paths_eq p rest) None (holder_of o)) (sym (old_place t p))

    tallies : (p : List (List ℕ)) (j : ℕ) → tally_of (stand_at (([], next) ∷ below new) p) j ≡ tally_of (stand_at (([], own) ∷ below ks) p) j - cond (is_front p (s ∷ rest) && j == job) 1 0
    tallies [] j = lowered j
    tallies (t ∷ p) j =
        ap (λ (o : Option Stand). tally_of o j) (new_place t p) ∙ kids.tallies (t, p) j
        ∙ ap (λ (o : Option Stand). tally_of o j - cond ((bytes_eq t s && is_front p rest) && j == job) 1 0) (sym (old_place t p))

  -- nothing that is told changes
  pub alike_below : ((j : ℕ) → tally next.1 j ≡ tally own.1 j) → AreAlike (stand_in before) (stand_in after) → AreAlike (stand_at (([], own) ∷ below ks)) (stand_at (([], next) ∷ below new))
  alike_below told alike = record { holders = holders; tallies = tallies } where
    kids : AreAlike (λ (q : List ℕ × List (List ℕ)). kid_at subscript_cmp ks q.0 q.1) (λ q. kid_at subscript_cmp new q.0 q.1)
    kids = alike_kid subscript_cmp subscript_cmp_total bytes_eq-subscript_cmp ks new s before after there written alike

    holders : (p : List (List ℕ)) → holder_of (stand_at (([], next) ∷ below new) p) ≡ holder_of (stand_at (([], own) ∷ below ks) p)
    holders [] = same
    holders (t ∷ p) = ap (λ (o : Option Stand). holder_of o) (new_place t p) ∙ kids.holders (t, p) ∙ ap (λ (o : Option Stand). holder_of o) (sym (old_place t p))

    tallies : (p : List (List ℕ)) (j : ℕ) → tally_of (stand_at (([], next) ∷ below new) p) j ≡ tally_of (stand_at (([], own) ∷ below ks) p) j
    tallies [] j = told j
    tallies (t ∷ p) j = ap (λ (o : Option Stand). tally_of o j) (new_place t p) ∙ kids.tallies (t, p) j ∙ ap (λ (o : Option Stand). tally_of o j) (sym (old_place t p))

-- ---- a node's own stand

module _ (own next : Stand) (ks : Kids) where
  -- where only the tallies may differ, and tell the same
  pub alike_own : next.0 ≡ own.0 → ((j : ℕ) → tally next.1 j ≡ tally own.1 j) → AreAlike (stand_at (([], own) ∷ below ks)) (stand_at (([], next) ∷ below ks))
  alike_own same alike = record { holders = holders; tallies = tallies } where
    holders : (p : List (List ℕ)) → holder_of (stand_at (([], next) ∷ below ks) p) ≡ holder_of (stand_at (([], own) ∷ below ks) p)
    holders [] = same
    holders (t ∷ p) = refl

    tallies : (p : List (List ℕ)) (j : ℕ) → tally_of (stand_at (([], next) ∷ below ks) p) j ≡ tally_of (stand_at (([], own) ∷ below ks) p) j
    tallies [] j = alike j
    tallies (t ∷ p) j = refl

  pub more_here : (job : ℕ) → next.0 ≡ Some job → ((j : ℕ) → tally next.1 j ≡ tally own.1 j + cond (j == job) 1 0)
      → HasOneMore (stand_at (([], own) ∷ below ks)) (stand_at (([], next) ∷ below ks)) (λ p. paths_eq p []) (λ p. is_front p []) job
  more_here job is raised = record { holders = holders; tallies = tallies } where
    holders : (p : List (List ℕ)) → holder_of (stand_at (([], next) ∷ below ks) p) ≡ cond (paths_eq p []) (Some job) (holder_of (stand_at (([], own) ∷ below ks) p))
    holders [] = is
    holders (t ∷ p) = refl

    tallies : (p : List (List ℕ)) (j : ℕ) → tally_of (stand_at (([], next) ∷ below ks) p) j ≡ tally_of (stand_at (([], own) ∷ below ks) p) j + cond (is_front p [] && j == job) 1 0
    tallies [] j = raised j
    tallies (t ∷ p) j = omega arith

  pub less_here : (job : ℕ) → next.0 ≡ None → ((j : ℕ) → tally next.1 j ≡ tally own.1 j - cond (j == job) 1 0)
      → HasOneLess (stand_at (([], own) ∷ below ks)) (stand_at (([], next) ∷ below ks)) (λ p. paths_eq p []) (λ p. is_front p []) job
  less_here job is lowered = record { holders = holders; tallies = tallies } where
    holders : (p : List (List ℕ)) → holder_of (stand_at (([], next) ∷ below ks) p) ≡ cond (paths_eq p []) None (holder_of (stand_at (([], own) ∷ below ks) p))
    holders [] = is
    holders (t ∷ p) = refl

    tallies : (p : List (List ℕ)) (j : ℕ) → tally_of (stand_at (([], next) ∷ below ks) p) j ≡ tally_of (stand_at (([], own) ∷ below ks) p) j - cond (is_front p [] && j == job) 1 0
    tallies [] j = lowered j
    tallies (t ∷ p) j = omega arith

-- at a bare node no name is held
pub bare_node : AreAlike (λ p. None) (stand_at (([], (None, [])) ∷ below []))
bare_node = record { holders = holders; tallies = tallies } where
  holders : (p : List (List ℕ)) → holder_of (stand_at (([], (None, [])) ∷ []) p) ≡ None
  holders [] = refl
  holders (t ∷ p) = refl

  tallies : (p : List (List ℕ)) (j : ℕ) → tally_of (stand_at (([], (None, [])) ∷ []) p) j ≡ 0
  tallies [] j = refl
  tallies (t ∷ p) j = refl

pub bare_with : (tallies : Tallies) (ks : Kids) → tallies ≡ [] → ks ≡ [] → AreAlike (λ p. None) (stand_at (([], (None, tallies)) ∷ below ks))
bare_with tallies ks none empty =
    subst (λ (es : Kids). AreAlike (λ p. None) (stand_at (([], (None, tallies)) ∷ below es))) (sym empty)
    (subst (λ (ts : Tallies). AreAlike (λ p. None) (stand_at (([], (None, ts)) ∷ below []))) (sym none) bare_node)

pub no_entries : {A : Type 0} (xs : List A) → length xs ≡ 0 → xs ≡ []
no_entries [] h = refl
no_entries (x ∷ xs) h = absurd (omega arith)

-- ---- a list of subscripts, as a pattern takes it apart

take_whole : {A : Type 0} (zs : List A) (n : ℕ) → length zs ≤ n → take n zs ≡ zs
take_whole [] zero h = refl
take_whole [] (suc n) h = refl
take_whole (z ∷ zs) zero h = absurd (omega arith)
take_whole (z ∷ zs) (suc n) h = ap (λ ws. z ∷ ws) (take_whole zs n (omega arith))

pub first_and_rest : {A : Type 0} (xs : List A) (x : A) → 1 ≤ length xs → x ≡ get_or xs 0 x → xs ≡ x ∷ take (length xs - 1) (drop 1 xs)
first_and_rest [] x le is = absurd (omega arith)
first_and_rest (y ∷ ys) x le is = (λ i. sym is i ∷ sym (take_whole ys (length (y ∷ ys) - 1) (omega arith)) i)

pub no_elements : {A : Type 0} (xs : List A) → length xs < 1 → xs ≡ []
no_elements [] lt = refl
no_elements (y ∷ ys) lt = absurd (omega arith)

-- what is told of a node by its parts, and by the pieces of a path, is told of it

pub more_seen : (view node new : Stands) (q path : List (List ℕ)) (job : ℕ) → view ≡ node → path ≡ q → HasOneMore (stand_at view) (stand_at new) (λ p. paths_eq p q) (λ p. is_front p q) job
    → HasOneMore (stand_at node) (stand_at new) (λ p. paths_eq p path) (λ p. is_front p path) job
more_seen view node new q path job seen pieces told =
    subst (λ (x : List (List ℕ)). HasOneMore (stand_at node) (stand_at new) (λ p. paths_eq p x) (λ p. is_front p x) job) (sym pieces)
    (subst (λ (v : Stands). HasOneMore (stand_at v) (stand_at new) (λ p. paths_eq p q) (λ p. is_front p q) job) seen told)

pub less_seen : (view node new : Stands) (q path : List (List ℕ)) (job : ℕ) → view ≡ node → path ≡ q → HasOneLess (stand_at view) (stand_at new) (λ p. paths_eq p q) (λ p. is_front p q) job
    → HasOneLess (stand_at node) (stand_at new) (λ p. paths_eq p path) (λ p. is_front p path) job
less_seen view node new q path job seen pieces told =
    subst (λ (x : List (List ℕ)). HasOneLess (stand_at node) (stand_at new) (λ p. paths_eq p x) (λ p. is_front p x) job) (sym pieces)
    (subst (λ (v : Stands). HasOneLess (stand_at v) (stand_at new) (λ p. paths_eq p q) (λ p. is_front p q) job) seen told)
