-- A child that is added: what a call owes, and what it leaves where memory is refused.
use Rattle.std.proofs.Common.{◌≡◌, ℕ, ◌+◌, ◌<◌, ◌≤◌, ℤ, pos, ◌+ℤ◌, Bool, true, false, cond, List, [], ◌∷◌, ◌++◌, length, get_or, Option, Some, None, refl, sym, ap, ◌∙◌, subst, arith, Result, Ok, Err, OnOk, OnErr}
use Rattle.std.specs.Prelude.{T, int_lt, ◌<ℤ◌, ◌≤ℤ◌, MatchOption}
use Rattle.std.specs.Ordering.{is_lt}
use Rattle.std.proofs.lemmas.Int.{ints}
use Rattle.std.specs.FinMap.{is_sorted}
use Rattle.std.specs.FinMap.Entries.{below_all}
use Rattle.std.specs.Map.{lookup}
use Rattle.std.specs.Map.Iter.{TakesFirst, deref_pair}
use Rattle.std.proofs.Common.{Bor}
use Rattle.std.specs.BTreeMap.{is_at, insert_entry}
use Rattle.mj_text.specs.declared.fault.Fault.{Fault}
use Rattle.mj_text.specs.declared.fault.Fault.TheVariants.{Range}
use Rattle.mj_num.specs.Number.{number_of, is_canonic, canonic_text, IsInRange, is_in_range, reading}
use Rattle.mj_num.proofs.Laws.{is_canonic-canonic_text, number_of-canonic_text, IsInRange-from}
use Rattle.mj_subs.specs.Collation.{subscript_cmp}
use Rattle.mj_subs.specs.Laws.Total.{subscript_cmp_total}
use Rattle.mj_store.specs.Questions.{Subtree}
use Rattle.mj_tree.specs.declared.children.Children.{Children}
use Rattle.mj_tree.specs.Nest.{AreFilled}
use Rattle.mj_tree.specs.Maps.{first_so, is_less, both_so, before_less}
use Rattle.mj_tree.specs.Rows.{IsNumber, AreNumbers, IsRow, IsPlace, IsPlaceOf, is_ahead, AllBefore, live, IsOrdered, IsTrimmed, IsSound, CanAdd, Adds, all_of}
use Rattle.mj_tree.proofs.Places.{lookup_front, lookup_place, live_whole, none-live, none_front, sorted_front, sorted_back}
use Rattle.mj_tree.proofs.Growth.{other_ordered, other_live}

abbrev Places : Type 0
Places = List (List ℕ × Subtree)

-- ---- numbers at hand

pub lt_of : (a b : ℤ) → int_lt a b ≡ true → a <ℤ b
lt_of a b e = omega (arith, ints)

pub le_of : (a b : ℤ) → int_lt a b ≡ false → b ≤ℤ a
le_of a b e = omega (arith, ints)

abbrev answer : Bool → ℤ → Result ℤ Fault
answer true z = Ok z
answer false z = Err Range

read_so : (b : Bool) (z n : ℤ) → answer b z ≡ Ok n → (b ≡ true) × (z ≡ n)
read_so true z n e = (refl, cc)
read_so false z n e = absurd cc

-- a text that is kept as a number is its canonic text
pub at_hand_number : (t : List ℕ) (n : ℤ) → reading t ≡ Ok n → t ≡ canonic_text n → IsNumber t n
at_hand_number t n r e =
    let in_range = read_so (is_in_range (number_of t)) (number_of t) n (answered (is_in_range (number_of t)) (number_of t) n r) in
    let within : IsInRange n = subst IsInRange in_range.1 (IsInRange-from (number_of t) in_range.0) in (ap is_canonic e ∙ is_canonic-canonic_text n within, in_range.1)
  where
    answered : (b : Bool) (z n : ℤ) → cond b (Ok z) (Err Range) ≡ Ok n → answer b z ≡ Ok n
    answered true z n e = e
    answered false z n e = e

-- what is written of a number in range
pub written_number : (t : List ℕ) (n : ℤ) → IsInRange n → t ≡ canonic_text n → IsNumber t n
written_number t n h e = (ap is_canonic e ∙ is_canonic-canonic_text n h, ap number_of e ∙ number_of-canonic_text n (omega (arith, h)))

-- ---- the front of a row

pub ahead_none : {X : Type 0} (s : List ℕ) (ks : List (List ℕ × X)) → length ks ≡ 0 → is_ahead s ks ≡ false
ahead_none s [] e = refl
ahead_none s (k ∷ ks) e = absurd (omega arith)

pub ahead_told : {X : Type 0} (s : List ℕ) (ks : List (List ℕ × X)) (x : List ℕ × X) → 0 < length ks → x ≡ get_or ks 0 x → is_lt (subscript_cmp s x.0) ≡ is_ahead s ks
ahead_told {X} s [] x some is = absurd (omega arith)
ahead_told {X} s (k ∷ ks) x some is = ap (λ (e : List ℕ × X). is_lt (subscript_cmp s e.0)) is

pub no_items : {A : Type 0} (xs : List A) → length xs ≡ 0 → xs ≡ []
no_items [] e = refl
no_items (x ∷ xs) e = absurd (omega arith)

pub no_place_empty : (n : ℤ) (ks : Places) → ks ≡ [] → IsPlace n ks None
no_place_empty n ks e s h = ap (λ (xs : Places). lookup (is_at (subscript_cmp s)) xs) e

-- the child at a place of the row
pub found_place : (s : List ℕ) (row others : Places) (at : ℕ) (x : List ℕ × Subtree) → IsOrdered row others → IsPlaceOf s row (Some at) → x ≡ get_or row at x
    → Some x.1 ≡ lookup (is_at (subscript_cmp s)) (row ++ others)
found_place s row others at x o p is =
    sym (lookup_front subscript_cmp s x.1 row others
    (lookup_place subscript_cmp subscript_cmp_total row at s x (sorted_front subscript_cmp row others o.rises) p.0 (p.1 x) ∙ ap (λ (e : List ℕ × Subtree). Some e.1) (sym is)))

-- before the first of the others stands what stands before all of them
pub before_first : (s : List ℕ) (others rest : Places) (x : Bor (List ℕ) × Bor Subtree) → others ≡ deref_pair x ∷ rest → T (is_sorted subscript_cmp others) → is_lt (subscript_cmp s x.0.now) ≡ true
    → T (below_all subscript_cmp s others)
before_first s others rest x is h lt =
    subst (λ (es : Places). T (below_all subscript_cmp s es)) (sym is)
    (let less : T (is_lt (subscript_cmp s x.0.now)) = subst T (sym lt) tt in
    both_so (is_lt (subscript_cmp s x.0.now)) (below_all subscript_cmp s rest) less
    (before_less subscript_cmp subscript_cmp_total s x.0.now rest (is_less _ less) (first_so _ _ (subst (λ (es : Places). T (is_sorted subscript_cmp es)) is h))))

pub before_none : (s : List ℕ) (others : Places) → others ≡ [] → T (below_all subscript_cmp s others)
before_none s others is = subst (λ (es : Places). T (below_all subscript_cmp s es)) (sym is) tt

-- ---- what a call leaves

pub adds_from : {A E : Type 0} (r : Result A E) (old mid new : Children) (s : List ℕ) (c : Subtree) → live (all_of mid) ≡ live (all_of old) → Adds mid new s c r → Adds old new s c r
adds_from (Ok x) old mid new s c same a = record {
  sound = a.sound;
  ok = a.ok ∙ ap (λ (es : Places). insert_entry subscript_cmp es s c) same;
  err = tt;
}
adds_from (Err e) old mid new s c same a = record { sound = a.sound; ok = tt; err = a.err ∙ same }

-- nothing was added
pub adds_nothing : {A E : Type 0} (e : E) (old new : Children) (s : List ℕ) (c : Subtree) → IsSound new → live (all_of new) ≡ live (all_of old) → Adds {A = A} old new s c (Err e)
adds_nothing e old new s c sound same = record { sound = sound; ok = tt; err = same }

pub adds_one : {A E : Type 0} (x : A) (old new : Children) (s : List ℕ) (c : Subtree) → IsSound new → live (all_of new) ≡ insert_entry subscript_cmp (live (all_of old)) s c
    → Adds {E = E} old new s c (Ok x)
adds_one x old new s c sound added = record { sound = sound; ok = added; err = tt }

-- children with the same places
pub sound_same : (old new : Children) → new.row.items ≡ old.row.items → new.others.entries ≡ old.others.entries → IsSound old → IsSound new
sound_same old new r o h = subst (λ (p : Places × Places). IsOrdered p.0 p.1 × IsTrimmed p.0) (sym (λ i. (r i, o i))) h

pub all_same : (old new : Children) → new.row.items ≡ old.row.items → new.others.entries ≡ old.others.entries → all_of new ≡ all_of old
all_same old new r o = (λ i. r i ++ o i)

pub can_same : (old new : Children) (s : List ℕ) (c : Subtree) → new.row.items ≡ old.row.items → new.others.entries ≡ old.others.entries → CanAdd old s c → CanAdd new s c
can_same old new s c r o h = record {
  sound = sound_same old new r o h.sound;
  absent = ap (λ (es : Places). lookup (is_at (subscript_cmp s)) es) (all_same old new r o) ∙ h.absent;
  filled = h.filled;
}

-- after a row went to the others
pub can_spilled : (old new : Children) (s : List ℕ) (c : Subtree) → CanAdd old s c → IsSound new → live (all_of new) ≡ live (all_of old) → length new.row.items ≤ 0 → CanAdd new s c
can_spilled old new s c h sound same none = record {
  sound = sound;
  absent = by new.row.items new.others.entries none sound.0.filled same;
  filled = h.filled;
}
  where
    by : (row others : Places) → length row ≤ 0 → AreFilled others → live (row ++ others) ≡ live (all_of old) → lookup (is_at (subscript_cmp s)) (row ++ others) ≡ None
    by [] others none f same =
        ap (λ (es : Places). lookup (is_at (subscript_cmp s)) es) (sym (live_whole others f) ∙ same) ∙ none-live subscript_cmp s (all_of old) h.absent
    by (k ∷ row) others none f same = absurd (omega arith)

pub none_before : (s : List ℕ) (row : Places) → length row ≤ 0 → AllBefore subscript_cmp s row
none_before s [] h = tt
none_before s (k ∷ ks) h = absurd (omega arith)

-- a child that comes behind the row was put to the others, or refused
pub added_other : {A E : Type 0} (r : Result A E) (old new : Children) (s : List ℕ) (c : Subtree) → CanAdd old s c → AllBefore subscript_cmp s old.row.items → new.row.items ≡ old.row.items
    → OnOk r (new.others.entries ≡ insert_entry subscript_cmp old.others.entries s c) → OnErr r (new.others.entries ≡ old.others.entries) → Adds old new s c r
added_other (Ok x) old new s c h b row ok err = record {
  sound =
      subst (λ (p : Places × Places). IsOrdered p.0 p.1 × IsTrimmed p.0) (sym (λ i. (row i, ok i)))
      (other_ordered s c old.row.items old.others.entries h.sound.0 b h.filled, h.sound.1);
  ok = (λ i. live (row i ++ ok i)) ∙ other_live s c old.row.items old.others.entries h.sound.0 b h.absent h.filled;
  err = tt;
}
added_other (Err e) old new s c h b row ok err = record {
  sound = sound_same old new row err h.sound;
  ok = tt;
  err = (λ i. live (row i ++ err i));
}
