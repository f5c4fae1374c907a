-- A change in a child is the change in the node.
use Rattle.std.proofs.Common.{◌≡◌, ℕ, zero, suc, ◌<◌, ◌≤◌, List, [], ◌∷◌, ◌++◌, length, get_or, Option, Some, None, refl, sym, ap, ◌∙◌, subst, arith}
use Rattle.std.specs.Prelude.{T, slice_set}
use Rattle.std.specs.FinMap.{is_sorted}
use Rattle.std.specs.Map.{lookup, set_value, remove_entry}
use Rattle.std.specs.BTreeMap.{is_at}
use Rattle.mj_subs.specs.Collation.{subscript_cmp}
use Rattle.mj_subs.specs.Laws.Total.{subscript_cmp_total}
use Rattle.mj_store.specs.Questions.{Subtree}
use Rattle.mj_tree.specs.declared.node.Change.{Change}
use Rattle.mj_tree.specs.declared.node.Change.TheVariants.{Kill, Restore}
use Rattle.mj_tree.specs.Changes.{changed}
use Rattle.mj_tree.specs.Nest.{own, below, AreFilled}
use Rattle.mj_tree.specs.Maps.{lookup_written, sorted_set_value, sorted_removed}
use Rattle.mj_tree.specs.Rows.{AreNumbers, IsPlaceOf, live, IsOrdered, IsTrimmed}
use Rattle.mj_tree.proofs.Places.{lookup_front, lookup_past, set_front, set_past, remove_past, lookup_place, set_place, sorted_front, sorted_back, same_live}
use Rattle.mj_tree.proofs.Numbers.{numbers_set}
use Rattle.mj_tree.proofs.Puts.{filled_written}
use Rattle.mj_tree.proofs.Kills.{kill_none, kill_written, kill_removed, filled_removed}
use Rattle.mj_tree.proofs.Undo.{restore_none, restore_written, restore_removed}

abbrev Places : Type 0
Places = List (List ℕ × Subtree)

-- ---- any change

pub changed_none : (change : Change) (s : List ℕ) (p : List (List ℕ)) (text : Option (List ℕ)) (ks : Places) → lookup (is_at (subscript_cmp s)) ks ≡ None
    → changed change (s ∷ p) (own text ++ below ks) ≡ own text ++ below ks
changed_none Kill s p text ks none = kill_none subscript_cmp s p text ks none
changed_none (Restore value) s p text ks none = restore_none subscript_cmp s p value text ks none

pub changed_written : (change : Change) (ks es : Places) (s : List ℕ) (p : List (List ℕ)) (c w : Subtree) (text : Option (List ℕ)) → lookup (is_at (subscript_cmp s)) ks ≡ Some c
    → T (is_sorted subscript_cmp ks) → w ≡ changed change p c → es ≡ set_value (is_at (subscript_cmp s)) ks w → own text ++ below es ≡ changed change (s ∷ p) (own text ++ below ks)
changed_written Kill ks es s p c w text there h is written = kill_written subscript_cmp subscript_cmp_total ks s p c w there h is es text written
changed_written (Restore value) ks es s p c w text there h is written = restore_written subscript_cmp subscript_cmp_total ks s p value c w there h is es text written

pub changed_removed : (change : Change) (ks es fs : Places) (s : List ℕ) (p : List (List ℕ)) (c w : Subtree) (text : Option (List ℕ)) → lookup (is_at (subscript_cmp s)) ks ≡ Some c
    → T (is_sorted subscript_cmp ks) → w ≡ changed change p c → es ≡ set_value (is_at (subscript_cmp s)) ks w → fs ≡ remove_entry (is_at (subscript_cmp s)) es → w ≡ []
    → own text ++ below fs ≡ changed change (s ∷ p) (own text ++ below ks)
changed_removed Kill ks es fs s p c w text there h is written removed empty = kill_removed subscript_cmp subscript_cmp_total ks s p c w there h is es fs text written removed empty
changed_removed (Restore value) ks es fs s p c w text there h is written removed empty =
    restore_removed subscript_cmp subscript_cmp_total ks s p value c w there h is es fs text written removed empty

-- ---- a child in the row that is written

-- what a row is once its child at s has the nodes w in place of c, with the same others behind it
pub record IsWrittenRow (s : List ℕ) (c w : Subtree) (at : ℕ) (row new others : Places) : Type 0 where
  pub ordered : IsOrdered new others
  pub there : lookup (is_at (subscript_cmp s)) (row ++ others) ≡ Some c
  pub written : new ++ others ≡ set_value (is_at (subscript_cmp s)) (row ++ others) w
  pub trimmed : IsTrimmed row → (0 < length c → 0 < length w) → IsTrimmed new
  pub behind : 0 < at → IsTrimmed row → IsTrimmed new
  pub some : 0 < length (new ++ others)

trimmed_set : (row : Places) (at : ℕ) (x : List ℕ × Subtree) (k : List ℕ) (w : Subtree) → at < length row → IsTrimmed row → (0 < length (get_or row at x).1 → 0 < length w)
    → IsTrimmed (slice_set row at (k, w))
trimmed_set [] at x k w lt h f = absurd (omega arith)
trimmed_set (e ∷ es) zero x k w lt h f = f h
trimmed_set (e ∷ es) (suc at) x k w lt h f = h

trimmed_behind : (row : Places) (at : ℕ) (e : List ℕ × Subtree) → 0 < at → IsTrimmed row → IsTrimmed (slice_set row at e)
trimmed_behind [] at e b h = tt
trimmed_behind (k ∷ ks) zero e b h = absurd (omega arith)
trimmed_behind (k ∷ ks) (suc at) e b h = h

some_set : (row others : Places) (at : ℕ) (e : List ℕ × Subtree) → at < length row → 0 < length (slice_set row at e ++ others)
some_set [] others at e lt = absurd (omega arith)
some_set (k ∷ ks) others zero e lt = omega arith
some_set (k ∷ ks) others (suc at) e lt = omega arith

pub length_set : (row : Places) (at : ℕ) (e : List ℕ × Subtree) → length (slice_set row at e) ≡ length row
length_set [] zero e = refl
length_set [] (suc at) e = refl
length_set (k ∷ ks) zero e = refl
length_set (k ∷ ks) (suc at) e = ap suc (length_set ks at e)

pub written_row : (s : List ℕ) (at : ℕ) (x : List ℕ × Subtree) (w : Subtree) (row new others : Places) → IsOrdered row others → IsPlaceOf s row (Some at) → x ≡ get_or row at x
    → new ≡ slice_set row at (x.0, w) → IsWrittenRow s x.1 w at row new others
written_row s at x w row new others o p is set =
    let key : x.0 ≡ s = ap (λ (e : List ℕ × Subtree). e.0) is ∙ p.1 x in
    let front = sorted_front subscript_cmp row others o.rises in
    let found : lookup (is_at (subscript_cmp s)) row ≡ Some x.1 =
    lookup_place subscript_cmp subscript_cmp_total row at s x front p.0 (p.1 x) ∙ ap (λ (e : List ℕ × Subtree). Some e.1) (sym is) in
    let there = lookup_front subscript_cmp s x.1 row others found in
    let rewritten : new ++ others ≡ set_value (is_at (subscript_cmp s)) (row ++ others) w =
    ap (λ (xs : Places). xs ++ others) (set ∙ set_place subscript_cmp subscript_cmp_total row at s (x.0, w) x front p.0 (p.1 x) key) ∙ sym (set_front subscript_cmp s x.1 w row others found) in
    record {
      ordered = record {
        is_row = (o.is_row.0, subst (AreNumbers o.is_row.0) (sym set) (numbers_set o.is_row.0 row at (x.0, w) x o.is_row.1 p.0 (ap (λ (e : List ℕ × Subtree). e.0) is)));
        rises = subst (λ (xs : Places). T (is_sorted subscript_cmp xs)) (sym rewritten) (sorted_set_value subscript_cmp subscript_cmp_total (row ++ others) s x.1 w o.rises there);
        filled = o.filled;
      };
      there = there;
      written = rewritten;
      trimmed = λ h f. subst IsTrimmed (sym set) (trimmed_set row at x x.0 w p.0 h (λ n. f (subst (λ (e : List ℕ × Subtree). 0 < length e.1) (sym is) n)));
      behind = λ b h. subst IsTrimmed (sym set) (trimmed_behind row at (x.0, w) b h);
      some = subst (λ (xs : Places). 0 < length (xs ++ others)) (sym set) (some_set row others at (x.0, w) p.0);
    }

-- ---- a child among the others that is written, or then taken out

pub record AreWrittenOthers (s : List ℕ) (c w : Subtree) (row others new : Places) : Type 0 where
  pub there : lookup (is_at (subscript_cmp s)) (row ++ others) ≡ Some c
  pub written : row ++ new ≡ set_value (is_at (subscript_cmp s)) (row ++ others) w
  pub ordered : 0 < length w → IsOrdered row new
  pub some : 0 < length (row ++ new)

some_found : (s : List ℕ) (c : Subtree) (ks : Places) → lookup (is_at (subscript_cmp s)) ks ≡ Some c → 0 < length ks
some_found s c [] h = absurd cc
some_found s c (k ∷ ks) h = omega arith

pub written_others : (s : List ℕ) (c w : Subtree) (row others new : Places) → IsOrdered row others → lookup (is_at (subscript_cmp s)) row ≡ None → lookup (is_at (subscript_cmp s)) others ≡ Some c
    → new ≡ set_value (is_at (subscript_cmp s)) others w → AreWrittenOthers s c w row others new
written_others s c w row others new o none there set =
    let found = lookup_past subscript_cmp s row others none ∙ there in
    let rewritten : row ++ new ≡ set_value (is_at (subscript_cmp s)) (row ++ others) w = ap (λ (xs : Places). row ++ xs) set ∙ sym (set_past subscript_cmp s w row others none) in
    record {
      there = found;
      written = rewritten;
      ordered = λ f. record {
        is_row = o.is_row;
        rises = subst (λ (xs : Places). T (is_sorted subscript_cmp xs)) (sym rewritten) (sorted_set_value subscript_cmp subscript_cmp_total (row ++ others) s c w o.rises found);
        filled = filled_written subscript_cmp subscript_cmp_total others new s c w set there (sorted_back subscript_cmp row others o.rises) o.filled f;
      };
      some =
          some_found s w (row ++ new)
          (ap (λ (xs : Places). lookup (is_at (subscript_cmp s)) xs) rewritten ∙ lookup_written subscript_cmp (row ++ others) s c w found);
    }

-- the child went, and is taken out
pub record AreWithout (s : List ℕ) (row old new : Places) : Type 0 where
  pub removed : row ++ new ≡ remove_entry (is_at (subscript_cmp s)) (row ++ old)
  pub ordered : IsOrdered row new

pub without_others : (s : List ℕ) (c w : Subtree) (row others es fs : Places) → IsOrdered row others → lookup (is_at (subscript_cmp s)) row ≡ None → lookup (is_at (subscript_cmp s)) others ≡ Some c
    → es ≡ set_value (is_at (subscript_cmp s)) others w → fs ≡ remove_entry (is_at (subscript_cmp s)) es → AreWithout s row es fs
without_others s c w row others es fs o none there set gone =
    let w0 = written_others s c w row others es o none there set in
    let taken : row ++ fs ≡ remove_entry (is_at (subscript_cmp s)) (row ++ es) = ap (λ (xs : Places). row ++ xs) gone ∙ sym (remove_past subscript_cmp s row es none) in
    record {
      removed = taken;
      ordered = record {
        is_row = o.is_row;
        rises =
            subst (λ (xs : Places). T (is_sorted subscript_cmp xs)) (sym taken)
            (sorted_removed subscript_cmp s (row ++ es) (subst (λ (xs : Places). T (is_sorted subscript_cmp xs)) (sym w0.written)
            (sorted_set_value subscript_cmp subscript_cmp_total (row ++ others) s c w o.rises w0.there)));
        filled =
            subst AreFilled (sym (gone ∙ ap (λ (xs : Places). remove_entry (is_at (subscript_cmp s)) xs) set)) (filled_removed subscript_cmp s others w o.filled);
      };
    }
