-- What a write through a child leaves of a node, and nodes with one child alone.
use Rattle.std.proofs.Common.{◌≡◌, ℕ, ◌<◌, pos, List, [], ◌∷◌, ◌++◌, length, get_or, Option, Some, None, refl, sym, ap, ◌∙◌, subst, arith, Result, Ok, Err, OnOk, OnErr}
use Rattle.std.specs.Prelude.{T, slice_set, IsErr}
use Rattle.std.specs.Cmp.Lexicographic.{slice_cmp}
use Rattle.std.specs.FinMap.{put, is_sorted}
use Rattle.std.specs.Map.{lookup, set_value, remove_entry}
use Rattle.std.specs.BTreeMap.{is_at, insert_entry}
use Rattle.mj_subs.specs.Collation.{subscript_cmp}
use Rattle.mj_subs.specs.Laws.Total.{subscript_cmp_total}
use Rattle.mj_subs.specs.Laws.Ties.{subscript_cmp-IsAntisymmetric}
use Rattle.mj_store.specs.Questions.{Subtree}
use Rattle.mj_tree.specs.declared.node.Change.{Change}
use Rattle.mj_tree.specs.declared.children.Children.{Children}
use Rattle.mj_tree.specs.Changes.{changed}
use Rattle.mj_tree.specs.Nest.{own, under, below}
use Rattle.mj_tree.specs.Rows.{IsPlaceOf, live, IsOrdered, IsTrimmed, IsSound, CanAdd, Adds, all_of}
use Rattle.mj_tree.proofs.Places.{lookup_past, same_live}
use Rattle.mj_tree.proofs.Puts.{filled_after, filled_lookup, put_written, same_written, put_added, filled_put}
use Rattle.mj_tree.proofs.Changed.{IsWrittenRow, AreWrittenOthers, written_row, written_others, AreWithout, without_others, changed_none, changed_written, changed_removed}
use Rattle.mj_tree.proofs.Whole.{below_alone}
use Rattle.mj_tree.proofs.Copies.{joined, SameText, copied_whole}
use Rattle.mj_tree.proofs.Added.{sound_same, all_same}

abbrev Places : Type 0
Places = List (List ℕ × Subtree)

-- ---- a text that is put through a child

-- what a call leaves that was to put a text below the child at s
pub record PutsSo {A E : Type 0} (r : Result A E) (s : List ℕ) (p : List (List ℕ)) (v : List ℕ) (text : Option (List ℕ)) (row others : Places) (old : Places) : Type 0 where
  pub sound : (IsOrdered row others × IsTrimmed row) × (0 < length (row ++ others))
  pub ok : OnOk r (own text ++ below (row ++ others) ≡ put (slice_cmp subscript_cmp) (s ∷ p) v (own text ++ below old))
  pub err : OnErr r (own text ++ below (row ++ others) ≡ own text ++ below old)

puts_so : {A E : Type 0} (r : Result A E) (s : List ℕ) (p : List (List ℕ)) (v : List ℕ) (text : Option (List ℕ)) (row others old : Places) (c w : Subtree)
    → row ++ others ≡ set_value (is_at (subscript_cmp s)) old w → lookup (is_at (subscript_cmp s)) old ≡ Some c → T (is_sorted subscript_cmp old)
    → OnOk r (w ≡ put (slice_cmp subscript_cmp) p v c) → OnErr r (w ≡ c) → (IsOrdered row others × IsTrimmed row) × (0 < length (row ++ others)) → PutsSo r s p v text row others old
puts_so (Ok x) s p v text row others old c w written there h ok err sound = record {
  sound = sound;
  ok = put_written subscript_cmp subscript_cmp_total old (row ++ others) s c w written there h subscript_cmp-IsAntisymmetric p v text ok;
  err = tt;
}
puts_so (Err e) s p v text row others old c w written there h ok err sound = record {
  sound = sound;
  ok = tt;
  err = same_written subscript_cmp subscript_cmp_total old (row ++ others) s c w written there h text err;
}

pub put_in_row : {A E : Type 0} (r : Result A E) (s : List ℕ) (p : List (List ℕ)) (v : List ℕ) (text : Option (List ℕ)) (row new others : Places) (at : ℕ) (x : List ℕ × Subtree) (w : Subtree)
    → IsOrdered row others → IsTrimmed row → IsPlaceOf s row (Some at) → x ≡ get_or row at x → new ≡ slice_set row at (x.0, w) → OnOk r (w ≡ put (slice_cmp subscript_cmp) p v x.1)
    → OnErr r (w ≡ x.1) → PutsSo r s p v text new others (row ++ others)
put_in_row r s p v text row new others at x w o trimmed place found set ok err =
    let is = written_row s at x w row new others o place found set in
    puts_so r s p v text new others (row ++ others) x.1 w is.written is.there o.rises ok err
    ((is.ordered, is.trimmed trimmed (filled_after subscript_cmp r p v x.1 w ok err)), is.some)

pub put_in_others : {A E : Type 0} (r : Result A E) (s : List ℕ) (p : List (List ℕ)) (v : List ℕ) (text : Option (List ℕ)) (row others new : Places) (c w : Subtree) → IsOrdered row others
    → IsTrimmed row → lookup (is_at (subscript_cmp s)) row ≡ None → lookup (is_at (subscript_cmp s)) others ≡ Some c → new ≡ set_value (is_at (subscript_cmp s)) others w
    → OnOk r (w ≡ put (slice_cmp subscript_cmp) p v c) → OnErr r (w ≡ c) → PutsSo r s p v text row new (row ++ others)
put_in_others r s p v text row others new c w o trimmed none there set ok err =
    let is = written_others s c w row others new o none there set in
    puts_so r s p v text row new (row ++ others) c w is.written is.there o.rises ok err
    ((is.ordered (filled_after subscript_cmp r p v c w ok err (filled_lookup subscript_cmp others s c o.filled there)), trimmed), is.some)

-- ---- a change in a child

-- what a change of the child at s leaves
pub record ChangesSo (change : Change) (s : List ℕ) (p : List (List ℕ)) (text : Option (List ℕ)) (row others old : Places) : Type 0 where
  pub sound : (IsOrdered row others × IsTrimmed row) × (0 < length (row ++ others))
  pub same : own text ++ below (row ++ others) ≡ changed change (s ∷ p) (own text ++ below old)

some_node : (w : Subtree) → (w ≡ [] → ⊥) → 0 < length w
some_node [] none = absurd (none refl)
some_node (x ∷ xs) none = omega arith

pub change_in_row : (change : Change) (s : List ℕ) (p : List (List ℕ)) (text : Option (List ℕ)) (row new others : Places) (at : ℕ) (x : List ℕ × Subtree) (w : Subtree) → IsOrdered row others
    → IsTrimmed row → IsPlaceOf s row (Some at) → x ≡ get_or row at x → new ≡ slice_set row at (x.0, w) → w ≡ changed change p x.1 → (w ≡ [] → ⊥)
    → ChangesSo change s p text new others (row ++ others)
change_in_row change s p text row new others at x w o trimmed place found set is some =
    let h = written_row s at x w row new others o place found set in record {
      sound = ((h.ordered, h.trimmed trimmed (λ _. some_node w some)), h.some);
      same = changed_written change (row ++ others) (new ++ others) s p x.1 w text h.there o.rises is h.written;
    }

-- the child went, so the row has one place less that holds something
pub gone_in_row : (change : Change) (s : List ℕ) (p : List (List ℕ)) (text : Option (List ℕ)) (row new others : Places) (at : ℕ) (x : List ℕ × Subtree) (w : Subtree) (left : Places)
    → IsOrdered row others → IsPlaceOf s row (Some at) → x ≡ get_or row at x → new ≡ slice_set row at (x.0, w) → w ≡ changed change p x.1 → live left ≡ live (new ++ others)
    → own text ++ below left ≡ changed change (s ∷ p) (own text ++ below (row ++ others))
gone_in_row change s p text row new others at x w left o place found set is same =
    let h = written_row s at x w row new others o place found set in
    ap (λ (nodes : Subtree). own text ++ nodes) (same_live left (new ++ others) same)
    ∙ changed_written change (row ++ others) (new ++ others) s p x.1 w text h.there o.rises is h.written

pub change_in_others : (change : Change) (s : List ℕ) (p : List (List ℕ)) (text : Option (List ℕ)) (row others new : Places) (c w : Subtree) → IsOrdered row others → IsTrimmed row
    → lookup (is_at (subscript_cmp s)) row ≡ None → lookup (is_at (subscript_cmp s)) others ≡ Some c → new ≡ set_value (is_at (subscript_cmp s)) others w → w ≡ changed change p c → (w ≡ [] → ⊥)
    → ChangesSo change s p text row new (row ++ others)
change_in_others change s p text row others new c w o trimmed none there set is some =
    let h = written_others s c w row others new o none there set in record {
      sound = ((h.ordered (some_node w some), trimmed), h.some);
      same = changed_written change (row ++ others) (row ++ new) s p c w text h.there o.rises is h.written;
    }

-- the child among the others went, and is taken out
pub record GoesSo (change : Change) (s : List ℕ) (p : List (List ℕ)) (text : Option (List ℕ)) (row others old : Places) : Type 0 where
  pub sound : IsOrdered row others × IsTrimmed row
  pub same : own text ++ below (row ++ others) ≡ changed change (s ∷ p) (own text ++ below old)

pub gone_in_others : (change : Change) (s : List ℕ) (p : List (List ℕ)) (text : Option (List ℕ)) (row others es fs : Places) (c w : Subtree) → IsOrdered row others → IsTrimmed row
    → lookup (is_at (subscript_cmp s)) row ≡ None → lookup (is_at (subscript_cmp s)) others ≡ Some c → es ≡ set_value (is_at (subscript_cmp s)) others w
    → fs ≡ remove_entry (is_at (subscript_cmp s)) es → w ≡ changed change p c → w ≡ [] → GoesSo change s p text row fs (row ++ others)
gone_in_others change s p text row others es fs c w o trimmed none there set gone is empty =
    let h = written_others s c w row others es o none there set in
    let left = without_others s c w row others es fs o none there set gone in record {
      sound = (left.ordered, trimmed);
      same = changed_removed change (row ++ others) (row ++ es) (row ++ fs) s p c w text h.there o.rises is h.written left.removed empty;
    }

-- no child is there
pub change_nowhere : (change : Change) (s : List ℕ) (p : List (List ℕ)) (text : Option (List ℕ)) (row others : Places) → lookup (is_at (subscript_cmp s)) row ≡ None
    → lookup (is_at (subscript_cmp s)) others ≡ None → own text ++ below (row ++ others) ≡ changed change (s ∷ p) (own text ++ below (row ++ others))
change_nowhere change s p text row others none absent =
    sym (changed_none change s p text (row ++ others) (lookup_past subscript_cmp s row others none ∙ absent))

-- ---- one child alone

pub empty_sound : (c : Children) → c.row.items ≡ [] → c.others.entries ≡ [] → IsSound c
empty_sound c row others =
    subst (λ (p : Places × Places). IsOrdered p.0 p.1 × IsTrimmed p.0) (sym (λ i. (row i, others i)))
    (record { is_row = (pos 0, tt); rises = tt; filled = tt }, tt)

pub can_start : (c : Children) (s : List ℕ) (child : Subtree) → c.row.items ≡ [] → c.others.entries ≡ [] → 0 < length child → CanAdd c s child
can_start c s child row others some = record {
  sound = empty_sound c row others;
  absent = (λ i. lookup (is_at (subscript_cmp s)) (row i ++ others i));
  filled = some;
}

pub alone : (old new : Children) (s : List ℕ) (child : Subtree) → old.row.items ≡ [] → old.others.entries ≡ [] → live (all_of new) ≡ insert_entry subscript_cmp (live (all_of old)) s child
    → live (all_of new) ≡ (s, child) ∷ []
alone old new s child row others added = added ∙ (λ i. insert_entry subscript_cmp (live (row i ++ others i)) s child)

pub some_alone : (ks : Places) (s : List ℕ) (child : Subtree) → live ks ≡ (s, child) ∷ [] → 0 < length ks
some_alone [] s child e = absurd cc
some_alone (k ∷ ks) s child e = omega arith

-- a node with one child and no text of its own has the child's text
pub chained : (path rest : List (List ℕ)) (s v : List ℕ) (ks : Places) (child : Subtree) → live ks ≡ (s, child) ∷ [] → child ≡ (rest, v) ∷ [] → path ≡ s ∷ rest → below ks ≡ (path, v) ∷ []
chained path rest s v ks child e one is = below_alone ks s child e ∙ ap (λ (c : Subtree). below ((s, c) ∷ [])) one ∙ (λ i. (sym is i, v) ∷ [])

-- a text is put below a node that has no child
pub put_alone : (ks old : Places) (s : List ℕ) (p : List (List ℕ)) (v : List ℕ) (n : Subtree) (text : Option (List ℕ)) → live ks ≡ (s, n) ∷ [] → n ≡ (p, v) ∷ [] → old ≡ []
    → own text ++ below ks ≡ put (slice_cmp subscript_cmp) (s ∷ p) v (own text ++ below old)
put_alone ks old s p v n text e one none =
    ap (λ (nodes : Subtree). own text ++ nodes) (below_alone ks s n e)
    ∙ put_added subscript_cmp subscript_cmp_total [] ((s, n) ∷ []) s p v n refl one tt subscript_cmp-IsAntisymmetric text refl
    ∙ ap (λ (es : Places). put (slice_cmp subscript_cmp) (s ∷ p) v (own text ++ below es)) (sym none)

-- ---- a copy

-- one place more is copied
pub copied_place : (xs left rest all ys : Places) (x y : List ℕ × Subtree) → xs ++ left ≡ all → left ≡ x ∷ rest → y ≡ x → ys ≡ xs ++ y ∷ [] → ys ++ rest ≡ all
copied_place xs left rest all ys x y whole next same put =
    ap (λ (zs : Places). zs ++ rest) (put ∙ ap (λ (e : List ℕ × Subtree). xs ++ e ∷ []) same)
    ∙ joined xs (x ∷ []) rest
    ∙ ap (λ (zs : Places). xs ++ zs) (sym next)
    ∙ whole

append_none : (xs : Places) → xs ++ [] ≡ xs
append_none [] = refl
append_none (x ∷ xs) = ap (λ (ys : Places). x ∷ ys) (append_none xs)

pub whole_copied : (xs left all : Places) → xs ++ left ≡ all → left ≡ [] → xs ≡ all
whole_copied xs left all whole done = sym (append_none xs) ∙ ap (λ (zs : Places). xs ++ zs) (sym done) ∙ whole

-- a copy of children is sound as they are
pub copied_sound : (old new : Children) → new.row.items ≡ old.row.items → new.others.entries ≡ old.others.entries → IsSound old × (0 < length (all_of old)) → IsSound new × (0 < length (all_of new))
copied_sound old new row others h = (sound_same old new row others h.0, subst (λ (ks : Places). 0 < length ks) (sym (all_same old new row others)) h.1)

-- a call that ended early added nothing
pub adds_stopped : {A E : Type 0} (r : Result A E) (old new : Children) (s : List ℕ) (c : Subtree) → IsErr r → IsSound new → live (all_of new) ≡ live (all_of old) → Adds old new s c r
adds_stopped (Ok x) old new s c failed sound same = absurd cc
adds_stopped (Err e) old new s c failed sound same = record { sound = sound; ok = tt; err = same }
