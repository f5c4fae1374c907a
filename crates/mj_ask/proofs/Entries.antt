-- Bytes are read as the entry that is written so, and nothing else is read.
use Rattle.std.proofs.Common.{◌≡◌, ℕ, ◌+◌, Bool, true, false, not, cond, ◌&&◌, ◌||◌, eqb, eqb-true, List, [], ◌∷◌, ◌++◌, length, take, drop, Option, Some, None, refl, sym, ap, subst, ◌∙◌, append_assoc, length-append}
use Rattle.std.proofs.Math.Seq.{take-append_seam, drop-append_seam}
use Rattle.std.proofs.lemmas.Iterator.Adapters.{position_from-zero}
use Rattle.std.specs.List.{list_all, position_from}
use Rattle.std.specs.Prelude.{nat_lt, nat_le}
use Rattle.std.specs.Char.{is_ascii_digit, is_ascii_alphabetic, is_ascii_alphanumeric}
use Rattle.mj_subs.specs.Name.{is_word}
use Rattle.mj_ask.specs.declared.entry.Entry.{Entry}
use Rattle.mj_ask.specs.Written.{is_label, is_entry, entry_text, is_caret, entry_from, entry_of, IsReading}

-- ---- no caret in a label

both_true : (a b : Bool) → (a && b) ≡ true → (a ≡ true) × (b ≡ true)
both_true true b e = (refl, e)
both_true false b e = absurd cc

-- a byte that passes a test that a caret doesn't
not_caret : (t : ℕ → Bool) (c : ℕ) → t 94 ≡ false → t c ≡ true → is_caret c ≡ false
not_caret t c out is = by (eqb c 94) refl
  where
    by : (b : Bool) → eqb c 94 ≡ b → b ≡ false
    by true e = let h : t c ≡ t 94 = ap t (eqb-true c 94 e) in absurd cc
    by false e = refl

-- no byte is a caret
abbrev has_none : List ℕ → Bool
has_none l = list_all (λ c. not (is_caret c)) l

none_of : (t : ℕ → Bool) (l : List ℕ) → t 94 ≡ false → list_all t l ≡ true → has_none l ≡ true
none_of t [] out is = refl
none_of t (c ∷ l) out is =
    let p = both_true (t c) (list_all t l) is in
    let h = not_caret t c out p.0 in
    let k = none_of t l out p.1 in
    λ i. not (h i) && k i

word_has_none : (c : ℕ) (cs : List ℕ) → is_word (c ∷ cs) ≡ true → has_none (c ∷ cs) ≡ true
word_has_none c cs h =
    let p = both_true ((is_ascii_alphabetic c || eqb c 37) && list_all is_ascii_alphanumeric cs) (nat_lt (length cs) 31) h in
    let q = both_true (is_ascii_alphabetic c || eqb c 37) (list_all is_ascii_alphanumeric cs) p.0 in
    let first = not_caret (λ b. is_ascii_alphabetic b || eqb b 37) c refl q.0 in
    let rest = none_of is_ascii_alphanumeric cs refl q.1 in
    λ i. not (first i) && rest i

label_has_none : (l : List ℕ) → is_label l ≡ true → has_none l ≡ true
label_has_none [] h = absurd cc
label_has_none (c ∷ cs) h = by (is_word (c ∷ cs)) refl h
  where
    by : (b : Bool) → is_word (c ∷ cs) ≡ b → (b || (list_all is_ascii_digit (c ∷ cs) && nat_le (length (c ∷ cs)) 1048576)) ≡ true → has_none (c ∷ cs) ≡ true
    by true e k = word_has_none c cs e
    by false e k = none_of is_ascii_digit (c ∷ cs) refl (both_true (list_all is_ascii_digit (c ∷ cs)) (nat_le (length (c ∷ cs)) 1048576) k).0

-- ---- the first caret

-- the entry of the bytes behind a front without a caret
abbrev from : List ℕ → List ℕ → Option Entry
from front [] = None
from front (c ∷ cs) = cond (is_caret c) (entry_from front cs) (from (front ++ c ∷ []) cs)

abbrev at : List ℕ → Option ℕ → Option Entry
at bytes o = elim o [ None ↦ None | Some i ↦ entry_from (take i bytes) (drop (i + 1) bytes) ]

drop_next : (front cs : List ℕ) (c : ℕ) → drop (length front + 1) (front ++ c ∷ cs) ≡ cs
drop_next front cs c =
    let h : (front ++ c ∷ []) ++ cs ≡ front ++ c ∷ cs = append_assoc front (c ∷ []) cs in
    subst (λ l. drop (length front + 1) l ≡ cs) h
    (subst (λ (n : ℕ). drop n ((front ++ c ∷ []) ++ cs) ≡ cs) (length-append front (c ∷ [])) (drop-append_seam (front ++ c ∷ []) cs))

at_next : (front cs : List ℕ) (c : ℕ) → at ((front ++ c ∷ []) ++ cs) (position_from is_caret (length (front ++ c ∷ [])) cs) ≡ from (front ++ c ∷ []) cs
    → at (front ++ c ∷ cs) (position_from is_caret (length front + 1) cs) ≡ from (front ++ c ∷ []) cs
at_next front cs c h =
    subst (λ l. at l (position_from is_caret (length front + 1) cs) ≡ from (front ++ c ∷ []) cs) (append_assoc front (c ∷ []) cs)
    (subst (λ (n : ℕ). at ((front ++ c ∷ []) ++ cs) (position_from is_caret n cs) ≡ from (front ++ c ∷ []) cs) (length-append front (c ∷ [])) h)

at_by : (front cs : List ℕ) (c : ℕ) (b : Bool) → at (front ++ c ∷ cs) (position_from is_caret (length front + 1) cs) ≡ from (front ++ c ∷ []) cs
    → at (front ++ c ∷ cs) (cond b (Some (length front)) (position_from is_caret (length front + 1) cs)) ≡ cond b (entry_from front cs) (from (front ++ c ∷ []) cs)
at_by front cs c true h = λ i. entry_from (take-append_seam front (c ∷ cs) i) (drop_next front cs c i)
at_by front cs c false h = h

at_from : (front bytes : List ℕ) → at (front ++ bytes) (position_from is_caret (length front) bytes) ≡ from front bytes
at_from front [] = refl
at_from front (c ∷ cs) = at_by front cs c (is_caret c) (at_next front cs c (at_from (front ++ c ∷ []) cs))

entry_of-from : (bytes : List ℕ) → entry_of bytes ≡ from [] bytes
entry_of-from bytes = ap (at bytes) (position_from-zero is_caret bytes) ∙ at_from [] bytes

-- ---- what is written is read

from_label : (front label routine : List ℕ) → has_none label ≡ true → from front (label ++ 94 ∷ routine) ≡ entry_from (front ++ label) routine
from_label front [] routine h = ap (λ l. entry_from l routine) (sym (append_nil front))
  where
    append_nil : (l : List ℕ) → l ++ [] ≡ l
    append_nil [] = refl
    append_nil (x ∷ l) = ap (λ m. x ∷ m) (append_nil l)
from_label front (c ∷ label) routine h =
    let p = both_true (not (is_caret c)) (has_none label) h in
    ap (λ b. cond b (entry_from front (label ++ 94 ∷ routine)) (from (front ++ c ∷ []) (label ++ 94 ∷ routine))) (not_true (is_caret c) p.0)
    ∙ from_label (front ++ c ∷ []) label routine p.1
    ∙ ap (λ l. entry_from l routine) (append_assoc front (c ∷ []) label)
  where
    not_true : (a : Bool) → not a ≡ true → a ≡ false
    not_true true e = absurd cc
    not_true false e = refl

with_label : (o : Option (List ℕ)) (routine : List ℕ) → is_entry (record { label = o; routine = routine }) ≡ true
    → from [] (entry_text (record { label = o; routine = routine })) ≡ Some (record { label = o; routine = routine })
with_label None routine h = ap (λ b. cond b (Some (record { label = None; routine = routine })) None) h
with_label (Some []) routine h = absurd cc
with_label (Some (c ∷ l)) routine h =
    let p = both_true (is_label (c ∷ l)) (is_word routine) h in
    from_label [] (c ∷ l) routine (label_has_none (c ∷ l) p.0)
    ∙ ap (λ b. cond b (Some (record { label = Some (c ∷ l); routine = routine })) None) h

written : (e : Entry) → is_entry e ≡ true → entry_of (entry_text e) ≡ Some e
written e h = entry_of-from (entry_text e) ∙ with_label e.label e.routine h

-- ---- what is read is written so

abbrev IsWritten : Entry → List ℕ → Type 0
IsWritten e bytes = (bytes ≡ entry_text e) × (is_entry e ≡ true)

made : (front routine : List ℕ) (e : Entry) → entry_from front routine ≡ Some e → IsWritten e (front ++ 94 ∷ routine)
made [] routine e h = by (is_word routine) refl h
  where
    by : (b : Bool) → is_word routine ≡ b → cond b (Some (record { label = None; routine = routine })) None ≡ Some e → IsWritten e (94 ∷ routine)
    by true w k = let same : record { label = None; routine = routine } ≡ e = cc in subst (λ (x : Entry). IsWritten x (94 ∷ routine)) same (refl, w)
    by false w k = absurd cc
made (c ∷ l) routine e h = by (is_label (c ∷ l) && is_word routine) refl h
  where
    by : (b : Bool) → (is_label (c ∷ l) && is_word routine) ≡ b → cond b (Some (record { label = Some (c ∷ l); routine = routine })) None ≡ Some e → IsWritten e ((c ∷ l) ++ 94 ∷ routine)
    by true w k = let same : record { label = Some (c ∷ l); routine = routine } ≡ e = cc in subst (λ (x : Entry). IsWritten x ((c ∷ l) ++ 94 ∷ routine)) same (refl, w)
    by false w k = absurd cc

made_by : (front cs : List ℕ) (c : ℕ) (e : Entry) (b : Bool) → eqb c 94 ≡ b → (from (front ++ c ∷ []) cs ≡ Some e → IsWritten e ((front ++ c ∷ []) ++ cs))
    → cond b (entry_from front cs) (from (front ++ c ∷ []) cs) ≡ Some e → IsWritten e (front ++ c ∷ cs)
made_by front cs c e true y next k = subst (λ (b : ℕ). IsWritten e (front ++ b ∷ cs)) (sym (eqb-true c 94 y)) (made front cs e k)
made_by front cs c e false y next k = subst (IsWritten e) (append_assoc front (c ∷ []) cs) (next k)

made_from : (front bytes : List ℕ) (e : Entry) → from front bytes ≡ Some e → IsWritten e (front ++ bytes)
made_from front [] e h = absurd cc
made_from front (c ∷ cs) e h = made_by front cs c e (is_caret c) refl (made_from (front ++ c ∷ []) cs e) h

pub reading : (bytes : List ℕ) (r : Option Entry) → r ≡ entry_of bytes → IsReading bytes r
reading bytes r h = record {
  spells = λ e. (
    λ is. made_from [] bytes e (sym (entry_of-from bytes) ∙ sym h ∙ is),
    λ w. h ∙ ap entry_of w.0 ∙ written e w.1,
  );
}
