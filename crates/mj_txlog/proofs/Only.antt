-- Runs that are all below names of one word.
use Rattle.std.proofs.Common.{◌≡◌, ℕ, Bool, true, false, cond, ◌&&◌, List, [], Option, Some, None, refl, sym, ap, ◌∙◌, subst, ◌⊎◌, ⊎_elim}
use Rattle.std.specs.Ordering.{eq_by_cmp}
use Rattle.std.specs.Option.{is_none}
use Rattle.std.specs.Str.{bytes_eq}
use Rattle.std.proofs.lemmas.Slice.Eq.{bytes_eq-Decides}
use Rattle.mj_subs.specs.Name.{Name, kinds_eq}
use Rattle.mj_subs.specs.Collation.{name_cmp}
use Rattle.mj_store.specs.Questions.{Content, value_at, same_word, rest_of}
use Rattle.mj_store.specs.Changes.{after_set, after_kill}
use Rattle.mj_txlog.specs.Skips.{AreWithin, AreOf}
use Rattle.mj_txlog.proofs.Alike.{tied, find_set, find_killed}
use Rattle.mj_txlog.proofs.Fronts.{word_itself}

pub none_within : (n : Name) → AreWithin n []
none_within n m d there = absurd (let no : ⊥ = cc in no)

pub set_within : (n : Name) (runs : Content) (at : Name) (v : List ℕ) → same_word n at ≡ true → AreWithin n runs → AreWithin n (after_set runs at v)
set_within n runs at v added h m d there = by (eq_by_cmp name_cmp m at) refl (sym (find_set m runs at v) ∙ there) where
  by : (b : Bool) → eq_by_cmp name_cmp m at ≡ b → cond b (Some v) (value_at runs m) ≡ Some d → same_word n m ≡ true
  by true e t = ap (same_word n) (tied m at e) ∙ added
  by false e t = h m d t

killed_within : (n : Name) (runs : Content) (at : Name) → AreWithin n runs → AreWithin n (after_kill runs at)
killed_within n runs at h m d there = by (is_none (rest_of at m)) (sym (find_killed m runs at) ∙ there) where
  by : (b : Bool) → cond b (value_at runs m) None ≡ Some d → same_word n m ≡ true
  by true t = h m d t
  by false t = absurd (let no : ⊥ = cc in no)

pub killed_of : (of : Option Name) (runs : Content) (at : Name) → AreOf of runs → AreOf of (after_kill runs at)
killed_of None runs at h = ap (λ (c : Content). after_kill c at) h
killed_of (Some n) runs at h = killed_within n runs at h

pub within_none : (n : Name) (runs : Content) → runs ≡ [] → AreWithin n runs
within_none n runs none = subst (AreWithin n) (sym none) (none_within n)

-- the first run says which word it is
pub first_of_word : (n : Name) (runs : Content) (v : List ℕ) → runs ≡ [] → AreWithin n (after_set runs n v)
first_of_word n runs v none = set_within n runs n v (word_itself n n.subscripts) (within_none n runs none)

both : (a b : Bool) → (a && b) ≡ true → (a ≡ true) × (b ≡ true)
both true b e = (refl, e)
both false b e = absurd cc

kinds : (a b c : Bool) → kinds_eq a b ≡ true → kinds_eq a c ≡ true → kinds_eq b c ≡ true
kinds true true c p q = q
kinds true false c p q = absurd cc
kinds false true c p q = absurd cc
kinds false false c p q = q

-- two names of a name's word are of one word
beside : (n m k : Name) → same_word n m ≡ true → same_word n k ≡ true → same_word m k ≡ true
beside n m k p q =
    let a = both (kinds_eq n.global m.global) (bytes_eq n.word m.word) p in
    let b = both (kinds_eq n.global k.global) (bytes_eq n.word k.word) q in
    let word : m.word ≡ k.word = sym ((bytes_eq-Decides n.word m.word).0 a.1) ∙ (bytes_eq-Decides n.word k.word).0 b.1 in
    ap (λ g. g && bytes_eq m.word k.word) (kinds n.global m.global k.global a.0 b.0) ∙ (bytes_eq-Decides m.word k.word).1 word

pub within_as : (n m : Name) (runs : Content) → same_word n m ≡ true → AreWithin n runs → AreWithin m runs
within_as n m runs same h k d there = beside n m k same (h k d there)

-- what is so of either is so of what it is
pub one_of : {A : Type 0} (P : A → Type 0) (new x y : A) → (new ≡ x) ⊎ (new ≡ y) → P x → P y → P new
one_of P new x y is px py = ⊎_elim (λ e. subst P (sym e) px) (λ e. subst P (sym e) py) is
