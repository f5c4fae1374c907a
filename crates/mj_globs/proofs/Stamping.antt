-- Stamps rise where texts change, and a store whose stamps rise stays a stamped one.
use Rattle.std.proofs.Common.{◌≡◌, ℕ, Vec, Global, Result, Ok, Err, OnOk, OnErr, zero, suc, ◌≤◌, ◌<◌, Bool, true}
use Rattle.std.proofs.Common.{false, cond, ◌&&◌, ◌||◌, nat_eq, List, [], ◌∷◌, Option, Some, None, refl, sym, ap, ◌∙◌, subst, arith}
use Rattle.std.specs.Prelude.{nat_lt, if◌then◌else◌}
use Rattle.std.specs.Ordering.{is_eq, eq_by_cmp, match_ordering}
use Rattle.std.specs.declared.cmp.Ordering.{Ordering}
use Rattle.std.specs.declared.cmp.Ordering.TheVariants.{Less, Equal, Greater}
use Rattle.std.specs.FinMap.{find}
use Rattle.std.specs.FinMap.Entries.{find-put, find-where_key}
use Rattle.std.specs.Option.{is_none, unwrap_or}
use Rattle.std.specs.Result.{is_err}
use Rattle.std.specs.Map.{lookup, set_value}
use Rattle.std.specs.BTreeMap.{is_at, insert_entry}
use Rattle.std.proofs.lemmas.Cmp.{nat_list_cmp_total}
use Rattle.std.proofs.lemmas.Map.Text.{is_eq-slice_cmp}
use Rattle.std.specs.Str.{bytes_eq}
use Rattle.std.proofs.lemmas.Bool.{eqb-true, ltb-true}
use Rattle.std.proofs.lemmas.Result.{on_ok_weaker}
use Rattle.std.proofs.lemmas.Slice.Eq.{bytes_eq-Decides}
use Rattle.mj_subs.specs.Name.{Name, kinds_eq}
use Rattle.mj_subs.specs.Collation.{subscript_cmp, name_cmp}
use Rattle.mj_subs.specs.Laws.Total.{name_cmp_total}
use Rattle.mj_subs.specs.Laws.Ties.{name_cmp-IsAntisymmetric}
use Rattle.mj_store.specs.Nodes.{after_front}
use Rattle.mj_store.specs.Questions.{Content, Subtree, value_at, same_word, rest_of}
use Rattle.mj_store.specs.Changes.{after_set, after_kill, after_put, followed_by}
use Rattle.mj_tree.specs.Maps.{lookup_written, lookup_added}
use Rattle.mj_tree.specs.Undo.{entry_before, restored}
use Rattle.mj_tree.proofs.Undo.{restored_absent}
use Rattle.mj_globs.proofs.Groups.{W}
use Rattle.mj_globs.proofs.Spelled.{lookup_spelled, set_spelled}
use Rattle.mj_globs.specs.Words.{spelled}
use Rattle.mj_globs.specs.declared.change.Change.{Change}
use Rattle.mj_globs.specs.Changes.{is_to, are_to}
use Rattle.mj_globs.specs.Stamps.{Stamps, Stamped, stamp_limit, stamp_of, stamp_at, is_still, IsRaised, IsRaisedAt, IsCounted, Rises, KeepsStamps, AreStamped}

-- ---- stamps that stand still

pub still_same : (a b : ℕ) → is_still a b ≡ true → a ≡ b
still_same a b e = by (nat_eq a b) refl e where
  by : (t : Bool) → nat_eq a b ≡ t → (t && nat_lt b stamp_limit) ≡ true → a ≡ b
  by true q h = eqb-true a b q
  by false q h = absurd cc

pub still_below : (a b : ℕ) → is_still a b ≡ true → b < stamp_limit
still_below a b e = by (nat_eq a b) e where
  by : (t : Bool) → (t && nat_lt b stamp_limit) ≡ true → b < stamp_limit
  by true h = ltb-true b stamp_limit h
  by false h = absurd cc

-- ---- stores one after the other

abbrev pub stamped : Content → Stamps → Stamped
stamped c t = record { content = c; stamps = t }

pub rises_same : (a b : Stamped) → b.content ≡ a.content → b.stamps ≡ a.stamps → Rises a b
rises_same a b content stamps = record {
  up = λ n. subst (λ (s : Stamps). stamp_at a.stamps n ≤ stamp_at s n) (sym stamps) (omega arith);
  still = λ n e. ap (λ (c : Content). value_at c n) content;
}

pub rises_then : (a b c : Stamped) → Rises a b → Rises b c → Rises a c
rises_then a b c one two = record {
  up = λ n. let p = one.up n in let q = two.up n in omega (arith, p, q);
  still = λ n e.
      let p = one.up n in
      let q = two.up n in
      let same : stamp_at a.stamps n ≡ stamp_at c.stamps n = still_same (stamp_at a.stamps n) (stamp_at c.stamps n) e in
      let mid : stamp_at b.stamps n ≡ stamp_at a.stamps n = omega (arith, p, q, same) in
      two.still n (subst (λ k. is_still k (stamp_at c.stamps n) ≡ true) (sym mid) e)
      ∙ one.still n (subst (λ k. is_still (stamp_at a.stamps n) k ≡ true) (sym same ∙ sym mid) e);
}

pub keeps_then : (f : Name → Bool) (a b c : Stamps) → KeepsStamps f a b → KeepsStamps f b c → KeepsStamps f a c
keeps_then f a b c one two n e = two n e ∙ one n e

pub keeps_same : (f : Name → Bool) (a b : Stamps) → b ≡ a → KeepsStamps f a b
keeps_same f a b same n e = ap (λ (s : Stamps). stamp_at s n) same

-- of a list of changes, those of the first and those of the rest
neither_first : (b c : Bool) → (b || c) ≡ false → b ≡ false
neither_first true c h = absurd cc
neither_first false c h = refl

neither_second : (b c : Bool) → (b || c) ≡ false → c ≡ false
neither_second true c h = absurd cc
neither_second false c h = h

pub keeps_first : (x : Change) (xs : List Change) (a b : Stamps) → KeepsStamps (is_to x) a b → KeepsStamps (are_to (x ∷ xs)) a b
keeps_first x xs a b one n e = one n (neither_first (is_to x n) (are_to xs n) e)

pub keeps_rest : (x : Change) (xs : List Change) (a b : Stamps) → KeepsStamps (are_to xs) a b → KeepsStamps (are_to (x ∷ xs)) a b
keeps_rest x xs a b one n e = one n (neither_second (is_to x n) (are_to xs n) e)

-- a name whose word was never changed has no text still
pub stamped_kept : (a b : Stamped) → AreStamped a → Rises a b → AreStamped b
stamped_kept a b is more n none =
    let p = more.up n in
    let was : stamp_at a.stamps n ≡ 0 = omega (arith, p, none) in
    let e : is_still (stamp_at a.stamps n) (stamp_at b.stamps n) ≡ true = ap (λ k. is_still k (stamp_at b.stamps n)) was ∙ ap (is_still 0) none in
    more.still n e ∙ is n was

-- ---- names of other words

kind_itself : (g : Bool) → kinds_eq g g ≡ true
kind_itself true = refl
kind_itself false = refl

kinds_same : (a b : Bool) → kinds_eq a b ≡ true → a ≡ b
kinds_same true true e = refl
kinds_same true false e = absurd cc
kinds_same false true e = absurd cc
kinds_same false false e = refl

both_true : (a b : Bool) → (a && b) ≡ true → (a ≡ true) × (b ≡ true)
both_true true b e = (refl, e)
both_true false b e = absurd cc

and_true : (a b : Bool) → a ≡ true → b ≡ true → (a && b) ≡ true
and_true true b p q = q
and_true false b p q = absurd cc

same_itself : (n : Name) → same_word n n ≡ true
same_itself n = and_true (kinds_eq n.global n.global) (bytes_eq n.word n.word) (kind_itself n.global) ((bytes_eq-Decides n.word n.word).1 refl)

-- names of one word have one stamp
pub one_stamp : (s : Stamps) (n m : Name) → same_word n m ≡ true → stamp_at s n ≡ stamp_at s m
one_stamp s n m e =
    let p = both_true (kinds_eq n.global m.global) (bytes_eq n.word m.word) e in
    λ i. if kinds_same n.global m.global p.0 i then stamp_of s ((bytes_eq-Decides n.word m.word).0 p.1 i) else stamp_limit

untied : (n m : Name) → same_word n m ≡ false → eq_by_cmp name_cmp m n ≡ false
untied n m apart = by (name_cmp m n) refl where
  by : (r : Ordering) → name_cmp m n ≡ r → is_eq r ≡ false
  by Less q = refl
  by Greater q = refl
  by Equal q = let same : same_word n m ≡ true = ap (same_word n) (name_cmp-IsAntisymmetric m n q) ∙ same_itself n in absurd (let no : ⊥ = cc in no)

set_apart : (c : Content) (n m : Name) (v : List ℕ) → same_word n m ≡ false → value_at (after_set c n v) m ≡ value_at c m
set_apart c n m v apart = find-put name_cmp name_cmp_total m n v c ∙ ap (λ b. cond b (Some v) (find name_cmp m c)) (untied n m apart)

put_apart : (c : Content) (n m : Name) (nodes : Subtree) → same_word n m ≡ false → value_at (after_put c n nodes) m ≡ value_at c m
put_apart c n m [] apart = refl
put_apart c n m (x ∷ nodes) apart = put_apart (after_set c (followed_by n x.0) x.1) n m nodes apart ∙ set_apart c (followed_by n x.0) m x.1 apart

killed : (c : Content) (n m : Name) → value_at (after_kill c n) m ≡ cond (is_none (rest_of n m)) (value_at c m) None
killed c n m = find-where_key name_cmp (λ k. is_none (rest_of n k)) m (λ x e. ap (λ k. is_none (rest_of n k)) (sym (name_cmp-IsAntisymmetric m x e))) c

kill_apart : (c : Content) (n m : Name) → same_word n m ≡ false → value_at (after_kill c n) m ≡ value_at c m
kill_apart c n m apart = killed c n m ∙ by (same_word n m) apart where
  by : (b : Bool) → b ≡ false → cond (is_none (cond b (after_front subscript_cmp n.subscripts m.subscripts) None)) (value_at c m) None ≡ value_at c m
  by true h = absurd cc
  by false h = refl

kill_none : (c : Content) (n m : Name) → value_at c m ≡ None → value_at (after_kill c n) m ≡ value_at c m
kill_none c n m none = killed c n m ∙ by (is_none (rest_of n m)) where
  by : (b : Bool) → cond b (value_at c m) None ≡ value_at c m
  by true = refl
  by false = sym none

restored_apart : (c : Content) (n m : Name) (v : Option (List ℕ)) → same_word n m ≡ false → value_at (restored name_cmp n v c) m ≡ value_at c m
restored_apart [] n m v apart = refl
restored_apart (e ∷ es) n m v apart = by (restored_apart es n m v apart) (name_cmp n e.0) refl where
  here : (w : Option (List ℕ)) → eq_by_cmp name_cmp m e.0 ≡ false → value_at (entry_before e.0 w es) m ≡ cond (eq_by_cmp name_cmp m e.0) (Some e.1) (value_at es m)
  here None q = ap (λ b. cond b (Some e.1) (value_at es m)) (sym q)
  here (Some w) q = ap (λ b. cond b (Some w) (value_at es m)) q ∙ ap (λ b. cond b (Some e.1) (value_at es m)) (sym q)

  by : value_at (restored name_cmp n v es) m ≡ value_at es m → (r : Ordering) → name_cmp n e.0 ≡ r
      → value_at (cond (is_eq r) (entry_before e.0 v es) (e ∷ restored name_cmp n v es)) m ≡ value_at (e ∷ es) m
  by rest Less q = ap (cond (eq_by_cmp name_cmp m e.0) (Some e.1)) rest
  by rest Greater q = ap (cond (eq_by_cmp name_cmp m e.0) (Some e.1)) rest
  by rest Equal q = here v (untied e.0 m (ap (λ k. same_word k m) (sym (name_cmp-IsAntisymmetric n e.0 q)) ∙ apart))

-- ---- what a change of one name leaves

-- the texts changed at names of this word alone, and its stamp rose
pub rises_counted : (n : Name) (c d : Content) (s t : Stamps) → IsRaisedAt n s t → IsCounted n s t → ((m : Name) → same_word n m ≡ false → value_at d m ≡ value_at c m)
    → Rises (record { content = c; stamps = s }) (record { content = d; stamps = t })
rises_counted n c d s t raised counted apart = record { up = raised.up; still = λ m e. by m (same_word n m) refl e } where
  by : (m : Name) (b : Bool) → same_word n m ≡ b → is_still (stamp_at s m) (stamp_at t m) ≡ true → value_at d m ≡ value_at c m
  by m false q e = apart m q
  by m true q e =
      let same = still_same (stamp_at s m) (stamp_at t m) e in
      let below = still_below (stamp_at s m) (stamp_at t m) e in
      let more = counted m q (omega (arith, same, below)) in
      absurd (let no : ⊥ = omega (arith, same, more) in no)

-- it rose if there was one, and where it is none still, nothing changes
rises_raised : (n : Name) (c d : Content) (s t : Stamps) → IsRaisedAt n s t → ((m : Name) → same_word n m ≡ false → value_at d m ≡ value_at c m)
    → ((m : Name) → same_word n m ≡ true → stamp_at t m ≡ 0 → value_at d m ≡ value_at c m) → Rises (record { content = c; stamps = s }) (record { content = d; stamps = t })
rises_raised n c d s t raised apart unset = record { up = raised.up; still = λ m e. by m (same_word n m) refl e } where
  at : (m : Name) → same_word n m ≡ true → is_still (stamp_at s m) (stamp_at t m) ≡ true → (k : ℕ) → stamp_at s m ≡ k → value_at d m ≡ value_at c m
  at m q e zero is = unset m q (sym (still_same (stamp_at s m) (stamp_at t m) e) ∙ is)
  at m q e (suc k) is =
      let same = still_same (stamp_at s m) (stamp_at t m) e in
      let below = still_below (stamp_at s m) (stamp_at t m) e in
      let more = raised.further m q (omega (arith, is)) (omega (arith, same, below)) in
      absurd (let no : ⊥ = omega (arith, same, more) in no)

  by : (m : Name) (b : Bool) → same_word n m ≡ b → is_still (stamp_at s m) (stamp_at t m) ≡ true → value_at d m ≡ value_at c m
  by m false q e = apart m q
  by m true q e = at m q e (stamp_at s m) refl

rises_set : (n : Name) (v : List ℕ) (c d : Content) (s t : Stamps) → IsRaisedAt n s t → IsCounted n s t → d ≡ after_set c n v
    → Rises (record { content = c; stamps = s }) (record { content = d; stamps = t })
rises_set n v c d s t raised counted is = rises_counted n c d s t raised counted (λ m apart. ap (λ (x : Content). value_at x m) is ∙ set_apart c n m v apart)

rises_put : (n : Name) (nodes : Subtree) (c d : Content) (s t : Stamps) → IsRaisedAt n s t → IsCounted n s t → d ≡ after_put c n nodes
    → Rises (record { content = c; stamps = s }) (record { content = d; stamps = t })
rises_put n nodes c d s t raised counted is = rises_counted n c d s t raised counted (λ m apart. ap (λ (x : Content). value_at x m) is ∙ put_apart c n m nodes apart)

-- nothing changed but stamps
rises_only : (n : Name) (c d : Content) (s t : Stamps) → IsRaisedAt n s t → d ≡ c → Rises (record { content = c; stamps = s }) (record { content = d; stamps = t })
rises_only n c d s t raised is = record { up = raised.up; still = λ m e. ap (λ (x : Content). value_at x m) is }

rises_kill : (n : Name) (c : Content) (s t : Stamps) → AreStamped (stamped c t) → IsRaisedAt n s t → Rises (stamped c s) (stamped (after_kill c n) t)
rises_kill n c s t is raised = rises_raised n c (after_kill c n) s t raised (λ m apart. kill_apart c n m apart) (λ m same none. kill_none c n m (is m none))

rises_restored : (n : Name) (v : Option (List ℕ)) (c : Content) (s t : Stamps) → AreStamped (stamped c t) → IsRaisedAt n s t → Rises (stamped c s) (stamped (restored name_cmp n v c) t)
rises_restored n v c s t is raised =
    rises_raised n c (restored name_cmp n v c) s t raised (λ m apart. restored_apart c n m v apart)
    (λ m same none. ap (λ (x : Content). value_at x m) (restored_absent name_cmp n v c (is n (one_stamp t n m same ∙ none))))

-- and a name without a stamp has no text then

pub stamped_kill : (n : Name) (c d : Content) (t : Stamps) → AreStamped (stamped c t) → d ≡ after_kill c n → AreStamped (stamped d t)
stamped_kill n c d t is change m none = ap (λ (x : Content). value_at x m) change ∙ kill_none c n m (is m none) ∙ is m none

pub stamped_restored : (n : Name) (v : Option (List ℕ)) (c d : Content) (t : Stamps) → AreStamped (stamped c t) → d ≡ restored name_cmp n v c → AreStamped (stamped d t)
stamped_restored n v c d t is change m none = ap (λ (x : Content). value_at x m) change ∙ by (same_word n m) refl where
  by : (b : Bool) → same_word n m ≡ b → value_at (restored name_cmp n v c) m ≡ None
  by false q = restored_apart c n m v q ∙ is m none
  by true q = ap (λ (x : Content). value_at x m) (restored_absent name_cmp n v c (is n (one_stamp t n m q ∙ none))) ∙ is m none

stamped_counted : (n : Name) (c d : Content) (s t : Stamps) → AreStamped (stamped c t) → IsRaisedAt n s t → IsCounted n s t
    → ((m : Name) → same_word n m ≡ false → value_at d m ≡ value_at c m) → AreStamped (stamped d t)
stamped_counted n c d s t is raised counted apart m none = by (same_word n m) refl where
  by : (b : Bool) → same_word n m ≡ b → value_at d m ≡ None
  by false q = apart m q ∙ is m none
  by true q =
      let up = raised.up m in
      let more = counted m q (omega (arith, up, none)) in
      absurd (let no : ⊥ = omega (arith, none, more) in no)

pub no_error : {A E P : Type 0} (r : Result A E) → OnOk r P → is_err r ≡ false → P
no_error (Ok y) ok none = ok
no_error (Err y) ok none = absurd cc

-- a store whose stamps were raised first, opened behind that
module _ (n : Name) (a b : Stamped) (c : Content) (t : Stamps) (opened : stamped c t ≡ b) (same : b.content ≡ a.content) (raised : IsRaisedAt n a.stamps b.stamps) where
  stamps_opened : t ≡ b.stamps
  stamps_opened = ap (λ (s : Stamped). s.stamps) opened

  pub content_opened : c ≡ a.content
  content_opened = ap (λ (s : Stamped). s.content) opened ∙ same

  raised_opened : IsRaisedAt n a.stamps t
  raised_opened = subst (λ (s : Stamps). IsRaisedAt n a.stamps s) (sym stamps_opened) raised

  pub others_opened : KeepsStamps (same_word n) a.stamps t
  others_opened = raised_opened.others

  pub killed_rises : (d : Content) → AreStamped (stamped c t) → d ≡ after_kill c n → Rises a (stamped d t)
  killed_rises d is change =
      subst (λ (x : Content). Rises a (stamped x t)) (sym change) (subst (λ (x : Content). Rises (stamped x a.stamps) (stamped (after_kill c n) t)) content_opened
      (rises_kill n c a.stamps t is raised_opened))

  pub restored_rises : (v : Option (List ℕ)) (d : Content) → AreStamped (stamped c t) → d ≡ restored name_cmp n v c → Rises a (stamped d t)
  restored_rises v d is change =
      subst (λ (x : Content). Rises a (stamped x t)) (sym change)
      (subst (λ (x : Content). Rises (stamped x a.stamps) (stamped (restored name_cmp n v c) t)) content_opened (rises_restored n v c a.stamps t is raised_opened))

  pub kept_rises : (d : Content) → d ≡ c → Rises a (stamped d t)
  kept_rises d is = rises_only n a.content d a.stamps t raised_opened (is ∙ content_opened)

  module _ (counted : IsCounted n a.stamps b.stamps) where
    counted_opened : IsCounted n a.stamps t
    counted_opened = subst (λ (s : Stamps). IsCounted n a.stamps s) (sym stamps_opened) counted

    module _ {A E : Type 0} (d : Content) where
      pub set_rises : (r : Result A E) (v : List ℕ) → OnOk r (d ≡ after_set c n v) → OnErr r (d ≡ c) → Rises a (stamped d t)
      set_rises (Ok y) v ok err = rises_set n v a.content d a.stamps t raised_opened counted_opened (ok ∙ ap (λ (x : Content). after_set x n v) content_opened)
      set_rises (Err y) v ok err = kept_rises d err

      pub put_rises : (r : Result A E) (nodes : Subtree) → OnOk r (d ≡ after_put c n nodes) → OnErr r (d ≡ c) → Rises a (stamped d t)
      put_rises (Ok y) nodes ok err = rises_put n nodes a.content d a.stamps t raised_opened counted_opened (ok ∙ ap (λ (x : Content). after_put x n nodes) content_opened)
      put_rises (Err y) nodes ok err = kept_rises d err

      pub stamped_set : (r : Result A E) (v : List ℕ) → AreStamped (stamped c t) → OnOk r (d ≡ after_set c n v) → OnErr r (d ≡ c) → AreStamped (stamped d t)
      stamped_set (Ok y) v is ok err =
          stamped_counted n c d a.stamps t is raised_opened counted_opened (λ m apart. ap (λ (x : Content). value_at x m) ok ∙ set_apart c n m v apart)
      stamped_set (Err y) v is ok err = subst (λ (x : Content). AreStamped (stamped x t)) (sym err) is

      pub stamped_put : (r : Result A E) (nodes : Subtree) → AreStamped (stamped c t) → OnOk r (d ≡ after_put c n nodes) → OnErr r (d ≡ c) → AreStamped (stamped d t)
      stamped_put (Ok y) nodes is ok err =
          stamped_counted n c d a.stamps t is raised_opened counted_opened (λ m apart. ap (λ (x : Content). value_at x m) ok ∙ put_apart c n m nodes apart)
      stamped_put (Err y) nodes is ok err = subst (λ (x : Content). AreStamped (stamped x t)) (sym err) is

-- ---- the stamp of a word is that of its names

module _ (n : Name) (s t : Stamps) (is : true ≡ n.global) where
  kept_at : (m : Name) → (m.global ≡ true → stamp_of t m.word ≡ stamp_of s m.word) → stamp_at t m ≡ stamp_at s m
  kept_at m same = by m.global refl where
    by : (g : Bool) → m.global ≡ g → (if g then stamp_of t m.word else stamp_limit) ≡ (if g then stamp_of s m.word else stamp_limit)
    by true q = same q
    by false q = refl

  other_word : (m : Name) → m.global ≡ true → same_word n m ≡ false → bytes_eq n.word m.word ≡ false
  other_word m g apart = (λ i. kinds_eq (is i) (sym g i) && bytes_eq n.word m.word) ∙ apart

  same_bytes : (m : Name) → same_word n m ≡ true → n.word ≡ m.word
  same_bytes m same = (bytes_eq-Decides n.word m.word).0 (both_true (kinds_eq n.global m.global) (bytes_eq n.word m.word) same).1

  up_word : IsRaised n.word s t → (m : Name) (b : Bool) → bytes_eq n.word m.word ≡ b → stamp_of s m.word ≤ stamp_of t m.word
  up_word raised m true q = subst (λ (w : List ℕ). stamp_of s w ≤ stamp_of t w) ((bytes_eq-Decides n.word m.word).0 q) raised.up
  up_word raised m false q = let same = raised.others m.word q in omega (arith, same)

  up_at : IsRaised n.word s t → (m : Name) (g : Bool) → (if g then stamp_of s m.word else stamp_limit) ≤ (if g then stamp_of t m.word else stamp_limit)
  up_at raised m true = up_word raised m (bytes_eq n.word m.word) refl
  up_at raised m false = omega arith

  further_at : IsRaised n.word s t → (m : Name) → same_word n m ≡ true → (g : Bool) → 0 < (if g then stamp_of s m.word else stamp_limit)
      → (if g then stamp_of s m.word else stamp_limit) < stamp_limit → (if g then stamp_of s m.word else stamp_limit) < (if g then stamp_of t m.word else stamp_limit)
  further_at raised m same true = subst (λ (w : List ℕ). 0 < stamp_of s w → stamp_of s w < stamp_limit → stamp_of s w < stamp_of t w) (same_bytes m same) raised.further
  further_at raised m same false = λ p r. absurd (let no : ⊥ = omega (arith, r) in no)

  pub raised_at : IsRaised n.word s t → IsRaisedAt n s t
  raised_at raised = record {
    up = λ m. up_at raised m m.global;
    further = λ m same. further_at raised m same m.global;
    others = λ m apart. kept_at m (λ g. raised.others m.word (other_word m g apart));
  }

  counted_word : (stamp_of s n.word < stamp_limit → stamp_of s n.word < stamp_of t n.word) → (m : Name) → same_word n m ≡ true → (g : Bool)
      → (if g then stamp_of s m.word else stamp_limit) < stamp_limit → (if g then stamp_of s m.word else stamp_limit) < (if g then stamp_of t m.word else stamp_limit)
  counted_word counted m same true = subst (λ (w : List ℕ). stamp_of s w < stamp_limit → stamp_of s w < stamp_of t w) (same_bytes m same) counted
  counted_word counted m same false = λ r. absurd (let no : ⊥ = omega (arith, r) in no)

  pub counted_at : (stamp_of s n.word < stamp_limit → stamp_of s n.word < stamp_of t n.word) → IsCounted n s t
  counted_at counted m same = counted_word counted m same m.global

-- a local has no stamp that could rise
module _ (n : Name) (s t : Stamps) (is : false ≡ n.global) where
  local_at : (m : Name) → same_word n m ≡ true → stamp_at s m ≡ stamp_limit
  local_at m same =
      let global : n.global ≡ m.global = kinds_same n.global m.global (both_true (kinds_eq n.global m.global) (bytes_eq n.word m.word) same).0 in
      ap (λ g. if g then stamp_of s m.word else stamp_limit) (sym (is ∙ global))

  pub local_raised : t ≡ s → IsRaisedAt n s t
  local_raised same = record {
    up = λ m. subst (λ (x : Stamps). stamp_at s m ≤ stamp_at x m) (sym same) (omega arith);
    further = λ m word some below. let top = local_at m word in absurd (let no : ⊥ = omega (arith, below, top) in no);
    others = λ m apart. ap (λ (x : Stamps). stamp_at x m) same;
  }

  pub local_counted : IsCounted n s t
  local_counted m word below = let top = local_at m word in absurd (let no : ⊥ = omega (arith, below, top) in no)

-- ---- the map of stamps

turned : (s w : List ℕ) → bytes_eq s w ≡ false → is_eq (W w s) ≡ false
turned s w apart = is_eq-slice_cmp w s ∙ by (bytes_eq w s) refl where
  by : (b : Bool) → bytes_eq w s ≡ b → b ≡ false
  by true e = let same : bytes_eq s w ≡ true = (bytes_eq-Decides s w).1 (sym ((bytes_eq-Decides w s).0 e)) in absurd (let no : ⊥ = cc in no)
  by false e = refl

tied_apart : (s w k : List ℕ) → is_eq (W w s) ≡ false → is_eq (W s k) ≡ true → is_eq (W w k) ≡ false
tied_apart s w k apart e = ap (λ (l : List ℕ). is_eq (W w l)) (sym ((bytes_eq-Decides s k).0 (sym (is_eq-slice_cmp s k) ∙ e))) ∙ apart

written_other : (ks : Stamps) (s w : List ℕ) (x : ℕ) → is_eq (W w s) ≡ false → lookup (is_at (W w)) (set_value (is_at (W s)) ks x) ≡ lookup (is_at (W w)) ks
written_other [] s w x apart = refl
written_other (k ∷ ks) s w x apart = by (written_other ks s w x apart) (is_eq (W s k.0)) refl where
  by : lookup (is_at (W w)) (set_value (is_at (W s)) ks x) ≡ lookup (is_at (W w)) ks → (b : Bool) → is_eq (W s k.0) ≡ b
      → lookup (is_at (W w)) (cond b ((k.0, x) ∷ ks) (k ∷ set_value (is_at (W s)) ks x)) ≡ lookup (is_at (W w)) (k ∷ ks)
  by rest true e =
      let other = tied_apart s w k.0 apart e in
      ap (λ b. cond b (Some x) (lookup (is_at (W w)) ks)) other ∙ sym (ap (λ b. cond b (Some k.1) (lookup (is_at (W w)) ks)) other)
  by rest false e = ap (cond (is_eq (W w k.0)) (Some k.1)) rest

added_other : (ks : Stamps) (s w : List ℕ) (x : ℕ) → is_eq (W w s) ≡ false → lookup (is_at (W w)) (insert_entry W ks s x) ≡ lookup (is_at (W w)) ks
added_other [] s w x apart = ap (λ b. cond b (Some x) None) apart
added_other (k ∷ ks) s w x apart = by (added_other ks s w x apart) (W s k.0) refl where
  by : lookup (is_at (W w)) (insert_entry W ks s x) ≡ lookup (is_at (W w)) ks → (r : Ordering) → W s k.0 ≡ r
      → lookup (is_at (W w)) (match_ordering r ((s, x) ∷ k ∷ ks) ((k.0, x) ∷ ks) (k ∷ insert_entry W ks s x)) ≡ lookup (is_at (W w)) (k ∷ ks)
  by rest Less e = ap (λ b. cond b (Some x) (lookup (is_at (W w)) (k ∷ ks))) apart
  by rest Equal e =
      let other = tied_apart s w k.0 apart (ap is_eq e) in
      ap (λ b. cond b (Some x) (lookup (is_at (W w)) ks)) other ∙ sym (ap (λ b. cond b (Some k.1) (lookup (is_at (W w)) ks)) other)
  by rest Greater e = ap (cond (is_eq (W w k.0)) (Some k.1)) rest

-- the stamp that stands there is raised
pub written_raised : (s t : Stamps) (word : List ℕ) (c x : ℕ) → lookup (is_at (W word)) s ≡ Some c → t ≡ set_value (is_at (W word)) s x → c ≤ x → (c < stamp_limit → c < x) → IsRaised word s t
written_raised s t word c x there is le lt = record {
  up = let old = ap (λ l. unwrap_or l 0) there in let new = now in omega (arith, old, new, le);
  further = λ some below.
      let old = ap (λ l. unwrap_or l 0) there in
      let new = now in
      let more : c < x = lt (omega (arith, old, below)) in
      omega (arith, old, new, more);
  others = λ w apart. ap (λ (m : Stamps). stamp_of m w) is ∙ ap (λ l. unwrap_or l 0) (written_other s word w x (turned word w apart));
} where
  now : stamp_of t word ≡ x
  now = ap (λ (m : Stamps). stamp_of m word) is ∙ ap (λ l. unwrap_or l 0) (lookup_written W s word c x there)

pub written_counted : (s t : Stamps) (word : List ℕ) (c x : ℕ) → lookup (is_at (W word)) s ≡ Some c → t ≡ set_value (is_at (W word)) s x → (c < stamp_limit → c < x)
    → stamp_of s word < stamp_limit → stamp_of s word < stamp_of t word
written_counted s t word c x there is lt below =
    let old = ap (λ l. unwrap_or l 0) there in
    let new : stamp_of t word ≡ x = ap (λ (m : Stamps). stamp_of m word) is ∙ ap (λ l. unwrap_or l 0) (lookup_written W s word c x there) in
    let more : c < x = lt (omega (arith, old, below)) in
    omega (arith, old, new, more)

-- one that wasn't there is 1 now
pub added_raised : (s t : Stamps) (word : List ℕ) → lookup (is_at (W word)) s ≡ None → t ≡ insert_entry W s word 1 → IsRaised word s t
added_raised s t word none is = record {
  up = let old = ap (λ l. unwrap_or l 0) none in omega (arith, old);
  further = λ some below. let old = ap (λ l. unwrap_or l 0) none in absurd (let no : ⊥ = omega (arith, old, some) in no);
  others = λ w apart. ap (λ (m : Stamps). stamp_of m w) is ∙ ap (λ l. unwrap_or l 0) (added_other s word w 1 (turned word w apart));
}

pub added_counted : (s t : Stamps) (word : List ℕ) → lookup (is_at (W word)) s ≡ None → t ≡ insert_entry W s word 1 → stamp_of s word < stamp_of t word
added_counted s t word none is =
    let old = ap (λ l. unwrap_or l 0) none in
    let new : stamp_of t word ≡ 1 = ap (λ (m : Stamps). stamp_of m word) is ∙ ap (λ l. unwrap_or l 0) (lookup_added W nat_list_cmp_total s word 1 none) in
    omega (arith, old, new)

-- nothing happened
pub same_raised : (s t : Stamps) (word : List ℕ) → t ≡ s → (stamp_of s word ≡ 0) → IsRaised word s t
same_raised s t word same none = record {
  up = let e = ap (λ (m : Stamps). stamp_of m word) same in omega (arith, e);
  further = λ some below. absurd (let no : ⊥ = omega (arith, none, some) in no);
  others = λ w apart. ap (λ (m : Stamps). stamp_of m w) same;
}

-- ---- words by their bytes

module _ (es fs : List (Vec ℕ Global × ℕ)) (key word : List ℕ) (same : key ≡ word) (c x : ℕ) (there : lookup (is_at (λ (k : Vec ℕ Global). W key k.items)) es ≡ Some c)
    (written : fs ≡ set_value (is_at (λ (k : Vec ℕ Global). W key k.items)) es x) (up : c ≤ x) (further : c < stamp_limit → c < x) where
  here : lookup (is_at (W word)) (spelled es) ≡ Some c
  here = ap (λ (s : List ℕ). lookup (is_at (W s)) (spelled es)) (sym same) ∙ sym (lookup_spelled (W key) es) ∙ there

  after : spelled fs ≡ set_value (is_at (W word)) (spelled es) x
  after = ap spelled written ∙ set_spelled (W key) es x ∙ ap (λ (s : List ℕ). set_value (is_at (W s)) (spelled es) x) same

  pub raised_there : IsRaised word (spelled es) (spelled fs)
  raised_there = written_raised (spelled es) (spelled fs) word c x here after up further

  pub counted_there : stamp_of (spelled es) word < stamp_limit → stamp_of (spelled es) word < stamp_of (spelled fs) word
  counted_there = written_counted (spelled es) (spelled fs) word c x here after further

module _ (es fs : List (Vec ℕ Global × ℕ)) (key word : List ℕ) (same : key ≡ word) (absent : lookup (is_at (λ (k : Vec ℕ Global). W key k.items)) es ≡ None)
    (kept : spelled fs ≡ spelled es) where
  nowhere : lookup (is_at (W word)) (spelled es) ≡ None
  nowhere = ap (λ (s : List ℕ). lookup (is_at (W s)) (spelled es)) (sym same) ∙ sym (lookup_spelled (W key) es) ∙ absent

  pub raised_absent : IsRaised word (spelled es) (spelled fs)
  raised_absent = same_raised (spelled es) (spelled fs) word kept (ap (λ (l : Option ℕ). unwrap_or l 0) nowhere)

  module _ {A E : Type 0} (r : Result A E) (t : Stamps) (ok : OnOk r (t ≡ insert_entry W (spelled fs) key 1)) where
    added : OnOk r (t ≡ insert_entry W (spelled es) word 1)
    added = on_ok_weaker r (λ (e : t ≡ insert_entry W (spelled fs) key 1). e ∙ (λ i. insert_entry W (kept i) (same i) 1)) ok

    pub raised_added : OnErr r (t ≡ spelled fs) → IsRaised word (spelled es) t
    raised_added = by r added where
      by : (q : Result A E) → OnOk q (t ≡ insert_entry W (spelled es) word 1) → OnErr q (t ≡ spelled fs) → IsRaised word (spelled es) t
      by (Ok y) is err = added_raised (spelled es) t word nowhere is
      by (Err y) is err = same_raised (spelled es) t word (err ∙ kept) (ap (λ (l : Option ℕ). unwrap_or l 0) nowhere)

    pub counted_added : OnOk r (stamp_of (spelled es) word < stamp_limit → stamp_of (spelled es) word < stamp_of t word)
    counted_added = on_ok_weaker r (λ (e : t ≡ insert_entry W (spelled es) word 1) below. added_counted (spelled es) t word nowhere e) added
