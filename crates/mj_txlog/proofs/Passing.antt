-- Runs that were passed over stay so: as they are joined, as own writes are made, and as an entry more is kept.
use Rattle.std.proofs.Common.{◌≡◌, ℕ, Bool, true, false, cond, List, [], ◌∷◌, ◌++◌, Some, None, Result, Ok, Err, refl, sym, ap, ◌∙◌, subst}
use Rattle.std.specs.Prelude.{OnOk, OnErr}
use Rattle.std.specs.FinMap.{find}
use Rattle.std.specs.Ordering.{is_lt, eq_by_cmp}
use Rattle.std.specs.Option.{is_none}
use Rattle.mj_subs.specs.Name.{Name}
use Rattle.mj_subs.specs.Collation.{subscript_cmp, name_cmp}
use Rattle.mj_subs.specs.Laws.Total.{subscript_cmp_total}
use Rattle.mj_subs.specs.Laws.Ties.{subscript_cmp-IsAntisymmetric, name_cmp-IsAntisymmetric}
use Rattle.mj_store.specs.Questions.{Content, with_subscripts, value_at, rest_of}
use Rattle.mj_store.specs.Changes.{after_set, after_kill, followed_by}
use Rattle.mj_txlog.specs.Accesses.{front_of}
use Rattle.mj_txlog.specs.Skips.{IsBare, AreBare, AreSkips, LiesInRun, IsNextRun, Joins, later_of, front, last}
use Rattle.mj_txlog.proofs.Laid.{find_set, find_killed}
use Rattle.mj_txlog.proofs.Firsts.{lt_asym, not_before, not_both, eq_is}
use Rattle.mj_txlog.proofs.Stands.{last_is, but_last_is}

-- ---- a name with one subscript more

front_list : (p : List (List ℕ)) (s : List ℕ) → front_of (p ++ s ∷ []) ≡ p
front_list [] s = refl
front_list (t ∷ q) s = but_last_is t s q

last_list : (p : List (List ℕ)) (s : List ℕ) → last (p ++ s ∷ []) ≡ s
last_list [] s = refl
last_list (t ∷ q) s = last_is t s q

-- what stands at it is said of its front
pub run_bare : (g gone runs : Content) → AreSkips g gone runs → (f : Name) (c d : List ℕ) → value_at runs (followed_by f (c ∷ [])) ≡ Some d → AreBare g gone f c d
run_bare g gone runs skips f c d there =
    let n = followed_by f (c ∷ []) in
    subst (λ (s : List ℕ). AreBare g gone f s d) (last_list f.subscripts c)
    (subst (λ (p : List (List ℕ)). AreBare g gone (with_subscripts f p) (last n.subscripts) d) (front_list f.subscripts c) (skips n d there))

-- ---- no run more, and one

pub killed : (g gone runs : Content) (m : Name) → AreSkips g gone runs → AreSkips g gone (after_kill runs m)
killed g gone runs m skips n d there = skips n d (by (is_none (rest_of m n)) (sym (find_killed n runs m) ∙ there))
  where
    by : (b : Bool) → cond b (find name_cmp n runs) None ≡ Some d → find name_cmp n runs ≡ Some d
    by true h = h
    by false h = absurd cc

put : (g gone runs : Content) (f : Name) (c to : List ℕ) → AreSkips g gone runs → AreBare g gone f c to → AreSkips g gone (after_set runs (followed_by f (c ∷ [])) to)
put g gone runs f c to skips bare n d there = by (eq_by_cmp name_cmp n m) refl (sym (find_set n runs m to) ∙ there)
  where
    m : Name
    m = followed_by f (c ∷ [])

    some_same : (x y : List ℕ) → Some x ≡ Some y → x ≡ y
    some_same x y h = cc

    here : AreBare g gone (front m) (last m.subscripts) to
    here =
        subst (λ (s : List ℕ). AreBare g gone (front m) s to) (sym (last_list f.subscripts c))
        (subst (λ (p : List (List ℕ)). AreBare g gone (with_subscripts f p) c to) (sym (front_list f.subscripts c)) bare)

    by : (b : Bool) → eq_by_cmp name_cmp n m ≡ b → cond b (Some to) (find name_cmp n runs) ≡ Some d → AreBare g gone (front n) (last n.subscripts) d
    by true e h =
        subst (λ (x : List ℕ). AreBare g gone (front n) (last n.subscripts) x) (some_same to d h)
        (subst (λ (k : Name). AreBare g gone (front k) (last k.subscripts) to) (sym (name_cmp-IsAntisymmetric n m (eq_is (name_cmp n m) e))) here)
    by false e h = skips n d h

-- ---- runs that meet

-- what lies from the first of them to the later end of both lies in one of them
meets : (g gone : Content) (f : Name) (a b c d : List ℕ) → AreBare g gone f a b → AreBare g gone f c d → is_lt (subscript_cmp b c) ≡ false → AreBare g gone f a (later_of d b)
meets g gone f a b c d one other near u from to =
    by (is_lt (subscript_cmp b u)) refl
  where
    behind : (t : Bool) → is_lt (subscript_cmp b d) ≡ t → is_lt (subscript_cmp (cond t d b) u) ≡ false → is_lt (subscript_cmp b u) ≡ true → IsBare g gone f u
    behind true e h past =
        other u (not_before subscript_cmp subscript_cmp_total subscript_cmp-IsAntisymmetric c b u near (lt_asym subscript_cmp subscript_cmp_total subscript_cmp-IsAntisymmetric b u past)) h
    behind false e h past = not_both (is_lt (subscript_cmp b u)) past h

    by : (t : Bool) → is_lt (subscript_cmp b u) ≡ t → IsBare g gone f u
    by true past = behind (is_lt (subscript_cmp b d)) refl to past
    by false h = one u from h

pub lengthened : (runs : Content) (f : Name) (c to : List ℕ) → Joins runs f c to (after_set runs (followed_by f (c ∷ [])) to)
lengthened runs f c to g gone skips bare = put g gone runs f c to skips bare

pub joined : (runs : Content) (f : Name) (c to : List ℕ) (n : Name) (d : List ℕ) → IsNextRun runs f to n d
    → Joins runs f c to (after_set (after_kill runs n) (followed_by f (c ∷ [])) (later_of d to))
joined runs f c to n d run g gone skips bare =
    let there : value_at runs (followed_by f (run.first ∷ [])) ≡ Some d = ap (value_at runs) (sym run.at) ∙ run.there in
    put g gone (after_kill runs n) f c (later_of d to) (killed g gone runs n skips)
    (meets g gone f c to run.first d bare (run_bare g gone runs skips f run.first d there) run.from)

pub only_killed : (runs : Content) (f : Name) (c to : List ℕ) (n : Name) → Joins runs f c to (after_kill runs n)
only_killed runs f c to n g gone skips bare = killed g gone runs n skips

pub same_joins : (runs : Content) (f : Name) (c to : List ℕ) → Joins runs f c to runs
same_joins runs f c to g gone skips bare = skips

-- a run in which the first of what is joined lies, which is as long as both
pub within : (runs new : Content) (f : Name) (from to c d : List ℕ) → LiesInRun runs f from c d → Joins runs f c (later_of d to) new → Joins runs f from to new
within runs new f from to c d run joins g gone skips bare =
    joins g gone skips (swap (is_lt (subscript_cmp to d)) refl)
  where
    mine : AreBare g gone f c d
    mine = run_bare g gone runs skips f c d run.there

    longer : is_lt (subscript_cmp to d) ≡ false → AreBare g gone f c to
    longer e u above below =
        by (is_lt (subscript_cmp d u)) refl
      where
        by : (t : Bool) → is_lt (subscript_cmp d u) ≡ t → IsBare g gone f u
        by true past =
            bare u (not_before subscript_cmp subscript_cmp_total subscript_cmp-IsAntisymmetric from d u run.to (lt_asym subscript_cmp subscript_cmp_total subscript_cmp-IsAntisymmetric d u past)) below
        by false h = mine u above h

    swap : (t : Bool) → is_lt (subscript_cmp to d) ≡ t → AreBare g gone f c (cond t d to)
    swap true e = mine
    swap false e = longer e

-- what is so of what is put, and where it isn't, is so of what is left
pub either : {A B : Type 0} (P : Content → Type 0) (r : Result A B) (x y new : Content) → OnOk r (new ≡ x) → OnErr r (new ≡ y) → P x → P y → P new
either P (Ok a) x y new ok err px py = subst P (sym ok) px
either P (Err b) x y new ok err px py = subst P (sym err) py
