-- A job's holds are taken away one after the other, from the last on: what is left of all holds meanwhile.
use Rattle.std.proofs.Common.{◌≡◌, ℕ, Bool, true, false, cond, not, ◌&&◌, ◌||◌, [], ◌∷◌, ◌++◌, Option, Some, None, refl, sym, ap, ◌∙◌, subst, eq-eqb}
use Rattle.std.specs.Prelude.{T, ◌==◌, unwrap_or, is_some}
use Rattle.std.specs.List.{list_all, filter}
use Rattle.std.specs.declared.cmp.Ordering.TheVariants.{Less}
use Rattle.std.specs.Ordering.{is_eq, eq_by_cmp}
use Rattle.std.specs.FinMap.{find}
use Rattle.std.specs.FinMap.Entries.{below_all, find-where_key, find-append, is_sorted-where_key}
use Rattle.mj_subs.specs.Name.{Name, names_eq}
use Rattle.mj_subs.specs.Laws.Tests.{names_eq-Decides}
use Rattle.mj_locktab.specs.declared.hold.Hold.{Hold}
use Rattle.mj_locktab.specs.Locks.{Locks, hold_of, job_of, hold_cmp, count_of, IsInOrder}
use Rattle.mj_locktab.specs.Changes.{after_give_all}
use Rattle.mj_locktab.specs.Trees.{Stand, is_at_or_above, HasOneLess}
use Rattle.mj_locktab.specs.Told.{Tell}
use Rattle.mj_locktab.specs.Parts.{IsPart, with_left}
use Rattle.mj_locktab.proofs.Order.{hold_cmp_total, hold_cmp-IsAntisymmetric, tied-hold_of, tied_symm}
use Rattle.mj_locktab.proofs.Entries.{first, second, both, is_less, any-filter}
use Rattle.mj_locktab.proofs.Counts.{IsCounted, count-without, order-with, counted-with, same_locks, without, order-after_give_all}
use Rattle.mj_locktab.proofs.Follows.{told_gone}
use Rattle.mj_locktab.proofs.Parts.{equal_job}

abbrev stays : ℕ → Locks → Hold → Bool
stays job left h = not (job_of h == job) || is_some (find hold_cmp h left)

picked : (b : Bool) (o : Option ℕ) → unwrap_or (cond b o None) 0 ≡ cond b (unwrap_or o 0) 0
picked true o = refl
picked false o = refl

find_left : (locks : Locks) (job : ℕ) (left : Locks) (h : Hold) → find hold_cmp h (with_left locks job left) ≡ cond (stays job left h) (find hold_cmp h locks) None
find_left locks job left h = find-where_key hold_cmp (stays job left) h (λ x tie. ap (λ (y : Hold). stays job left y) (sym (hold_cmp-IsAntisymmetric h x tie))) locks

count_left : (locks : Locks) (job : ℕ) (left : Locks) (j : ℕ) (m : Name) → count_of (with_left locks job left) j m ≡ cond (stays job left (hold_of j m)) (count_of locks j m) 0
count_left locks job left j m =
    ap (λ (o : Option ℕ). unwrap_or o 0) (find_left locks job left (hold_of j m)) ∙ picked (stays job left (hold_of j m)) (find hold_cmp (hold_of j m) locks)

order_left : (locks : Locks) (job : ℕ) (left : Locks) → IsInOrder locks → IsInOrder (with_left locks job left)
order_left locks job left order = is_sorted-where_key hold_cmp (stays job left) locks order

counted_left : (locks : Locks) (job : ℕ) (left : Locks) → IsCounted locks → IsCounted (with_left locks job left)
counted_left locks job left counted = any-filter hold_cmp (λ v. v == 0) (λ e. stays job left e.0) locks counted

module _ (locks : Locks) (job : ℕ) (order : IsInOrder locks) (counted : IsCounted locks) where
  -- at first all are left
  pub all_left : (part : Locks) → ((m : Name) → find hold_cmp (hold_of job m) part ≡ find hold_cmp (hold_of job m) locks) → with_left locks job part ≡ locks
  all_left part same =
      same_locks (with_left locks job part) locks (order_left locks job part order) order (counted_left locks job part counted) counted
      (λ j m. count_left locks job part j m ∙ at j m (j == job) refl)
    where
      at : (j : ℕ) (m : Name) (b : Bool) → (j == job) ≡ b → cond (not b || is_some (find hold_cmp (hold_of j m) part)) (count_of locks j m) 0 ≡ count_of locks j m
      at j m false e = refl
      at j m true e = ap (λ (o : Option ℕ). cond (is_some o) (count_of locks j m) 0) there ∙ by (find hold_cmp (hold_of j m) locks) where
        there : find hold_cmp (hold_of j m) part ≡ find hold_cmp (hold_of j m) locks
        there = let is = equal_job j job e in subst (λ (x : ℕ). find hold_cmp (hold_of x m) part ≡ find hold_cmp (hold_of x m) locks) (sym is) (same m)

        by : (o : Option ℕ) → cond (is_some o) (unwrap_or o 0) 0 ≡ unwrap_or o 0
        by None = refl
        by (Some x) = refl

  -- at the end those of the other jobs
  pub none_left : with_left locks job [] ≡ after_give_all locks job
  none_left =
      same_locks (with_left locks job []) (after_give_all locks job) (order_left locks job [] order) (order-after_give_all locks job order) (counted_left locks job [] counted)
      (any-filter hold_cmp (λ v. v == 0) (λ e. not (job_of e.0 == job)) locks counted)
      (λ j m. count_left locks job [] j m ∙ at j m (j == job) ∙ sym (without locks job j m))
    where
      at : (j : ℕ) (m : Name) (b : Bool) → cond (not b || false) (count_of locks j m) 0 ≡ cond b 0 (count_of locks j m)
      at j m true = refl
      at j m false = refl

-- ---- a list and its last element

last_less : (x h : Hold) (c : ℕ) (init : Locks) → T (below_all hold_cmp x (init ++ (h, c) ∷ [])) → hold_cmp x h ≡ Less
last_less x h c [] low = is_less _ (first _ _ low)
last_less x h c (y ∷ init) low = last_less x h c init (second _ _ low)

pub last_absent : (h : Hold) (c : ℕ) (init : Locks) → IsInOrder (init ++ (h, c) ∷ []) → find hold_cmp h init ≡ None
last_absent h c [] order = refl
last_absent h c (x ∷ init) order =
    ap (λ b. cond b (Some x.1) (find hold_cmp h init)) (tied_symm h x.0 ∙ ap is_eq (last_less x.0 h c init (first _ _ order))) ∙ last_absent h c init (second _ _ order)

below_front : (x : Hold) (init more : Locks) → T (below_all hold_cmp x (init ++ more)) → T (below_all hold_cmp x init)
below_front x [] more low = tt
below_front x (y ∷ init) more low = both _ _ (first _ _ low) (below_front x init more (second _ _ low))

pub front_order : (init more : Locks) → IsInOrder (init ++ more) → IsInOrder init
front_order [] more order = tt
front_order (x ∷ init) more order = both _ _ (below_front x.0 init more (first _ _ order)) (front_order init more (second _ _ order))

all_front : (p : Hold × ℕ → Bool) (init more : Locks) → list_all p (init ++ more) ≡ true → (list_all p init ≡ true) × (list_all p more ≡ true)
all_front p [] more own = (refl, own)
all_front p (x ∷ init) more own = at (all_front p init more) (p x) refl where
  at : (list_all p (init ++ more) ≡ true → (list_all p init ≡ true) × (list_all p more ≡ true)) → (b : Bool) → p x ≡ b → (list_all p (x ∷ init) ≡ true) × (list_all p more ≡ true)
  at further true e =
      let rest = further (sym (ap (λ b. b && list_all p (init ++ more)) e) ∙ own) in
      (ap (λ b. b && list_all p init) e ∙ rest.0, rest.1)
  at further false e = absurd (let never : false ≡ true = sym (ap (λ b. b && list_all p (init ++ more)) e) ∙ own in cc)

-- what is left of a job's holds is its own, in order, and held
pub record IsRest (locks : Locks) (job : ℕ) (left : Locks) : Type 0 where
  pub in_order : IsInOrder left
  pub own : list_all (λ e. job_of e.0 == job) left ≡ true
  pub held : (m : Name) → is_some (find hold_cmp (hold_of job m) left) ≡ true → is_some (find hold_cmp (hold_of job m) locks) ≡ true

pub whole_rest : (locks : Locks) (job : ℕ) (part : Locks) → IsPart job part → ((m : Name) → find hold_cmp (hold_of job m) part ≡ find hold_cmp (hold_of job m) locks) → IsRest locks job part
whole_rest locks job part is same = record { in_order = is.in_order; own = is.own; held = λ m e. ap (λ (o : Option ℕ). is_some o) (sym (same m)) ∙ e }

module _ (locks : Locks) (job : ℕ) (init : Locks) (h : Hold) (c : ℕ) (rest : IsRest locks job (init ++ (h, c) ∷ [])) where
  absent : find hold_cmp h init ≡ None
  absent = last_absent h c init rest.in_order

  found_with : (q : Hold) → find hold_cmp q (init ++ (h, c) ∷ []) ≡ cond (eq_by_cmp hold_cmp q h) (Some c) (find hold_cmp q init)
  found_with q = find-append hold_cmp hold_cmp_total init h c q absent

  mine : h.job ≡ job
  mine = by (all_front (λ e. job_of e.0 == job) init ((h, c) ∷ []) rest.own).1 where
    by : ((job_of h == job) && true) ≡ true → h.job ≡ job
    by e = equal_job h.job job (at (job_of h == job) e) where
      at : (b : Bool) → (b && true) ≡ true → b ≡ true
      at true f = refl
      at false f = f

  -- and so are all but the last
  pub front_rest : IsRest locks job init
  front_rest = record {
    in_order = front_order init ((h, c) ∷ []) rest.in_order;
    own = (all_front (λ e. job_of e.0 == job) init ((h, c) ∷ []) rest.own).0;
    held = λ m e. rest.held m (ap (λ (o : Option ℕ). is_some o) (found_with (hold_of job m)) ∙ either (eq_by_cmp hold_cmp (hold_of job m) h) (find hold_cmp (hold_of job m) init) e);
  } where
    either : (b : Bool) (o : Option ℕ) → is_some o ≡ true → is_some (cond b (Some c) o) ≡ true
    either true o e = refl
    either false o e = e

  -- without the last the holds that are left are those of its front
  pub one_gone : IsInOrder locks → IsCounted locks → (s t : Name → Option Stand) → Tell s (with_left locks job (init ++ (h, c) ∷ []))
      → HasOneLess s t (λ m. names_eq m h.name) (λ m. is_at_or_above m h.name) job → Tell t (with_left locks job init)
  one_gone order counted s t told less = at (find hold_cmp (hold_of job h.name) locks) refl where
    all : Locks
    all = init ++ (h, c) ∷ []

    same : hold_of job h.name ≡ h
    same = (λ i. record { job = sym mine i; name = h.name })

    here : is_some (find hold_cmp (hold_of job h.name) (init ++ (h, c) ∷ [])) ≡ true
    here =
        ap (λ (o : Option ℕ). is_some o) (found_with (hold_of job h.name))
        ∙ ap (λ b. is_some (cond b (Some c) (find hold_cmp (hold_of job h.name) init))) (ap (λ (x : Hold). eq_by_cmp hold_cmp x h) same ∙ itself)
      where
        itself : eq_by_cmp hold_cmp h h ≡ true
        itself = tied-hold_of h.job h.name h.job h.name ∙ ap (λ b. b && names_eq h.name h.name) (eq-eqb h.job h.job refl) ∙ (names_eq-Decides h.name h.name).1 refl

    stays_here : stays job (init ++ (h, c) ∷ []) (hold_of job h.name) ≡ true
    stays_here = by (job == job) here where
      by : (b : Bool) → is_some (find hold_cmp (hold_of job h.name) (init ++ (h, c) ∷ [])) ≡ true → (not b || is_some (find hold_cmp (hold_of job h.name) (init ++ (h, c) ∷ []))) ≡ true
      by true e = e
      by false e = refl

    at : (o : Option ℕ) → find hold_cmp (hold_of job h.name) locks ≡ o → Tell t (with_left locks job init)
    at None e =
        let not_so : is_some (find hold_cmp (hold_of job h.name) locks) ≡ false = ap (λ (o : Option ℕ). is_some o) e in
        absurd (let is_so = rest.held h.name here in let never : ⊥ = cc (not_so, is_so) in never)
    at (Some v) e =
        let found : find hold_cmp (hold_of job h.name) (with_left locks job (init ++ (h, c) ∷ [])) ≡ Some v =
        find_left locks job (init ++ (h, c) ∷ []) (hold_of job h.name) ∙ ap (λ b. cond b (find hold_cmp (hold_of job h.name) locks) None) stays_here ∙ e in
        subst (Tell t) fewer
        (told_gone s (with_left locks job (init ++ (h, c) ∷ [])) job h.name told v
        (order_left locks job (init ++ (h, c) ∷ []) order) (counted_left locks job (init ++ (h, c) ∷ []) counted) found t less)
      where
        counts : (j : ℕ) (m : Name) (a b : Bool) → (j == job) ≡ a → names_eq m h.name ≡ b
            → cond (a && b) 0 (cond (not a || is_some (find hold_cmp (hold_of j m) (init ++ (h, c) ∷ []))) (count_of locks j m) 0)
            ≡ cond (not a || is_some (find hold_cmp (hold_of j m) init)) (count_of locks j m) 0
        counts j m false b f g = refl
        counts j m true true f g =
            let is : hold_of j m ≡ h = (λ i. record { job = (equal_job j job f ∙ sym mine) i; name = (names_eq-Decides m h.name).0 g i }) in
            sym (ap (λ (o : Option ℕ). cond (is_some o) (count_of locks j m) 0) (ap (λ (x : Hold). find hold_cmp x init) is ∙ absent))
        counts j m true false f g =
            ap (λ (o : Option ℕ). cond (is_some o) (count_of locks j m) 0)
            (found_with (hold_of j m) ∙ ap (λ b. cond b (Some c) (find hold_cmp (hold_of j m) init)) (tied-hold_of j m h.job h.name ∙ ap (λ b. (j == h.job) && b) g ∙ not_so (j == h.job)))
          where
            not_so : (b : Bool) → (b && false) ≡ false
            not_so true = refl
            not_so false = refl

        fewer : filter (λ e. not (eq_by_cmp hold_cmp (hold_of job h.name) e.0)) (with_left locks job (init ++ (h, c) ∷ [])) ≡ with_left locks job init
        fewer =
            same_locks (filter (λ e. not (eq_by_cmp hold_cmp (hold_of job h.name) e.0)) (with_left locks job (init ++ (h, c) ∷ []))) (with_left locks job init)
            (order-with 0 (with_left locks job (init ++ (h, c) ∷ [])) job h.name (order_left locks job (init ++ (h, c) ∷ []) order)) (order_left locks job init order)
            (counted-with 0 (with_left locks job (init ++ (h, c) ∷ [])) job h.name (counted_left locks job (init ++ (h, c) ∷ []) counted)) (counted_left locks job init counted)
            (λ j m.
            count-without (with_left locks job (init ++ (h, c) ∷ [])) job h.name j m
            ∙ ap (λ (x : ℕ). cond (j == job && names_eq m h.name) 0 x) (count_left locks job (init ++ (h, c) ∷ []) j m)
            ∙ counts j m (j == job) (names_eq m h.name) refl refl
            ∙ sym (count_left locks job init j m))
