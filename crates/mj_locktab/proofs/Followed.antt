-- The trees tell of the holds after a name is taken or given up, where they followed the change of the job's own holds.
use Rattle.std.proofs.Common.{◌≡◌, ℕ, zero, suc, ◌+◌, ◌-◌, ◌<◌, ◌≤◌, Bool, true, false, cond, not, ◌&&◌, [], ◌∷◌, Option, Some, None, refl, sym, ap, ◌∙◌, subst, arith, eq-eqb}
use Rattle.std.specs.Prelude.{◌==◌, unwrap_or}
use Rattle.std.specs.List.{filter, list_all}
use Rattle.std.specs.declared.cmp.Ordering.TheVariants.{Less, Equal, Greater}
use Rattle.std.specs.Ordering.{eq_by_cmp}
use Rattle.std.specs.FinMap.{find, put}
use Rattle.std.specs.FinMap.Entries.{by_order}
use Rattle.mj_subs.specs.Name.{Name, names_eq}
use Rattle.mj_locktab.specs.declared.hold.Hold.{Hold}
use Rattle.mj_locktab.specs.Locks.{Locks, hold_of, job_of, hold_cmp, count_of, IsInOrder}
use Rattle.mj_locktab.specs.Changes.{with_count, one_more, one_less}
use Rattle.mj_locktab.specs.Trees.{Stand, is_at_or_above, AreAlike, HasOneMore, HasOneLess}
use Rattle.mj_locktab.specs.Told.{Tell, IsFree, Follows, follow_by}
use Rattle.mj_locktab.specs.Parts.{IsPart}
use Rattle.mj_locktab.proofs.Entries.{filter_absent}
use Rattle.mj_locktab.proofs.Counts.{IsCounted, order-one_more, order-one_less, counted-one_more, counted-one_less}
use Rattle.mj_locktab.proofs.Follows.{told_alike, told_new, told_again, told_gone, gone, found_put, some_held}

module _ (s t : Name → Option Stand) (locks : Locks) (job : ℕ) (n : Name) (order : IsInOrder locks) (counted : IsCounted locks) (told : Tell s locks) where
  pub told_more : IsFree locks job n → Follows s t locks (one_more locks job n) job n → Tell t (one_more locks job n)
  told_more free f =
      at (find hold_cmp (hold_of job n) locks) refl
      (subst (λ (o : Option ℕ). follow_by (find hold_cmp (hold_of job n) locks) o s t job n) (found_put locks job n (count_of locks job n + 1)) f)
    where
      at : (o : Option ℕ) → find hold_cmp (hold_of job n) locks ≡ o → follow_by o (Some (count_of locks job n + 1)) s t job n → Tell t (one_more locks job n)
      at None e g = told_new s locks job n told t (count_of locks job n + 1) (omega arith) free e g
      at (Some c) e g = told_alike s t (one_more locks job n) g (told_again s locks job n told c order counted e (count_of locks job n + 1) (omega arith))

  pub told_less : Follows s t locks (one_less locks job n) job n → Tell t (one_less locks job n)
  told_less f = at (find hold_cmp (hold_of job n) locks) refl f where
    value : (c d : ℕ) → c - 1 ≡ d → find hold_cmp (hold_of job n) locks ≡ Some c → one_less locks job n ≡ with_count locks job n d
    value c d f e = ap (λ (o : Option ℕ). with_count locks job n (unwrap_or o 0 - 1)) e ∙ ap (λ (x : ℕ). with_count locks job n x) f

    at : (o : Option ℕ) → find hold_cmp (hold_of job n) locks ≡ o → follow_by o (find hold_cmp (hold_of job n) (one_less locks job n)) s t job n → Tell t (one_less locks job n)
    at None e g =
        let same : one_less locks job n ≡ locks = ap (λ (o : Option ℕ). with_count locks job n (unwrap_or o 0 - 1)) e ∙ filter_absent hold_cmp (hold_of job n) locks e in
        let h : follow_by None None s t job n = subst (λ (o : Option ℕ). follow_by None o s t job n) (ap (λ (l : Locks). find hold_cmp (hold_of job n) l) same ∙ e) g in
        subst (Tell t) (sym same) (told_alike s t locks h told)
    at (Some zero) e g = absurd (omega (arith, some_held s locks job n told zero order counted e))
    at (Some (suc zero)) e g =
        let is = value 1 0 (omega arith) e in
        let h : follow_by (Some 1) None s t job n =
        subst (λ (o : Option ℕ). follow_by (Some 1) o s t job n) (ap (λ (l : Locks). find hold_cmp (hold_of job n) l) is ∙ gone locks job n) g in
        subst (Tell t) (sym is) (told_gone s locks job n told 1 order counted e t h)
    at (Some (suc (suc d))) e g =
        let is = value (suc (suc d)) (suc d) (omega arith) e in
        let h : follow_by (Some (suc (suc d))) (Some (suc d)) s t job n =
        subst (λ (o : Option ℕ). follow_by (Some (suc (suc d))) o s t job n) (ap (λ (l : Locks). find hold_cmp (hold_of job n) l) is ∙ found_put locks job n (suc d)) g in
        subst (Tell t) (sym is) (told_alike s t (put hold_cmp (hold_of job n) (suc d) locks) h (told_again s locks job n told (suc (suc d)) order counted e (suc d) (omega arith)))

  -- where nothing changed
  pub told_same : Follows s t locks locks job n → Tell t locks
  told_same f = at (find hold_cmp (hold_of job n) locks) f where
    at : (o : Option ℕ) → follow_by o o s t job n → Tell t locks
    at None g = told_alike s t locks g told
    at (Some c) g = told_alike s t locks g told

-- ---- what stays a part

own-put : (job v : ℕ) (n : Name) (es : Locks) → list_all (λ e. job_of e.0 == job) es ≡ true → list_all (λ e. job_of e.0 == job) (put hold_cmp (hold_of job n) v es) ≡ true
own-put job v n [] own = ap (λ b. b && true) (eq-eqb job job refl)
own-put job v n (e ∷ es) own =
    elim (hold_cmp (hold_of job n) e.0) as (λ r. list_all (λ x. job_of x.0 == job) (by_order r ((hold_of job n, v) ∷ e ∷ es) ((e.0, v) ∷ es) (e ∷ put hold_cmp (hold_of job n) v es)) ≡ true) [
      | Less ↦ ap (λ b. b && ((job_of e.0 == job) && list_all (λ x. job_of x.0 == job) es)) (eq-eqb job job refl) ∙ own
      | Equal ↦ own
      | Greater ↦ joined (job_of e.0 == job) (list_all (λ x. job_of x.0 == job) es) _ own (λ rest. own-put job v n es rest)
    ]
  where
    joined : (a b c : Bool) → (a && b) ≡ true → (b ≡ true → c ≡ true) → (a && c) ≡ true
    joined true b c e f = f e
    joined false b c e f = e

own-filter : (job : ℕ) (p : Hold × ℕ → Bool) (es : Locks) → list_all (λ e. job_of e.0 == job) es ≡ true → list_all (λ e. job_of e.0 == job) (filter p es) ≡ true
own-filter job p [] own = refl
own-filter job p (e ∷ es) own = at (own-filter job p es) (job_of e.0 == job) (p e) own (λ same. refl) where
  at : (list_all (λ x. job_of x.0 == job) es ≡ true → list_all (λ x. job_of x.0 == job) (filter p es) ≡ true) → (a b : Bool) → (a && list_all (λ x. job_of x.0 == job) es) ≡ true
      → (b ≡ true → list_all (λ x. job_of x.0 == job) (e ∷ filter p es) ≡ (a && list_all (λ x. job_of x.0 == job) (filter p es)))
      → list_all (λ x. job_of x.0 == job) (cond b (e ∷ filter p es) (filter p es)) ≡ true
  at rest true true o whole = whole refl ∙ rest o
  at rest true false o whole = rest o
  at rest false b o whole = absurd (let never : ⊥ = cc in never)

own-with : (c : ℕ) (job : ℕ) (n : Name) (es : Locks) → list_all (λ e. job_of e.0 == job) es ≡ true → list_all (λ e. job_of e.0 == job) (with_count es job n c) ≡ true
own-with zero job n es own = own-filter job (λ e. not (eq_by_cmp hold_cmp (hold_of job n) e.0)) es own
own-with (suc c) job n es own = own-put job (suc c) n es own

pub part-one_more : (job : ℕ) (n : Name) (es : Locks) → IsPart job es → IsPart job (one_more es job n)
part-one_more job n es part = record {
  in_order = order-one_more es job n part.in_order;
  counted = counted-one_more es job n part.counted;
  own = own-put job (count_of es job n + 1) n es part.own;
}

pub part-one_less : (job : ℕ) (n : Name) (es : Locks) → IsPart job es → IsPart job (one_less es job n)
part-one_less job n es part = record {
  in_order = order-one_less es job n part.in_order;
  counted = counted-one_less es job n part.counted;
  own = own-with (count_of es job n - 1) job n es part.own;
}

-- ---- how the trees follow a change of the job's own holds

module _ (s t : Name → Option Stand) (a b : Locks) (job : ℕ) (n : Name) where
  by_found : (o p : Option ℕ) → find hold_cmp (hold_of job n) a ≡ o → find hold_cmp (hold_of job n) b ≡ p → follow_by o p s t job n → Follows s t a b job n
  by_found o p e f h = subst (λ (x : Option ℕ). follow_by x (find hold_cmp (hold_of job n) b) s t job n) (sym e) (subst (λ (x : Option ℕ). follow_by o x s t job n) (sym f) h)

  -- nothing changed
  pub follows_alike : b ≡ a → AreAlike s t → Follows s t a b job n
  follows_alike same alike = at (find hold_cmp (hold_of job n) a) refl where
    at : (o : Option ℕ) → find hold_cmp (hold_of job n) a ≡ o → Follows s t a b job n
    at None e = by_found None None e (ap (λ (l : Locks). find hold_cmp (hold_of job n) l) same ∙ e) alike
    at (Some c) e = by_found (Some c) (Some c) e (ap (λ (l : Locks). find hold_cmp (hold_of job n) l) same ∙ e) alike

  -- a name that was held is held more often
  pub follows_again : (c : ℕ) → find hold_cmp (hold_of job n) a ≡ Some c → b ≡ one_more a job n → AreAlike s t → Follows s t a b job n
  follows_again c e is alike =
      by_found (Some c) (Some (count_of a job n + 1)) e (ap (λ (l : Locks). find hold_cmp (hold_of job n) l) is ∙ found_put a job n (count_of a job n + 1)) alike

  -- a name is held that wasn't
  pub follows_new : find hold_cmp (hold_of job n) a ≡ None → b ≡ one_more a job n → HasOneMore s t (λ m. names_eq m n) (λ m. is_at_or_above m n) job → Follows s t a b job n
  follows_new e is more = by_found None (Some (count_of a job n + 1)) e (ap (λ (l : Locks). find hold_cmp (hold_of job n) l) is ∙ found_put a job n (count_of a job n + 1)) more

  lower_count : (c : ℕ) → find hold_cmp (hold_of job n) a ≡ Some c → b ≡ one_less a job n → b ≡ with_count a job n (c - 1)
  lower_count c e is = is ∙ ap (λ (o : Option ℕ). with_count a job n (unwrap_or o 0 - 1)) e

  -- it is held less often
  pub follows_less : (c : ℕ) → find hold_cmp (hold_of job n) a ≡ Some c → 1 < c → b ≡ one_less a job n → AreAlike s t → Follows s t a b job n
  follows_less c e more is alike = at (c - 1) refl (omega (arith, more)) where
    at : (d : ℕ) → c - 1 ≡ d → 0 < d → Follows s t a b job n
    at zero f up = absurd (omega (arith, up))
    at (suc d) f up =
        by_found (Some c) (Some (suc d)) e
        (ap (λ (l : Locks). find hold_cmp (hold_of job n) l) (lower_count c e is ∙ ap (λ (x : ℕ). with_count a job n x) f) ∙ found_put a job n (suc d)) alike

  -- it is held no more
  pub follows_gone : (c : ℕ) → find hold_cmp (hold_of job n) a ≡ Some c → c ≤ 1 → b ≡ one_less a job n → HasOneLess s t (λ m. names_eq m n) (λ m. is_at_or_above m n) job → Follows s t a b job n
  follows_gone c e few is less =
      let none : c - 1 ≡ 0 = omega (arith, few) in
      by_found (Some c) None e (ap (λ (l : Locks). find hold_cmp (hold_of job n) l) (lower_count c e is ∙ ap (λ (x : ℕ). with_count a job n x) none) ∙ gone a job n) less

pub alike_itself : (s : Name → Option Stand) → AreAlike s s
alike_itself s = record { holders = λ n. refl; tallies = λ n j. refl }
