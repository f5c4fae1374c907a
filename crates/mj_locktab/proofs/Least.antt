-- The first conflict of all is that of the least job that is in the way, among its own holds.
use Rattle.std.proofs.Common.{◌≡◌, ℕ, zero, suc, ◌<◌, ◌≤◌, Bool, true, false, [], ◌∷◌, Option, Some, None, ◌⊎◌, inl, inr, refl, sym, ap, ◌∙◌, subst, arith, eq-eqb}
use Rattle.std.specs.Prelude.{◌==◌, unwrap_or}
use Rattle.std.specs.Option.{option_or}
use Rattle.std.specs.List.{find}
use Rattle.std.specs.declared.cmp.Ordering.TheVariants.{Less}
use Rattle.std.specs.Ordering.{nat_cmp}
use Rattle.std.specs.Cmp.{nat_cmp_is}
use Rattle.std.specs.BTreeMap.{BTreeMap, is_at}
use Rattle.std.proofs.lemmas.Cmp.{nat_cmp_total}
use Rattle.std.proofs.lemmas.Map.{lookup-none}
use Rattle.std.proofs.lemmas.Map.Entries.{none_below_head}
use Rattle.std.proofs.lemmas.List.Folds.{find-append}
use Rattle.mj_subs.specs.Name.{Name}
use Rattle.mj_locktab.specs.declared.hold.Hold.{Hold}
use Rattle.mj_locktab.specs.Locks.{Locks, count_of}
use Rattle.mj_locktab.specs.Tries.{is_conflict, conflict_with}
use Rattle.mj_locktab.specs.Trees.{Stand, along, is_in_way, IsLeastOther}
use Rattle.mj_locktab.specs.Told.{Tell}
use Rattle.mj_locktab.specs.Parts.{Parts, held_by, holds_of, part_in, part_at, AreParts}
use Rattle.mj_locktab.proofs.Apart.{Conflicts, conflicts, free}
use Rattle.mj_locktab.proofs.Conflicts.{conflict_in_way, in_way_conflict}
use Rattle.mj_locktab.proofs.Parts.{equal_job, apart, past_first, part_first, part_later, later_parts, find_other, count_parts, counted_parts}

-- what is found in the part of a job, and in none before it, is the first of all
first_found : (p : Hold × ℕ → Bool) (parts : Parts) (least : ℕ) (e : Hold × ℕ) → AreParts parts → ((j : ℕ) → j < least → find p (part_at parts j) ≡ None)
    → find p (part_at parts least) ≡ Some e → find p (holds_of parts) ≡ Some e
first_found p [] least e are early found = absurd (let never : ⊥ = cc in never)
first_found p (k ∷ ks) least e are early found =
    find-append p (held_by k.0 k.1.entries) (holds_of ks) ∙ at (first_found p ks least e (later_parts k ks are)) (least == k.0) refl (order k.0 least) where
      order : (a b : ℕ) → (a < b) ⊎ (b ≤ a)
      order a zero = inr (omega arith)
      order zero (suc b) = inl (omega arith)
      order (suc a) (suc b) = by (order a b) where
        by : (a < b) ⊎ (b ≤ a) → (suc a < suc b) ⊎ (suc b ≤ suc a)
        by (inl h) = inl (omega arith)
        by (inr h) = inr (omega arith)

      at : (((j : ℕ) → j < least → find p (part_at ks j) ≡ None) → find p (part_at ks least) ≡ Some e → find p (holds_of ks) ≡ Some e) → (b : Bool) → (least == k.0) ≡ b
          → (k.0 < least) ⊎ (least ≤ k.0) → option_or (find p (held_by k.0 k.1.entries)) (find p (holds_of ks)) ≡ Some e
      at further true same h = ap (λ (o : Option (Hold × ℕ)). option_or o (find p (holds_of ks))) (ap (λ (l : Locks). find p l) (sym (part_first k ks least same)) ∙ found)
      at further false other (inl before) =
          ap (λ (o : Option (Hold × ℕ)). option_or o (find p (holds_of ks))) (ap (λ (l : Locks). find p l) (sym (part_first k ks k.0 (eq-eqb k.0 k.0 refl))) ∙ early k.0 before)
          ∙ further (λ j low. still j low (j == k.0) refl) (ap (λ (l : Locks). find p l) (sym (part_later k ks least other)) ∙ found)
        where
          still : (j : ℕ) → j < least → (b : Bool) → (j == k.0) ≡ b → find p (part_at ks j) ≡ None
          still j low true f = ap (λ (o : Option (BTreeMap Name ℕ)). find p (part_in j o)) (past_first k ks are.rises j f)
          still j low false f = ap (λ (l : Locks). find p l) (sym (part_later k ks j f)) ∙ early j low
      at further false other (inr past) =
          let below : least < k.0 = strict past in
          let less : nat_cmp least k.0 ≡ Less = sym (nat_cmp_is least k.0 Less below) in
          let none = lookup-none (is_at (nat_cmp least)) (k ∷ ks) (none_below_head nat_cmp_total least k ks are.rises less) in
          let empty : find p (part_at (k ∷ ks) least) ≡ None = ap (λ (o : Option (BTreeMap Name ℕ)). find p (part_in least o)) none in
          absurd (let never : ⊥ = cc in never)
        where
          strict : least ≤ k.0 → least < k.0
          strict le = by (order least k.0) where
            by : (least < k.0) ⊎ (k.0 ≤ least) → least < k.0
            by (inl h) = h
            by (inr h) = absurd (apart least k.0 other (let same : least ≡ k.0 = omega arith in same))

module _ (s : Name → Option Stand) (parts : Parts) (job : ℕ) (n : Name) (are : AreParts parts) (told : Tell s (holds_of parts)) where
  -- a conflict in a part is of its job
  in_part : (j : ℕ) (e : Hold × ℕ) → conflict_with (part_at parts j) job n ≡ Some e → (j ≡ job → ⊥) × (is_in_way (along s n) n.subscripts j ≡ true)
  unfolding Conflicts
  in_part j e found = by (e.0.job == j) refl where
    c : Conflicts (part_at parts j) job n e
    c = conflicts (part_at parts j) job n e (are.each j).counted found

    by : (b : Bool) → (e.0.job == j) ≡ b → (j ≡ job → ⊥) × (is_in_way (along s n) n.subscripts j ≡ true)
    by true same =
        let is : e.0.job ≡ j = equal_job e.0.job j same in
        let up : 0 < count_of (holds_of parts) e.0.job e.0.name =
        subst (λ (x : ℕ). 0 < x) (sym (count_parts parts are e.0.job e.0.name))
        (subst (λ (x : ℕ). 0 < count_of (part_at parts x) e.0.job e.0.name) (sym is) c.1) in
        (λ mine. c.0 (is ∙ mine), ap (λ (x : ℕ). is_in_way (along s n) n.subscripts x) (sym is) ∙ conflict_in_way s (holds_of parts) job n told e (c.0, up, c.2))
    by false other =
        let none : count_of (part_at parts j) e.0.job e.0.name ≡ 0 = ap (λ (o : Option ℕ). unwrap_or o 0) (find_other j e.0.job e.0.name (part_at parts j) (are.each j).own (apart e.0.job j other)) in
        absurd (omega (arith, none, c.1))

  pub conflict_of_least : (least : ℕ) → IsLeastOther (is_in_way (along s n) n.subscripts) job least → conflict_with (holds_of parts) job n ≡ conflict_with (part_at parts least) job n
  conflict_of_least least is = at (conflict_with (part_at parts least) job n) refl where
    early : (j : ℕ) → j < least → conflict_with (part_at parts j) job n ≡ None
    early j low = by (conflict_with (part_at parts j) job n) refl where
      by : (o : Option (Hold × ℕ)) → conflict_with (part_at parts j) job n ≡ o → o ≡ None
      by None e = refl
      by (Some x) e = let h = in_part j x e in absurd (let le : least ≤ j = is.first j h.0 h.1 in omega (arith, le, low))

    at : (o : Option (Hold × ℕ)) → conflict_with (part_at parts least) job n ≡ o → conflict_with (holds_of parts) job n ≡ o
    at (Some e) found = first_found (is_conflict job n) parts least e are early found
    at None none =
        let w = in_way_conflict s (holds_of parts) n least told (counted_parts parts are) is.passing in
        absurd (free (part_at parts least) job n none least w.0 is.other (subst (λ (x : ℕ). 0 < x) (count_parts parts are least w.0) w.1) w.2)
