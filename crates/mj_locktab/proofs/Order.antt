-- The order of holds is total, and only equal holds tie.
use Rattle.std.proofs.Common.{◌≡◌, ℕ, ◌&&◌, refl, sym, ap, ◌∙◌}
use Rattle.std.specs.Prelude.{◌==◌}
use Rattle.std.specs.declared.cmp.Ordering.{Ordering}
use Rattle.std.specs.declared.cmp.Ordering.TheVariants.{Less, Equal, Greater}
use Rattle.std.specs.Ordering.{nat_cmp, ordering_then, is_eq, eq_by_cmp}
use Rattle.std.specs.Cmp.{IsTotalOrder, unsigned_tied}
use Rattle.std.specs.FinMap.{IsAntisymmetric, nat_cmp-IsAntisymmetric}
use Rattle.std.proofs.lemmas.Cmp.{nat_cmp_total, on_total, then_total, eq_by_cmp_equiv}
use Rattle.mj_subs.specs.Name.{Name, names_eq}
use Rattle.mj_subs.specs.Collation.{name_cmp}
use Rattle.mj_subs.specs.Laws.Total.{name_cmp_total}
use Rattle.mj_subs.specs.Laws.Ties.{name_cmp-IsAntisymmetric, names_eq-name_cmp}
use Rattle.mj_locktab.specs.declared.hold.Hold.{Hold}
use Rattle.mj_locktab.specs.Locks.{hold_of, job_of, name_of, hold_cmp}

pub hold_cmp_total : IsTotalOrder hold_cmp
hold_cmp_total = then_total (on_total job_of nat_cmp_total) (on_total name_of name_cmp_total)

both_Equal : (r s : Ordering) → ordering_then r s ≡ Equal → (r ≡ Equal) × (s ≡ Equal)
both_Equal Less s e = absurd (let never : ⊥ = cc in never)
both_Equal Equal s e = (refl, e)
both_Equal Greater s e = absurd (let never : ⊥ = cc in never)

-- only equal holds tie
pub hold_cmp-IsAntisymmetric : IsAntisymmetric hold_cmp
hold_cmp-IsAntisymmetric g h e =
    let parts = both_Equal (nat_cmp g.job h.job) _ e in
    let jobs = nat_cmp-IsAntisymmetric g.job h.job parts.0 in
    let names = name_cmp-IsAntisymmetric g.name h.name parts.1 in
    λ i. record { job = jobs i; name = names i }

is_eq-then : (r s : Ordering) → is_eq (ordering_then r s) ≡ (is_eq r && is_eq s)
is_eq-then Less s = refl
is_eq-then Equal s = refl
is_eq-then Greater s = refl

-- holds tie where the jobs and the names are equal
pub tied-hold_of : (j : ℕ) (m : Name) (job : ℕ) (n : Name) → eq_by_cmp hold_cmp (hold_of j m) (hold_of job n) ≡ (j == job && names_eq m n)
tied-hold_of j m job n =
    is_eq-then (nat_cmp j job) (name_cmp m n)
    ∙ ap (λ b. b && eq_by_cmp name_cmp m n) (unsigned_tied j job)
    ∙ ap (λ b. j == job && b) (sym (names_eq-name_cmp m n))

pub tied_symm : (g h : Hold) → eq_by_cmp hold_cmp g h ≡ eq_by_cmp hold_cmp h g
tied_symm g h = (eq_by_cmp_equiv hold_cmp_total).symm g h
