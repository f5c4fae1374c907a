-- What is printed of jobs one by one, and faults one by one.
use Rattle.std.proofs.Common.{◌≡◌, ℕ, zero, suc, ◌+◌, ◌<◌, Bool, true, false, ◌||◌, List, [], ◌∷◌, ◌++◌, length, slice_get, sym, ap, ◌∙◌, refl, subst, arith}
use Rattle.mj_sys.specs.History.{History}
use Rattle.mj_report.specs.Printed.{part, parts}
use Rattle.mj_report.specs.Faults.{has_faulted, event_faults, is_fault}

or_true : (b : Bool) → (b || true) ≡ true
or_true true = refl
or_true false = refl

-- a history has a fault where one of its events is one
pub fault_there : (history : History) (at : ℕ) → event_faults (slice_get history at) ≡ true → has_faulted history ≡ true
fault_there [] at h = cc
fault_there (e ∷ history) zero h = ap (λ b. b || has_faulted history) h
fault_there (e ∷ history) (suc at) h = ap (λ b. is_fault e.ask || b) (fault_there history at h) ∙ or_true (is_fault e.ask)

pub no_fault : (history : History) → ((k : ℕ) → k < length history → event_faults (slice_get history k) ≡ false) → has_faulted history ≡ false
no_fault [] h = refl
no_fault (e ∷ history) h =
    ap (λ b. b || has_faulted history) (h 0 (omega arith)) ∙ no_fault history (λ k few. h (suc k) (omega (arith, few)))

-- one part more
pub parts_on : (output : ℕ → List ℕ) (done : ℕ) (bytes more : List ℕ) → bytes ≡ parts output done → more ≡ bytes ++ part (done + 1) (output (done + 1)) → more ≡ parts output (done + 1)
parts_on output done bytes more h e =
    let next : suc done ≡ done + 1 = omega arith in
    let P : ℕ → Type 0 = λ n. more ≡ parts output n in
    let Q : ℕ → Type 0 = λ n. more ≡ bytes ++ part n (output n) in
    subst P next (subst Q (sym next) e ∙ ap (λ xs. xs ++ part (suc done) (output (suc done))) h)
