-- Faults by which jobs end, looked for one event after the other.
use Rattle.std.proofs.Common.{◌≡◌, ℕ, zero, suc, ◌+◌, ◌<◌, ◌≤◌, [], ◌∷◌, length, drop, Option, Some, None, slice_get, refl, sym, ap, ◌∙◌, subst, arith}
use Rattle.std.proofs.lemmas.List.{at_drop_all}
use Rattle.mj_text.specs.declared.fault.Fault.{Fault}
use Rattle.mj_sys.specs.History.{History}
use Rattle.mj_judge.specs.Marks.{earlier, fault_at, fault_in}

-- of what is left at a place, what stands there comes first
from_here : (history : History) (at : ℕ) → at < length history
    → fault_in (drop at history) ≡ earlier (fault_at (slice_get history at)) (fault_in (drop (at + 1) history))
from_here [] at less = absurd (omega (arith, less))
from_here (e ∷ history) zero less = refl
from_here (e ∷ history) (suc at) less =
    let next : suc (at + 1) ≡ suc at + 1 = omega arith in
    let P : ℕ → Type 0 = λ n. fault_in (drop at history) ≡ earlier (fault_at (slice_get history at)) (fault_in (drop n (e ∷ history))) in
    subst P next (from_here history at (omega (arith, less)))

-- no job ended by a fault there
pub goes_on : (history : History) (at : ℕ) (here : Option Fault) → at < length history → here ≡ fault_at (slice_get history at) → here ≡ None
    → fault_in (drop at history) ≡ fault_in history → fault_in (drop (at + 1) history) ≡ fault_in history
goes_on history at here less is none left =
    sym (from_here history at less ∙ ap (λ (o : Option Fault). earlier o (fault_in (drop (at + 1) history))) (sym is ∙ none)) ∙ left

-- one did
pub ends_here : (history : History) (at : ℕ) (here : Option Fault) (fault : Fault) → at < length history → here ≡ fault_at (slice_get history at) → here ≡ Some fault
    → fault_in (drop at history) ≡ fault_in history → Some fault ≡ fault_in history
ends_here history at here fault less is some left =
    sym (from_here history at less ∙ ap (λ (o : Option Fault). earlier o (fault_in (drop (at + 1) history))) (sym is ∙ some)) ∙ left

-- nothing is left
pub none_ends : (history : History) (at : ℕ) → length history ≤ at → fault_in (drop at history) ≡ fault_in history → None ≡ fault_in history
none_ends history at all left = sym (at_drop_all fault_in history at all) ∙ left
