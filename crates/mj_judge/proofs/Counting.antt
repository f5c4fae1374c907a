-- Events of a kind, counted one after the other.
use Rattle.std.specs.Prelude.{cond}
use Rattle.std.specs.List.{count_by}
use Rattle.std.proofs.Common.{◌≡◌, ℕ, zero, suc, ◌+◌, ◌<◌, ◌≤◌, Bool, true, false, [], ◌∷◌, length, take, get_or, Option, Some, slice_get, refl, sym, ap, ◌∙◌, arith}
use Rattle.std.proofs.lemmas.List.Sums.{sum_by_more}
use Rattle.mj_sys.specs.declared.event.Event.{Event}
use Rattle.mj_sys.specs.History.{History}
use Rattle.mj_judge.specs.declared.marks.Mark.{Mark}
use Rattle.mj_judge.specs.Marks.{bears, bears_at}

-- what stands at a place
there : (history : History) (at : ℕ) (d : Event) → at < length history → slice_get history at ≡ Some (get_or history at d)
there [] at d less = absurd (omega (arith, less))
there (e ∷ history) zero d less = refl
there (e ∷ history) (suc at) d less = there history at d (omega (arith, less))

more_by : (mark : Mark) (history : History) (at count : ℕ) (d : Event) → at < length history → count ≡ count_by (bears mark) (take at history)
    → count + cond (bears_at mark (slice_get history at)) 1 0 ≡ count_by (bears mark) (take (at + 1) history)
more_by mark history at count d less counted =
    ap (λ n. n + cond (bears_at mark (slice_get history at)) 1 0) counted
    ∙ ap (λ o. count_by (bears mark) (take at history) + cond (bears_at mark o) 1 0) (there history at d less)
    ∙ sym (sum_by_more (λ x. cond (bears mark x) 1 0) history at d less)

-- how many there are at a place, by what is seen there
pub share_is : (mark : Mark) (history : History) (at : ℕ) (o : Option Event) (b : Bool) → o ≡ slice_get history at → bears_at mark o ≡ b
    → ◌≡◌ {A = ℕ} (cond b 1 0) (cond (bears_at mark (slice_get history at)) 1 0)
share_is mark history at o b is says = ap {B = ℕ} (λ x. cond x 1 0) (sym says ∙ ap (bears_at mark) is)

-- one event more
pub one_more : (mark : Mark) (history : History) (at count : ℕ) → at < length history → count ≡ count_by (bears mark) (take at history)
    → count + cond (bears_at mark (slice_get history at)) 1 0 ≡ count_by (bears mark) (take (at + 1) history)
one_more mark [] at count less counted = absurd (omega (arith, less))
one_more mark (e ∷ history) at count less counted = more_by mark (e ∷ history) at count e less counted

pub at_most : (b : Bool) → cond b 1 0 ≤ 1
at_most true = omega arith
at_most false = omega arith
