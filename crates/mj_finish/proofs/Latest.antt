-- The last event by which something is taken.
use Rattle.std.proofs.Common.{◌≡◌, ℕ, zero, suc, ◌-◌, ◌<◌, Bool, true, false, Option, Some, slice_get, ap, subst, arith}
use Rattle.std.specs.Prelude.{if◌then◌else◌}
use Rattle.mj_sys.specs.declared.event.Event.{Event}
use Rattle.mj_sys.specs.History.{History}
use Rattle.mj_finish.specs.Taken.{is_taken_at, last_taking}

abbrev found_or : Bool → ℕ → Option ℕ → Option ℕ
found_or found at rest = if found then Some at else rest

-- it is the last one before the end
pub taken_there : (takes : Event → Bool) (history : History) (end at : ℕ) → 0 < end → at ≡ end - 1 → is_taken_at takes (slice_get history at) ≡ true
    → last_taking takes history end ≡ Some at
taken_there takes history zero at some e found = absurd (omega (arith, some))
taken_there takes history (suc n) at some e found =
    let P : ℕ → Type 0 = λ m. last_taking takes history m ≡ Some at in
    let step : suc at ≡ suc n = omega (arith, e) in
    subst P step (ap (λ (b : Bool). found_or b at (last_taking takes history at)) found)

-- or it isn't, and the last one is before it
pub taken_before : (takes : Event → Bool) (history : History) (end at : ℕ) → 0 < end → at ≡ end - 1 → is_taken_at takes (slice_get history at) ≡ false
    → last_taking takes history end ≡ last_taking takes history at
taken_before takes history zero at some e not_found = absurd (omega (arith, some))
taken_before takes history (suc n) at some e not_found =
    let P : ℕ → Type 0 = λ m. last_taking takes history m ≡ last_taking takes history at in
    let step : suc at ≡ suc n = omega (arith, e) in
    subst P step (ap (λ (b : Bool). found_or b at (last_taking takes history at)) not_found)
