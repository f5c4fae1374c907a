-- How many accesses of a transaction were counted, one event more.
use Rattle.std.proofs.Common.{◌≡◌, ℕ, suc, ◌+◌, ◌-◌, ◌<◌, Bool, true, false, List, ap, sym, ◌∙◌, arith, if◌then◌else◌}
use Rattle.std.specs.Prelude.{slice_get}
use Rattle.mj_ask.specs.declared.noted.Noted.{Noted}
use Rattle.mj_explain.specs.Events.{is_counted_of}
use Rattle.mj_explain.specs.Clashes.{counted_in, IsAccessOf}
use Rattle.mj_explain.proofs.Counting.{counted_on}

module _ (es : List Noted) (job begin place n : ℕ) (behind : begin < place) (was : n ≡ counted_in es job (suc begin) (place - suc begin)) where
  pub counted_yes : is_counted_of job (slice_get es place) ≡ true → n + 1 ≡ counted_in es job (suc begin) (place + 1 - suc begin)
  counted_yes does =
      let on = counted_on es job (suc begin) place (omega (arith, behind)) in
      ap (λ (m : ℕ). m + 1) was ∙ ap (λ (is : Bool). counted_in es job (suc begin) (place - suc begin) + (if is then 1 else 0)) (sym does) ∙ sym on

  pub counted_no : is_counted_of job (slice_get es place) ≡ false → n ≡ counted_in es job (suc begin) (place + 1 - suc begin)
  counted_no isnt =
      let on = counted_on es job (suc begin) place (omega (arith, behind)) in
      let same : counted_in es job (suc begin) (place - suc begin) ≡ counted_in es job (suc begin) (place - suc begin) + 0 = omega arith in
      was ∙ same ∙ ap (λ (is : Bool). counted_in es job (suc begin) (place - suc begin) + (if is then 1 else 0)) (sym isnt) ∙ sym on

  -- the access of this number
  pub counted_here : (number : ℕ) → is_counted_of job (slice_get es place) ≡ true → n + 1 ≡ number → IsAccessOf es job begin number place
  counted_here number does is = record { behind = behind; counted = does; which = ap (λ (m : ℕ). m + 1) (sym was) ∙ is }
