-- The ends of sessions, one after the other.
use Rattle.std.proofs.Common.{◌≡◌, ℕ, zero, suc, ◌+◌, List, [], ◌∷◌, drop, Option, Some, None, refl, sym, ap, ◌∙◌, arith}
use Rattle.std.specs.Prelude.{slice_get}
use Rattle.mj_text.specs.declared.fault.Fault.{Fault}
use Rattle.mj_ask.specs.declared.ask.Reply.{Reply}
use Rattle.mj_semantics.specs.State.{State, ending_order}
use Rattle.mj_semantics.specs.Outcome.{Handler, ends}
use Rattle.mj_machine.specs.Standing.{ending}
use Rattle.mj_turn.specs.Faults.{closing, closing_by}

-- what is left of a list behind so many
left_none : {A : Type 0} (xs : List A) (k : ℕ) → slice_get xs k ≡ None → drop k xs ≡ []
left_none [] zero e = refl
left_none [] (suc k) e = refl
left_none (x ∷ xs) zero e = cc
left_none (x ∷ xs) (suc k) e = left_none xs k e

left_some : {A : Type 0} (xs : List A) (k : ℕ) (y : A) → slice_get xs k ≡ Some y → drop k xs ≡ y ∷ drop (k + 1) xs
left_some [] zero y e = cc
left_some [] (suc k) y e = cc
left_some (x ∷ xs) zero y e = let same : x ≡ y = cc in ap (λ z. z ∷ xs) same
left_some (x ∷ xs) (suc k) y e =
    let more : suc k + 1 ≡ suc (k + 1) = omega arith in
    left_some xs k y e ∙ ap (λ j. y ∷ drop j (x ∷ xs)) (sym more)

-- a turn of the ending is its next ask
pub ending_turn : (done : ℕ) (f : Option Fault) (n : ℕ) (h : Handler) (s : State) (replies : List Reply) → ending done f (suc n) h s replies ≡ closing done f n h s replies
ending_turn done f n h s replies = by (slice_get (ending_order s.devices) done) refl replies
  where
    by : (o : Option (List ℕ)) → slice_get (ending_order s.devices) done ≡ o → (rs : List Reply) → ends (drop done (ending_order s.devices)) f (suc n) h s rs ≡ closing_by done f o n h s rs
    by None e rs = ap (λ l. ends l f (suc n) h s rs) (left_none (ending_order s.devices) done e)
    by (Some name) e [] = ap (λ l. ends l f (suc n) h s []) (left_some (ending_order s.devices) done name e)
    by (Some name) e (r ∷ rs) = ap (λ l. ends l f (suc n) h s (r ∷ rs)) (left_some (ending_order s.devices) done name e)
