-- Updates that were lost, one more.
use Rattle.std.proofs.Common.{◌≡◌, ℕ, ◌+◌, ◌<◌, List, [], ◌∷◌, ◌++◌, length, take, Some}
use Rattle.std.proofs.Common.{ap, sym, ◌∙◌, subst, arith, ◌⊎◌, inl, inr}
use Rattle.std.proofs.lemmas.List.{length-append, take-append-le, take_all}
use Rattle.std.proofs.lemmas.List.Elements.{All-push, All-weaker, All-nil}
use Rattle.std.proofs.lemmas.Option.{same_Some, slice_get_within}
use Rattle.std.specs.Prelude.{slice_get}
use Rattle.mj_explain.specs.declared.losses.Loss.{Loss}
use Rattle.mj_ask.specs.declared.noted.Noted.{Noted}
use Rattle.mj_explain.specs.Losses.{IsLoss, AreLosses, AreBefore}
use Rattle.mj_explain.proofs.Tables.{less_or_same, get_front, get_last}

-- what is before a place is before the next one
pub before_next : (place : ℕ) (ls : List Loss) → AreBefore place ls → AreBefore (place + 1) ls
before_next place ls are = All-weaker (λ m. m.second_write < place) (λ m. m.second_write < place + 1) (λ m less. omega (arith, less)) ls are

pub before_more : (place : ℕ) (ls : List Loss) (l : Loss) → l.second_write ≡ place → AreBefore place ls → AreBefore (place + 1) (ls ++ l ∷ [])
before_more place ls l at are = All-push (λ m. m.second_write < place + 1) ls l (before_next place ls are) (omega (arith, at))

pub no_losses : (es : List Noted) → AreLosses es []
no_losses es = record { each = All-nil (IsLoss es); order = λ k l there. cc }

pub losses_more : (es : List Noted) (ls : List Loss) (l : Loss) → IsLoss es l → AreBefore l.second_write ls → AreLosses es ls → AreLosses es (ls ++ l ∷ [])
losses_more es ls l is before are = record {
  each = All-push (IsLoss es) ls l are.each is;
  order = λ k m there. by k m there (less_or_same k (length ls) (within k m there));
}
  where
    within : (k : ℕ) (m : Loss) → slice_get (ls ++ l ∷ []) k ≡ Some m → k < length ls + 1
    within k m there = omega (arith, slice_get_within (ls ++ l ∷ []) k m there, length-append ls (l ∷ []))

    by : (k : ℕ) (m : Loss) → slice_get (ls ++ l ∷ []) k ≡ Some m → (k < length ls) ⊎ (k ≡ length ls) → AreBefore m.second_write (take k (ls ++ l ∷ []))
    by k m there (inl less) =
        subst (AreBefore m.second_write) (sym (take-append-le k ls (l ∷ []) (omega (arith, less))))
        (are.order k m (sym (get_front ls l k less) ∙ there))
    by k m there (inr same) =
        let one : l ≡ m = same_Some l m (sym (get_last ls l) ∙ ap (slice_get (ls ++ l ∷ [])) (sym same) ∙ there) in
        let taken : take k (ls ++ l ∷ []) ≡ ls = take-append-le k ls (l ∷ []) (omega (arith, same)) ∙ take_all k ls (omega (arith, same)) in
        subst (AreBefore m.second_write) (sym taken) (subst (λ (x : Loss). AreBefore x.second_write ls) one before)
