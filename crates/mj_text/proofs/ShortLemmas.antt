-- Two writes into a room leave the two lists at its front.
use Rattle.std.proofs.Common.{◌≡◌, ℕ, ◌+◌, List, ◌++◌, length, take, arith, ap, refl, ◌∙◌, length-append}
use Rattle.std.proofs.Math.Seq.{take-append_seam}
use Rattle.std.proofs.lemmas.Slice.{take-put_mid}
use borrow.Rule.Slice.PartMut.{put_mid}

-- `front` was written at the head of the room, then `back` after it
pub take-two_writes : (front back rest : List ℕ) (k : ℕ) → take (length front + length back) (put_mid (length front) k (front ++ rest) back) ≡ front ++ back
take-two_writes front back rest k =
    take-put_mid (length front) k (front ++ rest) back (length front + length back) refl (omega (arith, length-append front rest))
    ∙ ap (λ xs. xs ++ back) (take-append_seam front rest)
