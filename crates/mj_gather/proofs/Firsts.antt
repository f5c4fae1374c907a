-- The own entries of the first jobs, one job after the other.
use Rattle.std.proofs.Common.{◌≡◌, ℕ, suc, ◌+◌, ◌-◌, ◌<◌, ◌++◌, sym, ap, ◌∙◌, arith, append_assoc, append-nil}
use Rattle.mj_sys.specs.History.{History}
use Rattle.mj_gather.specs.Merged.{Left, own, said, passed, firsts, left_by_firsts}

next_of : (jobs at : ℕ) → at < jobs → jobs - at ≡ suc (jobs - (at + 1))
next_of jobs at below = omega (arith, below)

module _ (jobs at : ℕ) (left left' : Left) (below : at < jobs) (is : left' ≡ passed left (at + 1)) where
  -- what is left goes on
  pub left_on : left_by_firsts (at + 1) (jobs - at) left ≡ left_by_firsts (at + 1 + 1) (jobs - (at + 1)) left'
  left_on =
      ap (λ n. left_by_firsts (at + 1) n left) (next_of jobs at below)
      ∙ (ap (λ i. left_by_firsts i (jobs - (at + 1)) (passed left (at + 1))) (let e : suc (at + 1) ≡ at + 1 + 1 = omega arith in e)
      ∙ ap (λ l. left_by_firsts (at + 1 + 1) (jobs - (at + 1)) l) (sym is))

  -- and so does what is written down
  pub firsts_on : (written written' : History) → written' ≡ written ++ said (at + 1) (own (left (at + 1)))
      → written ++ firsts (at + 1) (jobs - at) left ≡ written' ++ firsts (at + 1 + 1) (jobs - (at + 1)) left'
  firsts_on written written' more =
      let tail : History = firsts (at + 1 + 1) (jobs - (at + 1)) left' in
      let one : firsts (at + 1) (jobs - at) left ≡ said (at + 1) (own (left (at + 1))) ++ tail =
      ap (λ n. firsts (at + 1) n left) (next_of jobs at below)
      ∙ (ap (λ i. said (at + 1) (own (left (at + 1))) ++ firsts i (jobs - (at + 1)) (passed left (at + 1))) (let e : suc (at + 1) ≡ at + 1 + 1 = omega arith in e)
      ∙ ap (λ l. said (at + 1) (own (left (at + 1))) ++ firsts (at + 1 + 1) (jobs - (at + 1)) l) (sym is)) in
      ap (λ l. written ++ l) one ∙ (sym (append_assoc written (said (at + 1) (own (left (at + 1)))) tail) ∙ ap (λ l. l ++ tail) (sym more))

pub left_end : (jobs job : ℕ) (left : Left) → left_by_firsts job (jobs - jobs) left ≡ left
left_end jobs job left = ap (λ n. left_by_firsts job n left) (let e : jobs - jobs ≡ 0 = omega arith in e)

pub firsts_end : (jobs job : ℕ) (left : Left) (written : History) → written ++ firsts job (jobs - jobs) left ≡ written
firsts_end jobs job left written = ap (λ n. written ++ firsts job n left) (let e : jobs - jobs ≡ 0 = omega arith in e) ∙ append-nil written
