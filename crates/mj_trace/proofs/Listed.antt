-- Lists that are read, one thing after the other.
use Rattle.std.proofs.Common.{◌≡◌, ◌∙◌, ℕ, suc, Bool, true, false, cond, List, Option, Some, None, sym, ap}
use Rattle.mj_trace.specs.Reading.{all_more, continued, begins_with, skipped}

module _ {A : Type 0} (one : A → List ℕ → Option (A × List ℕ)) (total : Option (A × List ℕ)) (k : ℕ) (xs : A) (bs : List ℕ) (inv : total ≡ all_more one k xs bs) where
  pub none_left : k ≡ 0 → total ≡ None
  unfolding all_more
  none_left e = inv ∙ ap (λ n. all_more one n xs bs) e

  module _ (j : ℕ) (e : k ≡ suc j) where
    stepped : total ≡ continued (all_more one j) (one xs bs)
    unfolding all_more
    stepped = inv ∙ ap (λ n. all_more one n xs bs) e

    pub no_more : None ≡ one xs bs → total ≡ None
    no_more h = stepped ∙ ap (continued (all_more one j)) (sym h)

    module _ (ys : A) (r : List ℕ) (h : Some (ys, r) ≡ one xs bs) where
      by : (b : Bool) → begins_with 44 r ≡ b → total ≡ cond b (all_more one j ys (skipped r)) (Some (ys, r))
      by b c = stepped ∙ ap (continued (all_more one j)) (sym h) ∙ ap (λ x. cond x (all_more one j ys (skipped r)) (Some (ys, r))) c

      pub last_one : begins_with 44 r ≡ false → total ≡ Some (ys, r)
      last_one c = by false c

      pub next_one : begins_with 44 r ≡ true → (rest : List ℕ) → rest ≡ skipped r → total ≡ all_more one j ys rest
      next_one c rest s = by true c ∙ ap (all_more one j ys) (sym s)
