-- A pool gets its devices one by one.
use Rattle.std.proofs.Common.{◌≡◌, ℕ, suc, ◌+◌, List, ap, ◌∙◌, subst, arith}
use Rattle.mj_dev.specs.Shelves.{Shelf, principal, added}
use Rattle.mj_files.specs.Named.{with_principals}

-- a principal one more
pub principals_on : (n : ℕ) (name : List ℕ) (old new : List Shelf) → name ≡ principal → old ≡ with_principals n → new ≡ added name old → new ≡ with_principals (n + 1)
principals_on n name old new is was grows =
    let next : suc n ≡ n + 1 = omega arith in
    let P : ℕ → Type 0 = λ m. new ≡ with_principals m in
    subst P next (grows ∙ ap (λ shelves. added name shelves) was ∙ ap (λ bytes. added bytes (with_principals n)) is)
