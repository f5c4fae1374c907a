-- The row of a job, found by its place.
use Rattle.std.proofs.Common.{◌≡◌, ℕ, zero, suc, ◌-◌, ◌<◌, ◌≤◌, ◌↔◌, nat_lt, length, List, Bool, true, false, not, Option, Some, None, IsTrue, refl, sym, ap, ◌∙◌, arith}
use Rattle.std.specs.Prelude.{slice_get, slice_set}
use Rattle.std.specs.Option.{option_map}
use Rattle.std.proofs.lemmas.List.{map-set}
use Rattle.std.proofs.lemmas.Option.{slice_get-map, slice_get_past}
use Rattle.mj_jobs.specs.declared.jobs.Kept as kept
use Rattle.mj_jobs.specs.Rows.{Row, row_at, with_ended, IsLive}
use Rattle.mj_jobs.specs.Kept.{row_of, rows_of}

-- the row of a job is that at the place before its number
pub row_found : (list : List kept.Kept) (job at : ℕ) (x : kept.Kept) → 1 ≤ job → at ≡ job - 1 → slice_get list at ≡ Some x → row_at (rows_of list) job ≡ Some (row_of x)
row_found list zero at x some e found = absurd (let no : ⊥ = omega (arith, some) in no)
row_found list (suc k) at x some e found =
    let here : at ≡ k = omega (arith, e) in
    slice_get-map row_of list k ∙ ap (λ i. option_map row_of (slice_get list i)) (sym here) ∙ ap (λ o. option_map row_of o) found

-- past the last row there is none
pub row_missed : (list : List kept.Kept) (job at : ℕ) → 1 ≤ job → at ≡ job - 1 → length list ≤ at → row_at (rows_of list) job ≡ None
row_missed list zero at some e past = refl
row_missed list (suc k) at some e past =
    let here : at ≡ k = omega (arith, e) in
    slice_get-map row_of list k ∙ ap (λ i. option_map row_of (slice_get list i)) (sym here) ∙ ap (λ o. option_map row_of o) (slice_get_past list at past)

-- a job whose row is this one is live where the row hasn't ended
pub live_if : (rows : List Row) (job : ℕ) (row : Row) (ended : Bool) → row.ended ≡ ended → row_at rows job ≡ Some row → IsTrue (not ended) ↔ IsLive rows job
live_if rows job row true is found = (λ t. absurd (let no : ⊥ = cc in no), λ l. absurd (let no : ⊥ = over l.0 l.1 l.2 in no)) where
  over : (r : Row) → row_at rows job ≡ Some r → r.ended ≡ false → ⊥
  over r e running = cc
live_if rows job row false is found = (λ t. (row, found, is), λ l. refl)

-- the change of the row at a place, if there is one
abbrev change : List Row → ℕ → Option Row → List Row
change rows k o = elim o [ None ↦ rows | Some row ↦ slice_set rows k (record row { ended = true }) ]

-- the row at the place before a job's number has ended
pub ended_at : (list : List kept.Kept) (job at : ℕ) (x : kept.Kept) → 1 ≤ job → at ≡ job - 1 → slice_get list at ≡ Some x
    → rows_of (slice_set list at (record { start = x.start; ended = true })) ≡ with_ended (rows_of list) job
ended_at list zero at x some e found = absurd (let no : ⊥ = omega (arith, some) in no)
ended_at list (suc k) at x some e found =
    let here : at ≡ k = omega (arith, e) in
    let there : slice_get (rows_of list) k ≡ Some (row_of x) = row_found list (suc k) at x some e found in
    map-set row_of list at (record { start = x.start; ended = true })
    ∙ ap (λ i. slice_set (rows_of list) i (record { start = x.start; ended = true })) here
    ∙ sym (ap (change (rows_of list) k) there)

-- past the last row nothing changes
pub none_ended : (list : List kept.Kept) (job at n : ℕ) → 1 ≤ job → at ≡ job - 1 → n ≡ length list → (at < n → false ≡ true) → rows_of list ≡ with_ended (rows_of list) job
none_ended list zero at n some e counted past = absurd (let no : ⊥ = omega (arith, some) in no)
none_ended list (suc k) at n some e counted past =
    let beyond : length list ≤ at = over (nat_lt at n) refl in
    let none : row_at (rows_of list) (suc k) ≡ None = row_missed list (suc k) at some e beyond in
    sym (ap (change (rows_of list) k) none) where
      contra : false ≡ true → length list ≤ at
      contra q = absurd (let no : ⊥ = cc in no)

      over : (b : Bool) → nat_lt at n ≡ b → length list ≤ at
      over true is = contra (past (grind arith))
      over false is = grind arith

-- a comparison that comes out true
pub below_of : (a b : ℕ) → nat_lt a b ≡ true → a < b
below_of a b is = grind arith
