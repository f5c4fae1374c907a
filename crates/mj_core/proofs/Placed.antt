-- The places of all jobs, one after the other.
use Rattle.std.specs.Borrow.{Bor}
use Rattle.std.specs.List.{slice_index_or}
use Rattle.std.specs.Option.{option_map, unwrap_or}
use Rattle.std.specs.Prelude.{slice_get, IfSome, IfNone}
use Rattle.std.proofs.Common.{◌≡◌, ◌⊎◌, inl, inr, ℕ, zero, suc, ◌+◌, ◌<◌, ◌≤◌, List, [], ◌∷◌, ◌++◌, length, Option, Some, None, refl, sym, ap, ◌∙◌, subst, arith, length-append}
use Rattle.std.proofs.lemmas.Option.{slice_get_within, none-some, same_Some}
use Rattle.mj_semantics.specs.Program.{Program}
use Rattle.mj_semantics.specs.State.{Place}
use Rattle.mj_jobs.specs.Rows.{Row, row_at}
use Rattle.mj_jobvm.specs.Run.{Log, replies_of}
use Rattle.mj_jobvm.specs.Places.{Asked, ArePlaces}
use Rattle.mj_sys.specs.Shared.{Shared}
use Rattle.mj_sys.specs.History.{History, state_of, log_of}
use Rattle.mj_core.specs.Runs.{ArePlacedIn, start_in, places_lent, places_at}

abbrev pub Lent : Type 0
Lent = List (Option (Bor Asked))

-- those of so many jobs, the first job first
abbrev pub ArePlacedTo : Program → Shared → History → ℕ → Lent → Type 0
ArePlacedTo program opening history count list =
    (length list ≡ count)
    × ((k : ℕ) (row : Row) → k < count → row_at (state_of opening history).rows (suc k) ≡ Some row
    → ArePlaces program (start_in (suc k) row.start) (replies_of (log_of (suc k) history)) (places_at (places_lent list) (suc k)))

pub none_placed : (program : Program) (opening : Shared) (history : History) → ArePlacedTo program opening history 0 []
none_placed program opening history = (refl, λ k row below is. absurd (omega (arith, below)))

-- what is lent of one
abbrev places_in : Option (Bor Asked) → List (Option Place)
places_in lent = unwrap_or (option_map (λ (b : Bor Asked). b.now.places) lent) []

old_one : (list : Lent) (more : Option (Bor Asked)) (k : ℕ) → k < length list → places_at (places_lent (list ++ more ∷ [])) (suc k) ≡ places_at (places_lent list) (suc k)
old_one [] more k below = absurd (let no : k < 0 = below in omega (arith, no))
old_one (x ∷ list) more zero below = refl
old_one (x ∷ list) more (suc k) below = old_one list more k (let l : suc k < suc (length list) = below in omega (arith, l))

new_one : (list : Lent) (more : Option (Bor Asked)) → places_at (places_lent (list ++ more ∷ [])) (suc (length list)) ≡ places_in more
new_one [] more = refl
new_one (x ∷ list) more = new_one list more

below_or_last : (k n : ℕ) → k < n + 1 → (k < n) ⊎ (k ≡ n)
below_or_last zero zero le = inr refl
below_or_last zero (suc n) le = inl (omega arith)
below_or_last (suc k) zero le = absurd (omega (arith, le))
below_or_last (suc k) (suc n) le = by (below_or_last k n (omega (arith, le)))
  where
    by : (k < n) ⊎ (k ≡ n) → (suc k < suc n) ⊎ (suc k ≡ suc n)
    by (inl less) = inl (omega (arith, less))
    by (inr same) = inr (ap suc same)

module _ (program : Program) (opening : Shared) (history : History) where
  -- one job more
  pub one_more_placed : (count : ℕ) (list new : Lent) (more : Option (Bor Asked)) → new ≡ list ++ more ∷ [] → ArePlacedTo program opening history count list
      → ((row : Row) → row_at (state_of opening history).rows (suc count) ≡ Some row
      → ArePlaces program (start_in (suc count) row.start) (replies_of (log_of (suc count) history)) (places_in more))
      → ArePlacedTo program opening history (count + 1) new
  one_more_placed count list new more is had one =
      subst (λ (l : Lent). ArePlacedTo program opening history (count + 1) l) (sym is) (
        (let long = length-append list (more ∷ []) in let many = had.0 in omega (arith, long, many)),
        at,
      )
    where
      at : (k : ℕ) (row : Row) → k < count + 1 → row_at (state_of opening history).rows (suc k) ≡ Some row
          → ArePlaces program (start_in (suc k) row.start) (replies_of (log_of (suc k) history)) (places_at (places_lent (list ++ more ∷ [])) (suc k))
      at k row below there = by (below_or_last k count below)
        where
          P : List (Option Place) → Type 0
          P ps = ArePlaces program (start_in (suc k) row.start) (replies_of (log_of (suc k) history)) ps

          by : (k < count) ⊎ (k ≡ count) → P (places_at (places_lent (list ++ more ∷ [])) (suc k))
          by (inl less) = subst P (sym (old_one list more k (let many = had.0 in omega (arith, less, many)))) (had.1 k row less there)
          by (inr same) =
              let last : k ≡ length list = (let many = had.0 in omega (arith, same, many)) in
              let Q : ℕ → Type 0 = λ j. (row : Row) → row_at (state_of opening history).rows (suc j) ≡ Some row
              → ArePlaces program (start_in (suc j) row.start) (replies_of (log_of (suc j) history)) (places_in more) in
              subst P (sym (ap (λ j. places_at (places_lent (list ++ more ∷ [])) (suc j)) last ∙ new_one list more)) (subst Q (sym same) one row there)

  -- of all that have a row
  pub all_placed : (count : ℕ) (list : Lent) → length (state_of opening history).rows ≤ count → ArePlacedTo program opening history count list
      → ArePlacedIn program opening history (places_at (places_lent list))
  all_placed count list all had zero row there = absurd (none-some row there)
  all_placed count list all had (suc k) row there =
      had.1 k row (let within : k < length (state_of opening history).rows = slice_get_within (state_of opening history).rows k row there in omega (arith, within, all)) there

  -- what is lent of a job
  pub job_placed : (job number : ℕ) → job ≡ number → (lent : Option (Bor Asked)) → IfNone lent (log_of job history ≡ [])
      → IfSome lent (λ (b : Bor Asked). (row : Row) × (row_at (state_of opening history).rows job ≡ Some row)
      × ArePlaces program (start_in job row.start) (replies_of (log_of job history)) b.now.places)
      → (row : Row) → row_at (state_of opening history).rows number ≡ Some row
      → ArePlaces program (start_in number row.start) (replies_of (log_of number history)) (places_in lent)
  job_placed job number same None none some row there =
      let P : Log → Type 0 = λ l. ArePlaces program (start_in number row.start) (replies_of l) [] in
      subst P (sym (ap (λ j. log_of j history) (sym same) ∙ none)) tt
  job_placed job number same (Some b) none some row there =
      let mine : some.0 ≡ row = same_Some some.0 row (sym some.1 ∙ ap (λ j. row_at (state_of opening history).rows j) same ∙ there) in
      let R : Row → Type 0 = λ r. ArePlaces program (start_in job r.start) (replies_of (log_of job history)) b.now.places in
      let J : ℕ → Type 0 = λ j. ArePlaces program (start_in j row.start) (replies_of (log_of j history)) b.now.places in
      subst J same (subst R mine some.2)
