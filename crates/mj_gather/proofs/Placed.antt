-- Where the asks of jobs came from that were run.
use Rattle.std.specs.Prelude.{◌==◌, if◌then◌else◌}
use Rattle.std.specs.Borrow.{Bor}
use Rattle.std.specs.List.{All, slice_index_or}
use Rattle.std.specs.Option.{option_map, unwrap_or}
use Rattle.std.proofs.Common.{◌≡◌, ℕ, suc, zero, ◌<◌, ◌≤◌, ◌+◌, List, ◌∷◌, ◌++◌, [], Bool, true, false, Option, Some, None, length, refl, sym, ap, ◌∙◌, subst, arith}
use Rattle.std.proofs.lemmas.List.Elements.{All-head, All-tail}
use Rattle.std.proofs.lemmas.Option.{same_Some, none-some, slice_get_within}
use Rattle.mj_semantics.specs.Program.{Program}
use Rattle.mj_semantics.specs.State.{Place}
use Rattle.mj_semantics.specs.Job.{Start}
use Rattle.mj_load.specs.Image.{Loaded, program_of}
use Rattle.mj_jobs.specs.Rows.{Row, row_at}
use Rattle.mj_jobvm.specs.Run.{Log, replies_of}
use Rattle.mj_jobvm.specs.Places.{Asked, ArePlaces}
use Rattle.mj_sys.specs.Shared.{Shared}
use Rattle.mj_sys.specs.History.{History, state_of, log_of}
use Rattle.mj_core.specs.Runs.{ArePlacedIn, start_in, places_lent, places_at}
use Rattle.mj_gather.specs.Rans.{Kept, log_in, places_in}
use Rattle.mj_gather.specs.Lent.{places_from}
use Rattle.mj_gather.specs.Found.{IsSound}
use Rattle.mj_gather.proofs.Logs.{same_eq}

abbrev pub Lent : Type 0
Lent = List (Option (Bor Asked))

abbrev pub places_one : Option (Bor Asked) → List (Option Place)
places_one lent = unwrap_or (option_map (λ (b : Bor Asked). b.now.places) lent) []

-- ---- the places of each job

places_suc : (rans : List Kept) (k n : ℕ) → places_from rans k (suc n) ≡ places_from rans k n ++ places_in rans (k + n) ∷ []
places_suc rans k zero = ap (λ i. places_in rans i ∷ []) (let e : k ≡ k + 0 = omega arith in e)
places_suc rans k (suc n) =
    ap (λ l. places_in rans k ∷ l)
    (places_suc rans (suc k) n ∙ ap (λ i. places_from rans (suc k) n ++ places_in rans i ∷ []) (let e : suc k + n ≡ k + suc n = omega arith in e))

lent_more : (xs : Lent) (x : Option (Bor Asked)) → places_lent (xs ++ x ∷ []) ≡ places_lent xs ++ places_one x ∷ []
lent_more [] x = refl
lent_more (y ∷ xs) x = ap (λ l. places_one y ∷ l) (lent_more xs x)

pub places_more : (rans : List Kept) (n : ℕ) (xs : Lent) (x : Option (Bor Asked)) (ys : Lent) → ys ≡ xs ++ x ∷ [] → places_lent xs ≡ places_from rans 1 n
    → places_one x ≡ places_in rans (n + 1) → places_lent ys ≡ places_from rans 1 (n + 1)
places_more rans n xs x ys is had one =
    ap places_lent is ∙ (lent_more xs x ∙ (ap (λ l. l ++ places_one x ∷ []) had
    ∙ (ap (λ l. places_from rans 1 n ++ l ∷ []) (one ∙ ap (places_in rans) (let e : n + 1 ≡ 1 + n = omega arith in e))
    ∙ (sym (places_suc rans 1 n) ∙ ap (places_from rans 1) (let e : suc n ≡ n + 1 = omega arith in e)))))

-- those of each job, where so many jobs have some
from_at : (rans : List Kept) (n j k : ℕ) → k < n → places_at (places_from rans j n) (suc k) ≡ places_in rans (j + k)
from_at rans zero j k below = absurd (omega (arith, below))
from_at rans (suc n) j zero below = ap (places_in rans) (let e : j ≡ j + 0 = omega arith in e)
from_at rans (suc n) j (suc k) below = from_at rans n (suc j) k (omega (arith, below)) ∙ ap (places_in rans) (let e : suc j + k ≡ j + suc k = omega arith in e)

-- ---- they are those of the jobs' logs

abbrev AllSound : List Row → List Kept → Type 0
AllSound rows rans = All (λ r. IsSound rows r) rans

module _ (rows : List Row) (rans : List Kept) (sound : AllSound rows rans) (image : Loaded) (images : All (λ (r : Kept). r.image ≡ image) rans) where
  -- of a job that was run
  placed : (job : ℕ) (row : Row) → row_at rows job ≡ Some row → ArePlaces (program_of image) (start_in job row.start) (replies_of (log_in rans job)) (places_in rans job)
  placed job row there = from rans images sound where
    from : (xs : List Kept) → All (λ (r : Kept). r.image ≡ image) xs → AllSound rows xs
        → ArePlaces (program_of image) (start_in job row.start) (replies_of (log_in xs job)) (places_in xs job)
    from [] same all = tt
    from (r ∷ xs) same all =
        at (r.claim.job == job) refl (All-head (λ (r : Kept). r.image ≡ image) r xs same) (All-head (λ x. IsSound rows x) r xs all)
        (from xs (All-tail (λ (r : Kept). r.image ≡ image) r xs same) (All-tail (λ x. IsSound rows x) r xs all)) where
          at : (b : Bool) → (r.claim.job == job) ≡ b → r.image ≡ image → IsSound rows r
              → ArePlaces (program_of image) (start_in job row.start) (replies_of (log_in xs job)) (places_in xs job)
              → ArePlaces (program_of image) (start_in job row.start) (replies_of (if b then r.log else log_in xs job)) (if b then r.places else places_in xs job)
          at true q i its rest =
              let mine : r.claim.job ≡ job = same_eq r.claim.job job q in
              let one : its.starts.0 ≡ row = same_Some its.starts.0 row (sym its.starts.1 ∙ (ap (row_at rows) mine ∙ there)) in
              let start : r.claim.start ≡ row.start = sym its.starts.2 ∙ ap (λ (x : Row). x.start) one in
              let begins_so : start_in r.claim.job r.claim.start ≡ start_in job row.start = ap (λ j. start_in j r.claim.start) mine ∙ ap (λ s. start_in job s) start in
              subst (λ (s : Start). ArePlaces (program_of image) s (replies_of r.log) r.places) begins_so
              (subst (λ (l : Loaded). ArePlaces (program_of l) (start_in r.claim.job r.claim.start) (replies_of r.log) r.places) i its.placed)
          at false q i its rest = rest

pub run_placed : (opening : Shared) (history events : History) (rans : List Kept) (rows : ℕ) (list : Lent) (places : List (List (Option Place)))
    → rows ≡ length (state_of opening history).rows → places_lent list ≡ places_from rans 1 rows → places ≡ places_lent list
    → All (λ r. IsSound (state_of opening history).rows r) rans → state_of opening events ≡ state_of opening history
    → ((job : ℕ) → log_of job events ≡ log_in rans job)
    → (image : Loaded) → All (λ (r : Kept). r.image ≡ image) rans → ArePlacedIn (program_of image) opening events (places_at places)
run_placed opening history events rans rows list places rows_are lists is sound state logs image images zero row there = absurd (none-some row there)
run_placed opening history events rans rows list places rows_are lists is sound state logs image images (suc k) row there =
    let here : row_at (state_of opening history).rows (suc k) ≡ Some row = ap (λ (s : Shared). row_at s.rows (suc k)) (sym state) ∙ there in
    let below : k < rows = (let within : k < length (state_of opening history).rows = slice_get_within (state_of opening history).rows k row here in omega (arith, within, rows_are)) in
    let same : places_in rans (suc k) ≡ places_at places (suc k) =
    sym (ap (λ l. places_at l (suc k)) (is ∙ lists) ∙ from_at rans rows 1 k below ∙ ap (places_in rans) (let e : 1 + k ≡ suc k = omega arith in e)) in
    let L : Log → Type 0 = λ l. ArePlaces (program_of image) (start_in (suc k) row.start) (replies_of l) (places_in rans (suc k)) in
    let P : List (Option Place) → Type 0 = λ ps. ArePlaces (program_of image) (start_in (suc k) row.start) (replies_of (log_of (suc k) events)) ps in
    subst P same (subst L (sym (logs (suc k))) (placed (state_of opening history).rows rans sound image images (suc k) row here))
