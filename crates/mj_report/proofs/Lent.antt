-- Places that are lent, of one job.
use Rattle.std.specs.Prelude.{slice_get, option_map, unwrap_or}
use Rattle.std.specs.Borrow.{Bor}
use Rattle.std.specs.List.{slice_index_or}
use Rattle.std.proofs.Common.{◌≡◌, ◌∙◌, ℕ, zero, suc, List, [], ◌∷◌, Option, Some, None, ap}
use Rattle.mj_semantics.specs.State.{Place}
use Rattle.mj_jobvm.specs.Places.{Asked}
use Rattle.mj_core.specs.Runs.{places_lent, places_at}

-- those of an entry
abbrev places_of : Option (Bor Asked) → List (Option Place)
places_of lent = unwrap_or (option_map (λ (b : Bor Asked). b.now.places) lent) []

there : (list : List (Option (Bor Asked))) (k : ℕ) (lent : Option (Bor Asked)) → slice_get list k ≡ Some lent → slice_index_or (places_lent list) k [] ≡ places_of lent
there [] k lent is = absurd (let no : None ≡ Some lent = is in cc)
there (x ∷ list) zero lent is = let same : x ≡ lent = (let s : Some x ≡ Some lent = is in cc) in ap places_of same
there (x ∷ list) (suc k) lent is = there list k lent is

-- those of a job are those of its entry
pub of_job : (list : List (Option (Bor Asked))) (job k : ℕ) (lent : Option (Bor Asked)) → job ≡ suc k → slice_get list k ≡ Some lent → places_at (places_lent list) job ≡ places_of lent
of_job list job k lent same is = ap (places_at (places_lent list)) same ∙ there list k lent is
