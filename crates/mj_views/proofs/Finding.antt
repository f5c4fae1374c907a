-- The job of a number, at its place in the list.
use Rattle.std.specs.Prelude.{slice_get, option_map}
use Rattle.std.proofs.Common.{◌≡◌, ℕ, zero, suc, ◌-◌, ◌<◌, ◌≤◌, List, length, get_or, Some, refl, sym, ap, ◌∙◌, arith}
use Rattle.std.proofs.lemmas.Option.{slice_get-map, slice_get_read}
use Rattle.mj_views.specs.declared.view.Standing.{Standing}
use Rattle.mj_views.specs.declared.view.View.TheInside.{Inside}
use Rattle.mj_views.specs.Views.{Viewed, job_in}
use Rattle.mj_views.specs.Parts.{stand_of, viewed}

pub found : (inside : Inside) (now : Viewed) → viewed inside ≡ now → (list : List Standing) → list ≡ inside.jobs.items → (job at : ℕ) → 1 ≤ job → at ≡ job - 1
    → (s : Standing) → at < length list → s ≡ get_or list at s → job_in now job ≡ Some (stand_of s)
found inside now view list same zero at one is s within here = absurd (omega (arith, one))
found inside now view list same (suc k) at one is s within here =
    let place : at ≡ k = omega (arith, is) in
    let there : slice_get list at ≡ Some s = slice_get_read list (length list) at s refl within here in
    ap (λ (v : Viewed). job_in v (suc k)) (sym view) ∙ slice_get-map stand_of inside.jobs.items k
    ∙ ap (option_map stand_of) (ap (λ (l : List Standing). slice_get l k) (sym same) ∙ ap (slice_get list) (sym place) ∙ there)
