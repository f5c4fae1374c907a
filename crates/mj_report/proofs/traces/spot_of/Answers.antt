use Rattle.std.specs.Prelude.{IfOk}
use Rattle.std.specs.List.{slice_index_or}
use Rattle.std.proofs.Common.{◌≡◌, ◌∙◌, ℕ, suc, List, Option, Some, None, refl, sym, ap, subst, arith}
use Rattle.mj_semantics.specs.State.{Place}
use Rattle.mj_core.proofs.Views.{found_at}
use Rattle.mj_replica.specs.Placed.{spot_for}
use Rattle.mj_report.proofs.Lent.{of_job}
use Rattle.mj_report.proofs.traces.spot_of.Goals as goal

pub returns-in-Some-Some : goal.returns-in-Some-Some
returns-in-Some-Some c =
    let list = c.args.places.now in
    let at = c.in-Some.at in
    let lookup = c.in-Some-Some.ensures.lookup in
    let job : c.args.job ≡ suc at = (let e = c.in-Some.ensures in omega (arith, e)) in
    let here = found_at list list at c.in-Some-Some.field-0.now refl lookup.0 lookup.1 ∙ ap Some c.in-Some-Some.field-0-is in
    let places = of_job list c.args.job at (Some c.in-Some-Some.own) job here in
    let P : Option Place → Type 0 = λ p. IfOk c.spot_for.result (λ spot. spot ≡ spot_for p) in
    subst P (c.place.ensures ∙ sym (ap (λ (l : List (Option Place)). slice_index_or l c.args.before None) places)) c.spot_for.ensures

pub returns-in-Some-None : goal.returns-in-Some-None
returns-in-Some-None c =
    let list = c.args.places.now in
    let at = c.in-Some.at in
    let lookup = c.in-Some-None.ensures.lookup in
    let job : c.args.job ≡ suc at = (let e = c.in-Some.ensures in omega (arith, e)) in
    let here = found_at list list at c.in-Some-None.field-0.now refl lookup.0 lookup.1 ∙ ap Some c.in-Some-None.field-0-is in
    let places = of_job list c.args.job at None job here in
    ap (λ (l : List (Option Place)). spot_for (slice_index_or l c.args.before None)) (sym places)
