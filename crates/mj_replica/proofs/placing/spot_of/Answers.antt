use Rattle.std.proofs.Common.{◌≡◌, Some, sym, ap, ◌∙◌}
use Rattle.std.specs.Prelude.{slice_get}
use Rattle.std.proofs.lemmas.Result.{IfOk-weaker}
use Rattle.std.proofs.lemmas.Option.{same_Some, slice_get-get_or}
use Rattle.mj_semantics.specs.State.{place_of}
use Rattle.mj_replica.specs.Playing.{Playing}
use Rattle.mj_replica.specs.Placed.{spot_for}
use Rattle.mj_replica.proofs.Spotting.{place_got}
use Rattle.mj_replica.proofs.placing.spot_of.Goals as goal

pub returns-in-Some-get : goal.returns-in-Some-get
returns-in-Some-get c =
    let jobs = c.args.jobs.now in
    let at = c.in-Some.at in
    let got = c.in-Some-get.ensures.lookup in
    let played : Playing = record { claim = c.played.inside.claim; job = c.played.inside.job; heeds = c.played.inside.heeds } in
    let here : slice_get jobs at ≡ Some played =
    slice_get-get_or jobs at c.in-Some-get.played.now got.3.0 ∙ ap Some (sym got.1) ∙ ap Some (sym c.played.view_is) in
    let stands = place_got jobs c.args.job at played c.in-Some.ensures.0 c.in-Some.ensures.1 here in
    IfOk-weaker c.spot_for.result _ _
    (λ spot is place there. is ∙ ap spot_for (c.place.ensures ∙ same_Some (place_of played.job.run.at.state) place (sym stands ∙ there))) c.spot_for.ensures
