use Rattle.std.proofs.Common.{◌≡◌, suc, ◌-◌, Some, refl, sym, ap, ◌∙◌, subst, arith}
use Rattle.std.specs.Prelude.{slice_get}
use Rattle.std.proofs.lemmas.Option.{slice_get-get_or}
use Rattle.mj_jobs.specs.Rows.{IsLive}
use Rattle.mj_sys.specs.History.{state_of}
use Rattle.mj_replica.specs.Playing.{Playing}
use Rattle.mj_replica.proofs.Rounds.{made_ok}
use Rattle.mj_replica.proofs.replaying.make_of.Goals as goal

pub play-requires-clause-tied : goal.play-requires-clause-tied
play-requires-clause-tied g c =
    let played : Playing = record { claim = c.played.inside.claim; job = c.played.inside.job; heeds = c.played.inside.heeds } in
    let here : slice_get c.args.jobs.now (c.args.job - 1) ≡ Some played =
    slice_get-get_or c.args.jobs.now (c.args.job - 1) c.index-jobs-at.result (let n = c.requires.numbered in let t = c.requires.there in omega (arith, n, t)) ∙ ap Some (sym c.played.view_is) in
    (c.requires.staged.1.tied (c.args.job - 1) played here).placed

pub play-requires-clause-live : goal.play-requires-clause-live
play-requires-clause-live g c =
    let played : Playing = record { claim = c.played.inside.claim; job = c.played.inside.job; heeds = c.played.inside.heeds } in
    let here : slice_get c.args.jobs.now (c.args.job - 1) ≡ Some played =
    slice_get-get_or c.args.jobs.now (c.args.job - 1) c.index-jobs-at.result (let n = c.requires.numbered in let t = c.requires.there in omega (arith, n, t)) ∙ ap Some (sym c.played.view_is) in
    let numbered = (c.requires.staged.1.tied (c.args.job - 1) played here).numbered in
    let is : c.args.job ≡ suc (c.args.job - 1) = (let n = c.requires.numbered in omega (arith, n)) in
    subst (λ j. IsLive (state_of g.O.Opening.opening c.args.system.now.history).rows j) (is ∙ sym numbered) c.requires.live

pub returns : goal.returns
returns g c = λ history staged.
    let played : Playing = record { claim = c.played.inside.claim; job = c.played.inside.job; heeds = c.played.inside.heeds } in
    let played' : Playing = record { claim = c.play.new.claim; job = c.play.new.job; heeds = c.play.new.heeds } in
    let here : slice_get c.args.jobs.now (c.args.job - 1) ≡ Some played =
    slice_get-get_or c.args.jobs.now (c.args.job - 1) c.index-jobs-at.result (let n = c.requires.numbered in let t = c.requires.there in omega (arith, n, t)) ∙ ap Some (sym c.played.view_is) in
    let is : c.args.job ≡ suc (c.args.job - 1) = (let n = c.requires.numbered in omega (arith, n)) in
    made_ok c.args.image.now g.O.Opening.opening history c.args.system.now c.play.new.system c.args.jobs.now _ staged (c.args.job - 1) c.args.job is played played' here
    c.args.ask.now c.args.reply.now refl c.play.result c.play.ensures
