use Rattle.std.proofs.Common.{◌∙◌, ℕ, take, ap}
use Rattle.std.proofs.lemmas.Result.{IfOk-weaker}
use Rattle.mj_store.specs.Questions.{Content}
use Rattle.mj_sys.specs.Shared.{open_of}
use Rattle.mj_sys.specs.History.{state_of}
use Rattle.mj_core.specs.Shown.{Shown}
use Rattle.mj_debug.specs.Walks.{front}
use Rattle.mj_inspect.specs.Own.{seen_in}
use Rattle.mj_inspect.proofs.own.own_globals.Goals as goal

pub returns : goal.returns
returns g c =
    let job = c.args.job in
    let opening = g.O.Opening.opening in
    let committed = (state_of opening (front c.args.debugger.now)).globals in
    IfOk-weaker c.own_at.result _ _
    (λ own is.
    is
    ∙ ap (λ (content : Content). seen_in content (open_of (state_of opening (take c.place.result c.core.result.now.history)) job)) c.globals.ensures
    ∙ ap (λ (core : Shown). seen_in committed (open_of (state_of opening (take c.place.result core.history)) job)) c.core.ensures
    ∙ ap (λ (place : ℕ). seen_in committed (open_of (state_of opening (take place c.args.debugger.now.core.history)) job)) c.place.ensures.value)
    c.own_at.ensures
