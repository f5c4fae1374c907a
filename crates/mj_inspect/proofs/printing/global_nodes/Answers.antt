use Rattle.std.proofs.Common.{◌∙◌, ap}
use Rattle.std.specs.Prelude.{option_map}
use Rattle.std.proofs.lemmas.Result.{IfOk-weaker}
use Rattle.mj_store.specs.Questions.{Content}
use Rattle.mj_sys.specs.History.{state_of}
use Rattle.mj_debug.specs.Walks.{front}
use Rattle.mj_inspect.specs.Own.{seen_or}
use Rattle.mj_inspect.proofs.printing.global_nodes.Goals as goal

pub returns : goal.returns
returns g c =
    let committed = (state_of g.O.Opening.opening (front c.args.debugger.now)).globals in
    IfOk-weaker c.nodes_of.result _ _
    (λ nodes is.
    is
    ∙ ap (λ (content : Content). seen_or content (option_map (λ globals. globals.content) c.in_ok-own.own)) c.globals.ensures
    ∙ ap (seen_or committed) c.in_ok-own.ensures) c.nodes_of.ensures
