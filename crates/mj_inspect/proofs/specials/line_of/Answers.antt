use Rattle.std.proofs.Common.{None, Some}
use Rattle.std.proofs.lemmas.Result.{IfOk-weaker}
use Rattle.mj_core.specs.Runs.{start_in}
use Rattle.mj_inspect.proofs.Started.{shown_at}
use Rattle.mj_inspect.proofs.specials.line_of.Goals as goal

pub returns-in-None : goal.returns-in-None
returns-in-None g c =
    let core = c.args.core.now in
    let start = start_in c.args.number c.args.start.now in
    IfOk-weaker c.number_line.result _ _
    (λ bytes is. shown_at core.image core.history start c.args.special c.args.last None bytes.items c.in-None.is is) c.number_line.ensures

pub returns-in-Some : goal.returns-in-Some
returns-in-Some g c =
    let core = c.args.core.now in
    let start = start_in c.args.number c.args.start.now in
    IfOk-weaker c.value_line.result _ _
    (λ bytes is. shown_at core.image core.history start c.args.special c.args.last (Some c.in-Some.last) bytes.items c.in-Some.is is) c.value_line.ensures
