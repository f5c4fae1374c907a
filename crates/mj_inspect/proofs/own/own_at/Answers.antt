use Rattle.std.proofs.Common.{Option}
use Rattle.std.specs.Prelude.{option_map}
use Rattle.std.proofs.lemmas.Result.{IfOk-weaker}
use Rattle.mj_load.specs.Image.{program_of}
use Rattle.mj_inspect.proofs.Tied.{seen_here}
use Rattle.mj_inspect.proofs.own.own_at.Goals as goal

pub returns : goal.returns
returns g c =
    let core = c.args.core.now in
    IfOk-weaker c.seen_from.result _ _
    (λ own is.
    seen_here (program_of core.image) g.O.Opening.opening c.args.globals.now.content c.args.job core.history c.args.place c.last_end-from.result
    (option_map (λ globals. globals.content) own) c.len.ensures.run c.len.ensures.none_open c.last_end-from.ensures is) c.seen_from.ensures
