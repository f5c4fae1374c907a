use Rattle.std.proofs.Common.{List, subst}
use Rattle.mj_ask.specs.declared.noted.Noted.{Noted}
use Rattle.mj_load.specs.Image.{program_of}
use Rattle.mj_core.specs.Shown.{Shown}
use Rattle.mj_trace.specs.declared.form.Form.{Form}
use Rattle.mj_remade.specs.Records.{Compares}
use Rattle.mj_remade.proofs.traces.follow.Goals as goal

pub returns : goal.returns
returns g c =
    let apart = c.first_apart-apart.result in
    let trace = c.args.trace.now in
    let opening = g.O.Opening.opening in
    let core = c.core-core.result.now in
    let events = c.events-events.result.now in
    let P : Form → Type 0 = λ form. Compares form (program_of core.image) opening events core.history apart in
    let Q : List Noted → Type 0 = λ events. Compares trace.form (program_of core.image) opening events core.history apart in
    let R : Shown → Type 0 = λ core. Compares trace.form (program_of core.image) opening trace.events core.history apart in
    subst R c.core-core.ensures (subst Q c.events-events.ensures (subst P c.form-form.ensures c.first_apart-apart.ensures))
