use Rattle.std.proofs.Common.{◌+◌, cond, sym, ap, ◌∙◌}
use Rattle.std.specs.Option.{is_some}
use Rattle.mj_store.specs.declared.store.Direction.TheVariants as way
use Rattle.mj_txlog.specs.Accesses.{seen}
use Rattle.mj_txlog.proofs.Stands.{data_split}
use Rattle.mj_txlog.proofs.sight.data.Goals as goal

pub returns-clause-data : goal.returns-clause-data
returns-clause-data c es laid =
    let here = c.in_ok-here.ensures ∙ sym (ap is_some (laid c.args.name.now c.args.globals.now)) in
    let below = c.is_some.ensures ∙ ap is_some (c.in_ok-below.ensures.next es laid) in
    c.digits_of-digits.ensures ∙ (λ i. cond (here i) 1 0 + cond (below i) 10 0) ∙ sym (data_split (seen c.args.globals.now es) c.args.name.now way.Forward)
