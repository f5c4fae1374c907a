use Rattle.std.proofs.Common.{◌≡◌, sym, ◌∙◌}
use Rattle.mj_store.specs.Questions.{data_at}
use Rattle.mj_txlog.proofs.Laid.{none_gone, data_laid}
use Rattle.mj_txlog.proofs.sight.data_seen.Goals as goal

pub returns-clause-data : goal.returns-clause-data
returns-clause-data c es laid =
    let name = c.args.name.now in
    let none : data_at c.args.own.now.gone name ≡ 0 = none_gone (data_at c.args.own.now.gone name) (sym c.if-is_any_gone.ensures) in
    c.data_of_both.ensures ∙ data_laid c.args.own.now es name laid c.args.globals.now c.requires.stays none
