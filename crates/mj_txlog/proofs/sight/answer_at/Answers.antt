use Rattle.std.proofs.Common.{◌≡◌, ◌∙◌, sym, ap}
use Rattle.std.proofs.lemmas.Result.{IfOk-weaker}
use Rattle.mj_store.specs.Runs.{answer_of}
use Rattle.mj_txlog.specs.Sight.{reach_of}
use Rattle.mj_txlog.specs.Laid.{went}
use Rattle.mj_txlog.proofs.Looks.{answer_below}
use Rattle.mj_txlog.proofs.Laid.{went_alike, clear_alike}
use Rattle.mj_txlog.proofs.sight.answer_at.Goals as goal

pub returns-then-branch-clause-answer : goal.returns-then-branch-clause-answer
returns-then-branch-clause-answer c = IfOk-weaker c.look.result _ _
    (λ out h es laid. answer_below c.args.read.now c.args.reach.now c.args.own.now.over c.args.globals.now es out c.requires.read c.over.ensures.rises c.rises.ensures c.requires.reach
    (went_alike c.args.own.now es c.args.reach.now laid c.args.globals.now (sym c.in_ok-went.ensures ∙ c.if-branch.true))
    (h ∙ ap (answer_of c.args.read.now) c.over.ensures.which))
    c.look.ensures

pub returns-then-is_clear-clause-answer : goal.returns-then-is_clear-clause-answer
returns-then-is_clear-clause-answer c = IfOk-weaker c.look-then-is_clear.result _ _
    (λ out h es laid. answer_below c.args.read.now c.args.reach.now c.args.globals.now c.args.globals.now es out c.requires.read c.rises.ensures c.rises.ensures c.requires.reach
    (clear_alike c.args.own.now es c.args.reach.now laid c.args.globals.now (sym c.in_ok-went.ensures ∙ c.if-branch.false) (sym c.if-is_clear.ensures))
    h)
    c.look-then-is_clear.ensures

pub data_seen-requires-clause-stays : goal.data_seen-requires-clause-stays
data_seen-requires-clause-stays c =
    let same : c.args.reach.now ≡ c.in-Data.shared = c.requires.reach ∙ ap reach_of c.in-Data.is in
    ap (went c.args.own.now.gone) (c.get-name.ensures ∙ sym same) ∙ sym c.in_ok-went.ensures ∙ c.if-branch.false
