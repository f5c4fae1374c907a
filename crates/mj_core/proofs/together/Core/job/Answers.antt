use Rattle.std.proofs.Common.{◌≡◌, true, false, sym, ap, ◌∙◌, subst}
use Rattle.mj_jobvm.specs.Jobs.{IsRunOf}
use Rattle.mj_core.specs.Runs.{start_in}
use Rattle.mj_core.specs.Asking.{IsSeenAt}
use Rattle.mj_core.specs.Ties.{Placed}
use Rattle.mj_core.proofs.Showing.{if_none, not_some, stands_none, stands_some, stands_beside}
use Rattle.mj_core.proofs.together.Core.job.Goals as goal

pub returns-in_err-slot-clause-none : goal.returns-in_err-slot-clause-none
returns-in_err-slot-clause-none g c = if_none c.from_residual.result c.in_err-slot.ensures.none.1

pub returns-in_err-slot-clause-shown : goal.returns-in_err-slot-clause-shown
returns-in_err-slot-clause-shown g c = not_some c.from_residual.result _ c.from_residual.ensures

pub returns-in_err-slot-clause-beside : goal.returns-in_err-slot-clause-beside
returns-in_err-slot-clause-beside g c = not_some c.from_residual.result _ c.from_residual.ensures

pub returns-in_err-slot-clause-log : goal.returns-in_err-slot-clause-log
returns-in_err-slot-clause-log g c = not_some c.from_residual.result _ c.from_residual.ensures

pub returns-in_err-slot-clause-run : goal.returns-in_err-slot-clause-run
returns-in_err-slot-clause-run g c = not_some c.from_residual.result _ c.from_residual.ensures

pub returns-then-slot-clause-shown : goal.returns-then-slot-clause-shown
returns-then-slot-clause-shown g c =
    let slot = c.in_ok-slot.slot.now in
    let yes : slot.at_ask ≡ true = sym (ap (λ (s : Placed g.row.A.Denot). s.at_ask) c.slot.view_is) ∙ c.if-slot.true in
    let so = stands_some g.O.Opening.opening c.args.self.now c.args.job slot c.in_ok-slot.ensures.some yes in
    let P : Placed g.row.A.Denot → Type 0 = λ s. IsSeenAt s.job.run so.0 in
    (so.0, so.1, subst P (sym c.slot.view_is) so.2)

pub returns-then-slot-clause-beside : goal.returns-then-slot-clause-beside
returns-then-slot-clause-beside g c =
    let slot = c.in_ok-slot.slot.now in
    let yes : slot.at_ask ≡ true = sym (ap (λ (s : Placed g.row.A.Denot). s.at_ask) c.slot.view_is) ∙ c.if-slot.true in
    stands_beside g.O.Opening.opening c.args.self.now c.args.job slot c.in_ok-slot.ensures.some yes

pub returns-then-slot-clause-log : goal.returns-then-slot-clause-log
returns-then-slot-clause-log g c = ap (λ (s : Placed g.row.A.Denot). s.job.run.log) c.slot.view_is ∙ c.in_ok-slot.ensures.some.log

pub returns-then-slot-clause-run : goal.returns-then-slot-clause-run
returns-then-slot-clause-run g c =
    let seen = c.in_ok-slot.ensures.some in
    let R : Placed g.row.A.Denot → Type 0 = λ s. IsRunOf c.args.self.now.image (start_in c.args.job seen.row.start) s.job in
    (seen.row, seen.there, subst R (sym c.slot.view_is) seen.run)

pub returns-else-slot-clause-none : goal.returns-else-slot-clause-none
returns-else-slot-clause-none g c =
    let slot = c.in_ok-slot.slot.now in
    let no : slot.at_ask ≡ false = sym (ap (λ (s : Placed g.row.A.Denot). s.at_ask) c.slot.view_is) ∙ c.if-slot.false in
    stands_none g.O.Opening.opening c.args.self.now c.args.job slot c.in_ok-slot.ensures.some no
