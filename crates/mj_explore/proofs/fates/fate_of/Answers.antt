use Rattle.std.proofs.Common.{◌∙◌, Bool, sym, ap}
use Rattle.mj_core.specs.Shown.{Shown}
use Rattle.mj_judge.specs.Marks.{is_over}
use Rattle.mj_explore.proofs.fates.fate_of.Goals as goal

pub returns-then-all : goal.returns-then-all
returns-then-all g c =
    let over : Shown → Bool = λ (s : Shown). is_over g.O.Opening.opening s.history in
    (sym (ap over c.jobs.view_is) ∙ sym c.is_over.ensures ∙ c.if-is_over.false, c.in_ok-all.ensures c.if-all.true)
