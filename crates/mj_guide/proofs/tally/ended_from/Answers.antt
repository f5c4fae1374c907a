use Rattle.std.proofs.Common.{◌≡◌, ◌∙◌, take, sym, ap, subst}
use Rattle.mj_core.specs.Shown.{Shown}
use Rattle.mj_guide.specs.Ends.{ended_in}
use Rattle.mj_guide.proofs.tally.ended_from.Goals as goal

pub count_ended-requires : goal.count_ended-requires
count_ended-requires g c =
    let P : Shown → Type 0 = λ core. c.args.before ≡ ended_in (take c.args.from core.history) in
    subst P (sym c.core.ensures) c.requires

pub returns : goal.returns
returns g c = c.count_ended.ensures ∙ ap (λ (core : Shown). ended_in core.history) c.core.ensures
