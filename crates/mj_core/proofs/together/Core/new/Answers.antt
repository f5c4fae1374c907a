use Rattle.std.proofs.Common.{[], ◌≤◌, None, length, sym, ap, subst, arith}
use Rattle.mj_sys.specs.System.{Recorded, history_limit}
use Rattle.mj_core.specs.Kept.{AreKept}
use Rattle.mj_core.proofs.Keeping.{keeps_new}
use Rattle.mj_core.proofs.Answering.{shown_first}
use Rattle.mj_core.proofs.together.Core.new.Goals as goal

pub invariant_of-result : goal.invariant_of-result
invariant_of-result g c =
    let image = c.args.image in
    let opening = g.O.Opening.opening in
    let system = c.in_ok-system.system in
    let value = c.most_events.ensures.value in
    let few = c.most_events.ensures.within in
    let most : image.bounds.events ≤ history_limit = omega (arith, value, few) in (
      subst (λ (s : Recorded). AreKept g.A.Answerer.answering image opening s c.new-2.result.items None c.new-3.result.items) (sym c.in_ok-system.ensures.ok)
          (subst (λ l. AreKept g.A.Answerer.answering image opening (record { history = []; claimed = 0 }) l None c.new-3.result.items) (sym c.new-2.ensures.items)
          (subst (λ l. AreKept g.A.Answerer.answering image opening (record { history = []; claimed = 0 }) [] None l) (sym c.new-3.ensures.items)
          (keeps_new g.A.Answerer.answering image opening c.requires.long most))),
      ap (λ l. length l) c.in-Ok.ensures,
    )

pub returns-clause-ok : goal.returns-clause-ok
returns-clause-ok g c =
    shown_first c.args.image c.new-2.result.items c.new-3.result.items _ c.new-2.ensures.items c.new-3.ensures.items c.in-Ok.ensures
