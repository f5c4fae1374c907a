use Rattle.std.specs.Prelude.{slice_get}
use Rattle.std.proofs.Common.{◌≡◌, ◌<◌, ◌≤◌, suc, length, None, Some, refl, sym, ap, ◌∙◌, arith}
use Rattle.std.proofs.lemmas.Option.{slice_get_read, slice_get_past}
use Rattle.mj_jobs.specs.Rows.{rows_limit}
use Rattle.mj_sys.specs.History.{state_of, log_of}
use Rattle.mj_core.specs.Woven.{woven}
use Rattle.mj_core.proofs.Logs.{silent_zero}
use Rattle.mj_core.specs.Shown.{Shown}
use Rattle.mj_core.specs.Shown as all
use Rattle.mj_core.specs.Kept.{logs_of, claim_of}
use Rattle.mj_core.proofs.Showing.{seen_slot, unseen}
use Rattle.mj_core.proofs.together.Core.slot_of.Goals as goal

pub returns-in-None-clause-none : goal.returns-in-None-clause-none
returns-in-None-clause-none g c =
    let i = c.self.inside in
    let job = c.args.job in
    let below = c.in-None.ensures in
    let is : job ≡ 0 = omega (arith, below) in (
      ap (λ (s : Shown). log_of job s.history) (sym c.self.view_is)
          ∙ ap (λ j. log_of j (woven (logs_of i.slots.items) i.order.items)) is
          ∙ silent_zero (logs_of i.slots.items) i.order.items,
      ap (λ j. all.stand_at c.args.self.now.stands j) is,
    )

pub returns-in-None-get-clause-none : goal.returns-in-None-get-clause-none
returns-in-None-get-clause-none g c =
    let i = c.self.inside in
    let job = c.args.job in
    let at = c.in-Some.at in
    let above = c.in-Some.ensures.0 in
    let less = c.in-Some.ensures.1 in
    let is : job ≡ suc at = omega (arith, above, less) in
    let missed = c.in-None-get.ensures.lookup.0 in
    let past : length c.deref.result.now ≤ at = grind (arith, missed) in
    let none : slice_get i.slots.items at ≡ None = ap (λ l. slice_get l at) (sym c.deref.ensures.value) ∙ slice_get_past c.deref.result.now at past in
    unseen g.A.Answerer.answering i.image g.O.Opening.opening i.system i.slots.items (claim_of i.waiting) i.order.items c.self.invariant.0 i.over.items c.args.self.now c.self.view_is
    job at is none

pub returns-in-Some-get-clause-some : goal.returns-in-Some-get-clause-some
returns-in-Some-get-clause-some g c =
    let i = c.self.inside in
    let job = c.args.job in
    let at = c.in-Some.at in
    let above = c.in-Some.ensures.0 in
    let less = c.in-Some.ensures.1 in
    let is : job ≡ suc at = omega (arith, above, less) in
    let lookup = c.in-Some-get.ensures.lookup in
    let found = lookup.0 in
    let within : at < length c.deref.result.now = grind (arith, found) in
    let here : slice_get i.slots.items at ≡ Some c.in-Some-get.slot.now =
    ap (λ l. slice_get l at) (sym c.deref.ensures.value)
    ∙ slice_get_read c.deref.result.now (length c.deref.result.now) at c.in-Some-get.slot.now refl within lookup.1 in
    let bound = c.rows-rows.ensures.bound in
    let value = c.rows-rows.ensures.value in
    let few : length (state_of g.O.Opening.opening i.system.history).rows ≤ rows_limit = omega (arith, bound, value) in
    seen_slot g.A.Answerer.answering i.image g.O.Opening.opening i.system i.slots.items (claim_of i.waiting) i.order.items c.self.invariant.0 i.over.items c.args.self.now c.self.view_is
    job at is few c.in-Some-get.slot.now here
