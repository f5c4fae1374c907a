use Rattle.std.specs.Prelude.{slice_get}
use Rattle.std.proofs.Common.{◌≡◌, ◌-◌, Option, Some, sym, ap, ◌∙◌, arith}
use Rattle.std.proofs.lemmas.Option.{same_Some, none-some}
use Rattle.mj_ask.specs.declared.ask.Ask.{Ask}
use Rattle.mj_ask.specs.declared.ask.Reply.{Reply}
use Rattle.mj_sys.specs.declared.event.Event.{Event}
use Rattle.mj_core.specs.Shown.{Shown}
use Rattle.mj_core.specs.Ties.{Placed}
use Rattle.mj_core.specs.Kept.{logs_of, claim_of, shown_event}
use Rattle.mj_core.proofs.Views.{found_at, missed_at, there_at, no_event}
use Rattle.mj_core.proofs.together.Core.event.Goals as goal

pub returns-in_err-happened : goal.returns-in_err-happened
returns-in_err-happened g c =
    let i = c.self.inside in
    let none = missed_at c.deref.result.now i.order.items c.args.at c.deref.ensures.value c.in_err-happened.ensures.lookup.0 in
    ap shown_event c.from_residual.ensures
    ∙ sym (no_event (logs_of i.slots.items) i.order.items c.self.invariant.0.there c.args.at none)
    ∙ ap (λ (s : Shown). slice_get s.history c.args.at) c.self.view_is

pub overflow_sub-happened : goal.overflow_sub-happened
overflow_sub-happened g c =
    let i = c.self.inside in
    let lookup = c.in_ok-happened.ensures.lookup in
    let h = c.in_ok-happened.happened.now in
    let there = there_at g.A.Answerer.answering i.image g.O.Opening.opening i.system i.slots.items (claim_of i.waiting) i.order.items c.self.invariant.0 c.args.at h
    (found_at c.deref.result.now i.order.items c.args.at h c.deref.ensures.value lookup.0 lookup.1) in
    let job = there.2 in omega (arith, job)

pub returns-in_err-slot : goal.returns-in_err-slot
returns-in_err-slot g c =
    let i = c.self.inside in
    let lookup = c.in_ok-happened.ensures.lookup in
    let h = c.in_ok-happened.happened.now in
    let there = there_at g.A.Answerer.answering i.image g.O.Opening.opening i.system i.slots.items (claim_of i.waiting) i.order.items c.self.invariant.0 c.args.at h
    (found_at c.deref.result.now i.order.items c.args.at h c.deref.ensures.value lookup.0 lookup.1) in
    let job = there.2 in
    let is : h.job - 1 ≡ there.1 = omega (arith, job) in
    let none = missed_at c.deref-2.result.now i.slots.items (h.job - 1) c.deref-2.ensures.value c.in_err-slot.ensures.lookup.0 in
    absurd (none-some there.3 (sym none ∙ ap (λ k. slice_get i.slots.items k) is ∙ there.4))

pub returns-in_err-ask : goal.returns-in_err-ask
returns-in_err-ask g c =
    let i = c.self.inside in
    let lookup = c.in_ok-happened.ensures.lookup in
    let h = c.in_ok-happened.happened.now in
    let there = there_at g.A.Answerer.answering i.image g.O.Opening.opening i.system i.slots.items (claim_of i.waiting) i.order.items c.self.invariant.0 c.args.at h
    (found_at c.deref.result.now i.order.items c.args.at h c.deref.ensures.value lookup.0 lookup.1) in
    let job = there.2 in
    let is : h.job - 1 ≡ there.1 = omega (arith, job) in
    let slot = c.in_ok-slot.slot.now in
    let read = c.in_ok-slot.ensures.lookup in
    let here = found_at c.deref-2.result.now i.slots.items (h.job - 1) slot c.deref-2.ensures.value read.0 read.1 in
    let one : slot ≡ there.3 = same_Some slot there.3 (sym here ∙ ap (λ k. slice_get i.slots.items k) is ∙ there.4) in
    let log = c.log.ensures.which ∙ ap (λ (s : Placed g.row.A.Denot). s.job.run.log) (c.slot.view_is ∙ one) in
    let none = missed_at c.log.result.now there.3.job.run.log h.at log c.in_err-ask.ensures.lookup.0 in
    absurd (none-some there.0 (sym none ∙ there.5))

pub returns : goal.returns
returns g c =
    let i = c.self.inside in
    let lookup = c.in_ok-happened.ensures.lookup in
    let h = c.in_ok-happened.happened.now in
    let there = there_at g.A.Answerer.answering i.image g.O.Opening.opening i.system i.slots.items (claim_of i.waiting) i.order.items c.self.invariant.0 c.args.at h
    (found_at c.deref.result.now i.order.items c.args.at h c.deref.ensures.value lookup.0 lookup.1) in
    let job = there.2 in
    let is : h.job - 1 ≡ there.1 = omega (arith, job) in
    let slot = c.in_ok-slot.slot.now in
    let read = c.in_ok-slot.ensures.lookup in
    let here = found_at c.deref-2.result.now i.slots.items (h.job - 1) slot c.deref-2.ensures.value read.0 read.1 in
    let one : slot ≡ there.3 = same_Some slot there.3 (sym here ∙ ap (λ k. slice_get i.slots.items k) is ∙ there.4) in
    let log = c.log.ensures.which ∙ ap (λ (s : Placed g.row.A.Denot). s.job.run.log) (c.slot.view_is ∙ one) in
    let entry = c.in_ok-ask.field-0.now in
    let told = c.in_ok-ask.ensures.lookup in
    let stands = found_at c.log.result.now there.3.job.run.log h.at entry log told.0 told.1 in
    let same : entry ≡ there.0 = same_Some entry there.0 (sym stands ∙ there.5) in
    let event : Ask × Reply → Option Event = λ e. Some (record { job = h.job; ask = e.0; reply = e.1 }) in
    ap event same ∙ sym there.6 ∙ ap (λ (s : Shown). slice_get s.history c.args.at) c.self.view_is
