use Rattle.std.specs.Prelude.{slice_get}
use Rattle.std.specs.List.{slice_index_or}
use Rattle.std.proofs.Common.{◌≡◌, ◌-◌, ℕ, List, Option, Some, None, sym, ap, ◌∙◌, subst, arith}
use Rattle.std.proofs.lemmas.Option.{same_Some, none-some}
use Rattle.mj_semantics.specs.State.{Place}
use Rattle.mj_frames.specs.Frames.{place_at}
use Rattle.mj_load.specs.Image.{program_of}
use Rattle.mj_core.specs.Shown.{Shown}
use Rattle.mj_core.specs.Runs.{IsAskedFrom}
use Rattle.mj_core.specs.Ties.{Placed}
use Rattle.mj_core.specs.Kept.{logs_of, claim_of}
use Rattle.mj_core.proofs.Views.{found_at, missed_at, there_at, no_event}
use Rattle.mj_core.proofs.Asked.{asked_here}
use Rattle.mj_core.proofs.together.Core.place_of.Goals as goal

pub returns-in_err-happened : goal.returns-in_err-happened
returns-in_err-happened g c =
    let i = c.self.inside in
    let none = missed_at c.deref.result.now i.order.items c.args.at c.deref.ensures.value c.in_err-happened.ensures.lookup.0 in
    λ e is row there.
    absurd (none-some e
    (sym (no_event (logs_of i.slots.items) i.order.items c.self.invariant.0.there c.args.at none)
    ∙ ap (λ (s : Shown). slice_get s.history c.args.at) c.self.view_is ∙ is))

pub overflow_sub-happened : goal.overflow_sub-happened
overflow_sub-happened g c =
    let i = c.self.inside in
    let lookup = c.in_ok-happened.ensures.lookup in
    let h = c.in_ok-happened.happened.now in
    let there = there_at g.A.Answerer.answering i.image g.O.Opening.opening i.system i.slots.items (claim_of i.waiting) i.order.items c.self.invariant.0 c.args.at h
    (found_at c.deref.result.now i.order.items c.args.at h c.deref.ensures.value lookup.0 lookup.1) in
    let job = there.2 in omega (arith, job)

pub returns-in_err-slot : goal.returns-in_err-slot
returns-in_err-slot g c =
    let i = c.self.inside in
    let lookup = c.in_ok-happened.ensures.lookup in
    let h = c.in_ok-happened.happened.now in
    let there = there_at g.A.Answerer.answering i.image g.O.Opening.opening i.system i.slots.items (claim_of i.waiting) i.order.items c.self.invariant.0 c.args.at h
    (found_at c.deref.result.now i.order.items c.args.at h c.deref.ensures.value lookup.0 lookup.1) in
    let job = there.2 in
    let is : h.job - 1 ≡ there.1 = omega (arith, job) in
    let none = missed_at c.deref-2.result.now i.slots.items (h.job - 1) c.deref-2.ensures.value c.in_err-slot.ensures.lookup.0 in
    absurd (none-some there.3 (sym none ∙ ap (λ k. slice_get i.slots.items k) is ∙ there.4))

pub returns : goal.returns
returns g c =
    let i = c.self.inside in
    let opening = g.O.Opening.opening in
    let lookup = c.in_ok-happened.ensures.lookup in
    let h = c.in_ok-happened.happened.now in
    let here_h = found_at c.deref.result.now i.order.items c.args.at h c.deref.ensures.value lookup.0 lookup.1 in
    let there = there_at g.A.Answerer.answering i.image opening i.system i.slots.items (claim_of i.waiting) i.order.items c.self.invariant.0 c.args.at h here_h in
    let job = there.2 in
    let is : h.job - 1 ≡ there.1 = omega (arith, job) in
    let slot = c.in_ok-slot.slot.now in
    let read = c.in_ok-slot.ensures.lookup in
    let here = found_at c.deref-2.result.now i.slots.items (h.job - 1) slot c.deref-2.ensures.value read.0 read.1 in
    let one : slot ≡ there.3 = same_Some slot there.3 (sym here ∙ ap (λ k. slice_get i.slots.items k) is ∙ there.4) in
    let kept : c.places.result.now.places ≡ there.3.job.run.places =
    c.places.ensures.which ∙ ap (λ (s : Placed g.row.A.Denot). s.job.run.places) (c.slot.view_is ∙ one) in
    let asked = asked_here g.A.Answerer.answering i.image opening i.system i.slots.items (claim_of i.waiting) i.order.items c.self.invariant.0 c.args.at h here_h there.1 there.2
    there.3 there.4 there.0 there.6 (place_at c.place.result) (c.place.ensures ∙ ap (λ (ps : List (Option Place)). slice_index_or ps h.at None) kept) in
    let P : Shown → Type 0 = λ s. IsAskedFrom (program_of s.image) opening s.history c.args.at (place_at c.place.result) in
    subst P c.self.view_is asked
