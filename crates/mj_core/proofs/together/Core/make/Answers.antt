use Rattle.std.proofs.Common.{◌≡◌, ◌<◌, ◌≤◌, List, length, Bool, false, true, sym, ap, ◌∙◌, subst, slice_set, arith}
use Rattle.std.proofs.lemmas.Bool.{false≢true}
use Rattle.std.proofs.lemmas.List.{with_items_is}
use Rattle.std.specs.Vec.{with_items}
use Rattle.std.specs.Prelude.{Ok, Err, option_copied}
use Rattle.std.specs.List.{slice_index_or}
use Rattle.mj_jobs.specs.Rows.{rows_limit}
use Rattle.mj_core.specs.Woven.{woven}
use Rattle.mj_core.specs.declared.happened.Happened.{Happened}
use Rattle.mj_core.specs.declared.seen.Seen.TheVariants as seen
use Rattle.mj_steps.specs.declared.step.Refusal.TheVariants as refusals
use Rattle.mj_core.specs.Shown.{Shown}
use Rattle.mj_core.specs.Gives.{is_late, StepGivesBy}
use Rattle.mj_core.specs.Ties.{Placed}
use Rattle.mj_core.specs.Kept.{logs_of, claim_of, shown}
use Rattle.mj_core.proofs.Answering.{is_full, is_made, is_done, is_short, shown_same, row_within, seen_as, room_as, full_as, done_as, made_of, late_is}
use Rattle.mj_core.proofs.together.Core.make.Goals as goal

pub returns-then-len-most : goal.returns-then-len-most
returns-then-len-most g c =
    let ans = g.A.Answerer.answering in
    let opening = g.O.Opening.opening in
    let i = c.self.inside in
    let means = ans.means in
    let given = option_copied c.args.given in
    let there = c.in-Some.ensures.some in
    let goes : slice_index_or i.over.items c.in-Some.at false ≡ false =
    ap (λ b. slice_index_or i.over.items c.in-Some.at b) (sym c.if-index.false) ∙ sym c.index.ensures ∙ c.if-index.false in
    let going = seen_as ans i.image opening i.system i.slots.items (claim_of i.waiting) i.order.items c.self.invariant.0 i.over.items rows_limit
    c.args.self.now c.self.view_is c.in-Some.at false goes in
    let full : i.image.bounds.events ≤ length i.order.items =
    (let f = c.if-len-most.true in let k = i.order.ok.0 in let long = c.len.ensures in let most = c.most_events-most.ensures.value in omega (arith, f, long, k, most)) in
    is_full means given opening c.args.self.now c.args.step c.in-Some.at there.0 there.2 going
    (full_as ans i.image opening i.system i.slots.items (claim_of i.waiting) i.order.items c.self.invariant.0 i.over.items rows_limit c.args.self.now c.self.view_is full)

pub returns-then-not-is_live : goal.returns-then-not-is_live
returns-then-not-is_live g c =
    let ans = g.A.Answerer.answering in
    let opening = g.O.Opening.opening in
    let i = c.self.inside in
    let means = ans.means in
    let given = option_copied c.args.given in
    let there = c.in-Some.ensures.some in
    let goes : slice_index_or i.over.items c.in-Some.at false ≡ false =
    ap (λ b. slice_index_or i.over.items c.in-Some.at b) (sym c.if-index.false) ∙ sym c.index.ensures ∙ c.if-index.false in
    let going = seen_as ans i.image opening i.system i.slots.items (claim_of i.waiting) i.order.items c.self.invariant.0 i.over.items rows_limit
    c.args.self.now c.self.view_is c.in-Some.at false goes in
    let few : length i.order.items < i.image.bounds.events =
    (let f = c.if-len-most.false in let k = i.order.ok.0 in let long = c.len.ensures in let most = c.most_events-most.ensures.value in omega (arith, f, long, k, most)) in
    let room = room_as ans i.image opening i.system i.slots.items (claim_of i.waiting) i.order.items c.self.invariant.0 i.over.items rows_limit c.args.self.now c.self.view_is few in
    let done = done_as ans i.image opening i.system i.slots.items (claim_of i.waiting) i.order.items c.self.invariant.0 i.over.items rows_limit c.args.self.now c.self.view_is c.args.step.job
    (λ live. false≢true (c.if-not-is_live.ensures.1 live)) in
    let P : Shown → Type 0 = λ s. StepGivesBy means opening c.args.self.now c.args.step given (Ok seen.Ended) s in
    subst P (ap (λ (s : Shown). let t : Shown = record s { over = slice_set s.over c.in-Some.at true } in t) (sym c.self.view_is))
    (is_done means given opening c.args.self.now c.args.step c.in-Some.at there.0 there.2 going room done)

pub returns-in_default-reserve : goal.returns-in_default-reserve
returns-in_default-reserve g c =
    let ans = g.A.Answerer.answering in
    let opening = g.O.Opening.opening in
    let i = c.self.inside in
    let means = ans.means in
    let given = option_copied c.args.given in
    let there = c.in-Some.ensures.some in
    let goes : slice_index_or i.over.items c.in-Some.at false ≡ false =
    ap (λ b. slice_index_or i.over.items c.in-Some.at b) (sym c.if-index.false) ∙ sym c.index.ensures ∙ c.if-index.false in
    let going = seen_as ans i.image opening i.system i.slots.items (claim_of i.waiting) i.order.items c.self.invariant.0 i.over.items rows_limit
    c.args.self.now c.self.view_is c.in-Some.at false goes in
    let few : length i.order.items < i.image.bounds.events =
    (let f = c.if-len-most.false in let k = i.order.ok.0 in let long = c.len.ensures in let most = c.most_events-most.ensures.value in omega (arith, f, long, k, most)) in
    let room = room_as ans i.image opening i.system i.slots.items (claim_of i.waiting) i.order.items c.self.invariant.0 i.over.items rows_limit c.args.self.now c.self.view_is few in
    let reserved : shown i.image i.slots.items c.reserve.new.self.items i.over.items rows_limit ≡ c.args.self.now =
    ap (λ o. shown i.image i.slots.items o i.over.items rows_limit) c.reserve.ensures.items ∙ c.self.view_is in
    let P : Shown → Type 0 = λ s. StepGivesBy means opening c.args.self.now c.args.step given (Err refusals.Memory) s in
    subst P (sym reserved) (is_short means given opening c.args.self.now c.args.step c.in-Some.at there.0 there.2 going room)

pub admit-requires-clause-row : goal.admit-requires-clause-row
admit-requires-clause-row g c =
    let ans = g.A.Answerer.answering in
    let opening = g.O.Opening.opening in
    let i = c.self.inside in
    let means = ans.means in
    let given = option_copied c.args.given in
    let there = c.in-Some.ensures.some in
    row_within ans i.image opening i.system i.slots.items (claim_of i.waiting) i.order.items c.self.invariant.0 i.over.items rows_limit c.args.self.now c.self.view_is c.args.step.job c.in-Some.at
    there.0 there.2

pub returns-in_default-admit : goal.returns-in_default-admit
returns-in_default-admit g c =
    let ans = g.A.Answerer.answering in
    let opening = g.O.Opening.opening in
    let i = c.self.inside in
    let means = ans.means in
    let given = option_copied c.args.given in
    let there = c.in-Some.ensures.some in
    let goes : slice_index_or i.over.items c.in-Some.at false ≡ false =
    ap (λ b. slice_index_or i.over.items c.in-Some.at b) (sym c.if-index.false) ∙ sym c.index.ensures ∙ c.if-index.false in
    let going = seen_as ans i.image opening i.system i.slots.items (claim_of i.waiting) i.order.items c.self.invariant.0 i.over.items rows_limit
    c.args.self.now c.self.view_is c.in-Some.at false goes in
    let few : length i.order.items < i.image.bounds.events =
    (let f = c.if-len-most.false in let k = i.order.ok.0 in let long = c.len.ensures in let most = c.most_events-most.ensures.value in omega (arith, f, long, k, most)) in
    let room = room_as ans i.image opening i.system i.slots.items (claim_of i.waiting) i.order.items c.self.invariant.0 i.over.items rows_limit c.args.self.now c.self.view_is few in
    let reserved : shown i.image i.slots.items c.reserve.new.self.items i.over.items rows_limit ≡ c.args.self.now =
    ap (λ o. shown i.image i.slots.items o i.over.items rows_limit) c.reserve.ensures.items ∙ c.self.view_is in
    let admitted : shown i.image c.admit.new.slots.items c.reserve.new.self.items i.over.items rows_limit ≡ c.args.self.now =
    shown_same i.image i.slots.items c.admit.new.slots.items c.reserve.new.self.items i.over.items rows_limit
    (let W : List Happened → Type 0 = λ o. woven (logs_of c.admit.new.slots.items) o ≡ woven (logs_of i.slots.items) o in subst W c.deref.ensures.value c.admit.ensures.woven)
    (c.admit.ensures.turns rows_limit) (c.admit.ensures.stands rows_limit) ∙ reserved in
    let P : Shown → Type 0 = λ s. StepGivesBy means opening c.args.self.now c.args.step given (Err refusals.Memory) s in
    subst P (sym admitted) (is_short means given opening c.args.self.now c.args.step c.in-Some.at there.0 there.2 going room)

pub go-requires-clause-short : goal.go-requires-clause-short
go-requires-clause-short g c =
    let i = c.self.inside in
    let same = ap (λ l. length l) c.reserve.ensures.items in
    let f = c.if-len-most.false in
    let k = i.order.ok.0 in
    let long = c.len.ensures in
    let most = c.most_events-most.ensures.value in
    omega (arith, f, long, k, most, same)

pub returns : goal.returns
returns g c =
    let ans = g.A.Answerer.answering in
    let opening = g.O.Opening.opening in
    let i = c.self.inside in
    let means = ans.means in
    let given = option_copied c.args.given in
    let there = c.in-Some.ensures.some in
    let goes : slice_index_or i.over.items c.in-Some.at false ≡ false =
    ap (λ b. slice_index_or i.over.items c.in-Some.at b) (sym c.if-index.false) ∙ sym c.index.ensures ∙ c.if-index.false in
    let going = seen_as ans i.image opening i.system i.slots.items (claim_of i.waiting) i.order.items c.self.invariant.0 i.over.items rows_limit
    c.args.self.now c.self.view_is c.in-Some.at false goes in
    let few : length i.order.items < i.image.bounds.events =
    (let f = c.if-len-most.false in let k = i.order.ok.0 in let long = c.len.ensures in let most = c.most_events-most.ensures.value in omega (arith, f, long, k, most)) in
    let room = room_as ans i.image opening i.system i.slots.items (claim_of i.waiting) i.order.items c.self.invariant.0 i.over.items rows_limit c.args.self.now c.self.view_is few in
    let reserved : shown i.image i.slots.items c.reserve.new.self.items i.over.items rows_limit ≡ c.args.self.now =
    ap (λ o. shown i.image i.slots.items o i.over.items rows_limit) c.reserve.ensures.items ∙ c.self.view_is in
    let admitted : shown i.image c.admit.new.slots.items c.reserve.new.self.items i.over.items rows_limit ≡ c.args.self.now =
    shown_same i.image i.slots.items c.admit.new.slots.items c.reserve.new.self.items i.over.items rows_limit
    (let W : List Happened → Type 0 = λ o. woven (logs_of c.admit.new.slots.items) o ≡ woven (logs_of i.slots.items) o in subst W c.deref.ensures.value c.admit.ensures.woven)
    (c.admit.ensures.turns rows_limit) (c.admit.ensures.stands rows_limit) ∙ reserved in
    let late : c.eq.result ≡ is_late c.args.step.way = c.eq.ensures ∙ late_is c.args.step.way in
    let slots_are : (with_items c.admit.new.slots c.go.new.slots).items ≡ c.go.new.slots =
    with_items_is c.admit.new.slots c.go.new.slots (c.go.auto.slots ∙ ap (λ l. length l) c.deref_mut.ensures.value ∙ sym c.admit.new.slots.ok.0) in
    let over_are : (with_items i.over c.go.new.over).items ≡ c.go.new.over =
    with_items_is i.over c.go.new.over (c.go.auto.over ∙ ap (λ l. length l) c.deref_mut-2.ensures.value ∙ sym i.over.ok.0) in
    let P : List (Placed g.row.A.Denot) → List Bool → Type 0 = λ s o. StepGivesBy means opening c.args.self.now c.args.step given c.go.result (shown i.image s c.go.new.order.items o rows_limit) in
    subst (λ s. P s (with_items i.over c.go.new.over).items) (sym slots_are)
    (subst (λ o. P c.go.new.slots o) (sym over_are)
    (is_made means given opening c.args.self.now c.args.step c.in-Some.at there.0 there.2 going room c.go.result (shown i.image c.go.new.slots c.go.new.order.items c.go.new.over rows_limit)
    (made_of means given i.image opening c.admit.new.slots.items c.deref_mut.result.now c.reserve.new.self.items i.over.items c.deref_mut-2.result.now rows_limit c.args.self.now c.in-Some.at
    (is_late c.args.step.way) c.eq.result c.go.result (shown i.image c.go.new.slots c.go.new.order.items c.go.new.over rows_limit) admitted c.deref_mut.ensures.value c.deref_mut-2.ensures.value late
    c.go.ensures.made)))
