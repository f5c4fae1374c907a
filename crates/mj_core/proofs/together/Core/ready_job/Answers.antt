use Rattle.std.proofs.Common.{◌≡◌, suc, List, length, false, true, sym, ap, ◌∙◌, subst}
use Rattle.std.proofs.lemmas.List.{with_items_is}
use Rattle.mj_jobvm.specs.Jobs.{Running}
use Rattle.mj_jobs.specs.Rows.{rows_limit}
use Rattle.mj_core.specs.Woven.{woven}
use Rattle.mj_core.specs.Gives.{GivesReady}
use Rattle.mj_core.specs.Asking.{turn_of, IsAtAsk}
use Rattle.mj_core.specs.Ties.{Placed}
use Rattle.mj_core.specs.Kept.{logs_of, claim_of, shown}
use Rattle.mj_core.proofs.Answering.{row_within}
use Rattle.mj_core.proofs.Readied.{readied_done, readied_short, readied, readied_at, asks_as}
use Rattle.mj_core.proofs.together.Core.ready_job.Goals as goal

pub returns-then-not-is_live-clause-gives : goal.returns-then-not-is_live-clause-gives
returns-then-not-is_live-clause-gives g c =
    let ans = g.A.Answerer.answering in
    let opening = g.O.Opening.opening in
    let i = c.self.inside in
    readied_done ans i.image opening i.system i.slots.items (claim_of i.waiting) i.order.items c.self.invariant.0 i.over.items c.args.self.now c.self.view_is c.args.job c.in-Some.at
    c.in-Some.ensures.some.0 c.in-Some.ensures.some.2
    c.index.result.now c.self.invariant.1 c.in-Some.ensures.some.1 c.index.ensures c.if-index.false
    (λ live. (let no : false ≡ true = c.if-not-is_live.ensures.1 live in cc))

pub admit-requires-clause-row : goal.admit-requires-clause-row
admit-requires-clause-row g c =
    let ans = g.A.Answerer.answering in
    let opening = g.O.Opening.opening in
    let i = c.self.inside in
    row_within ans i.image opening i.system i.slots.items (claim_of i.waiting) i.order.items c.self.invariant.0 i.over.items rows_limit c.args.self.now c.self.view_is c.args.job c.in-Some.at
    c.in-Some.ensures.some.0 c.in-Some.ensures.some.2

pub returns-in_default-admit-clause-gives : goal.returns-in_default-admit-clause-gives
returns-in_default-admit-clause-gives g c =
    let ans = g.A.Answerer.answering in
    let opening = g.O.Opening.opening in
    let i = c.self.inside in
    readied_short ans i.image opening i.system i.slots.items (claim_of i.waiting) i.order.items c.self.invariant.0 i.over.items c.args.self.now c.self.view_is c.args.job c.in-Some.at
    c.in-Some.ensures.some.0 c.in-Some.ensures.some.2
    c.index.result.now c.self.invariant.1 c.in-Some.ensures.some.1 c.index.ensures c.if-index.false
    c.admit.new.slots.items c.deref.result.now c.deref.ensures.value c.admit.ensures.woven c.admit.ensures.turns c.admit.ensures.stands

pub returns-clause-gives : goal.returns-clause-gives
returns-clause-gives g c =
    let ans = g.A.Answerer.answering in
    let opening = g.O.Opening.opening in
    let i = c.self.inside in
    let long : length c.go_ready.new.slots ≡ c.admit.new.slots.len = c.go_ready.auto.slots ∙ ap (λ l. length l) c.deref_mut.ensures.value ∙ sym c.admit.new.slots.ok.0 in
    let P : List (Placed g.row.A.Denot) → Type 0 = λ l. GivesReady opening c.args.self.now c.args.job (turn_of c.go_ready.result) (shown i.image l i.order.items i.over.items rows_limit) in
    subst P (sym (with_items_is c.admit.new.slots c.go_ready.new.slots long)) (
    readied ans i.image opening i.system i.slots.items (claim_of i.waiting) i.order.items c.self.invariant.0 i.over.items c.args.self.now c.self.view_is c.args.job c.in-Some.at
    c.in-Some.ensures.some.0 c.in-Some.ensures.some.2
    c.index.result.now c.self.invariant.1 c.in-Some.ensures.some.1 c.index.ensures c.if-index.false
    c.admit.new.slots.items c.deref.result.now c.deref.ensures.value c.admit.ensures.woven c.admit.ensures.turns c.admit.ensures.stands
    c.deref_mut.result.now c.go_ready.new.slots c.deref-2.result.now c.deref_mut.ensures.value c.deref-2.ensures.value (turn_of c.go_ready.result) c.go_ready.ensures.readies)

pub returns-clause-looked : goal.returns-clause-looked
returns-clause-looked g c =
    let ans = g.A.Answerer.answering in
    let opening = g.O.Opening.opening in
    let i = c.self.inside in
    let at : (found : Running) → IsAtAsk i.image opening (woven (logs_of c.deref_mut.result.now) c.deref-2.result.now) (suc c.in-Some.at) found
    → IsAtAsk c.args.self.now.image opening c.args.self.now.history c.args.job found =
    λ found asks.
    readied_at ans i.image opening i.system i.slots.items (claim_of i.waiting) i.order.items c.self.invariant.0 i.over.items c.args.self.now c.self.view_is c.args.job c.in-Some.at
    c.in-Some.ensures.some.0 c.in-Some.ensures.some.2
    c.index.result.now c.self.invariant.1 c.in-Some.ensures.some.1 c.index.ensures c.if-index.false
    c.admit.new.slots.items c.deref.result.now c.deref.ensures.value c.admit.ensures.woven c.admit.ensures.turns c.admit.ensures.stands
    c.deref_mut.result.now c.deref-2.result.now c.deref_mut.ensures.value c.deref-2.ensures.value found asks in
    asks_as _ _ c.go_ready.result (λ seen looked. (looked.0, at looked.0 looked.1, looked.2)) c.go_ready.ensures.looked
