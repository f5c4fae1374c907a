use Rattle.std.specs.Prelude.{IsSome}
use Rattle.std.proofs.Common.{◌≡◌, ◌<◌, ◌≤◌, suc, length, sym, ap, ◌∙◌, subst, arith}
use Rattle.std.proofs.lemmas.Option.{slice_get_past}
use Rattle.mj_jobs.specs.Rows.{row_at}
use Rattle.mj_sys.specs.Shared.{Shared}
use Rattle.mj_sys.specs.History.{state_of}
use Rattle.mj_core.specs.Shown.{Shown}
use Rattle.mj_core.specs.Kept.{claim_of}
use Rattle.mj_core.proofs.Histories.{same_state}
use Rattle.mj_core.proofs.Views.{some_within}
use Rattle.mj_core.proofs.together.Core.place.Goals as goal

pub returns-then-at-rows-clause-some : goal.returns-then-at-rows-clause-some
returns-then-at-rows-clause-some g c =
    let i = c.self.inside in
    let opening = g.O.Opening.opening in
    let same =
    ap (λ (s : Shown). state_of opening s.history) (sym c.self.view_is)
    ∙ same_state g.A.Answerer.answering i.image opening i.system i.slots.items (claim_of i.waiting) i.order.items c.self.invariant.0 in
    let at = c.in_ok-at.at in
    let above = c.in_ok-at.ensures.0 in
    let less = c.in_ok-at.ensures.1 in
    let is : c.args.job ≡ suc at = omega (arith, above, less) in
    let within = c.if-at-rows.true in
    let bound = c.rows.ensures.bound in
    let value = c.rows.ensures.value in
    let rows = (state_of g.O.Opening.opening c.self.inside.system.history).rows in
    let there : at < length rows = omega (arith, within, value) in (
      is,
      omega (arith, within, bound),
      subst (λ (s : Shared). IsSome (row_at s.rows c.args.job)) (sym same) (subst (λ j. IsSome (row_at rows j)) (sym is) (some_within rows at there)),
    )

pub returns-else-at-rows-clause-none : goal.returns-else-at-rows-clause-none
returns-else-at-rows-clause-none g c =
    let i = c.self.inside in
    let opening = g.O.Opening.opening in
    let same =
    ap (λ (s : Shown). state_of opening s.history) (sym c.self.view_is)
    ∙ same_state g.A.Answerer.answering i.image opening i.system i.slots.items (claim_of i.waiting) i.order.items c.self.invariant.0 in
    let at = c.in_ok-at.at in
    let above = c.in_ok-at.ensures.0 in
    let less = c.in_ok-at.ensures.1 in
    let is : c.args.job ≡ suc at = omega (arith, above, less) in
    let past = c.if-at-rows.false in
    let value = c.rows.ensures.value in
    let rows = (state_of g.O.Opening.opening c.self.inside.system.history).rows in
    let beyond : length rows ≤ at = omega (arith, past, value) in
    ap (λ (s : Shared). row_at s.rows c.args.job) same ∙ ap (λ j. row_at rows j) is ∙ slice_get_past rows at beyond
