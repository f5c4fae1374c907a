use Rattle.std.proofs.Common.{◌≡◌, ◌≤◌, ℕ, length, None, sym, ap, ◌∙◌, subst}
use Rattle.mj_text.specs.declared.limit.Limit.TheVariants.{V2}
use Rattle.mj_load.specs.Image.{program_of}
use Rattle.mj_jobs.specs.Rows.{rows_limit}
use Rattle.mj_sys.specs.System.{history_limit}
use Rattle.mj_core.specs.Runs.{IsRun}
use Rattle.mj_core.specs.Shown.{Shown}
use Rattle.mj_core.specs.Ties.{Placed, stand_of}
use Rattle.mj_core.specs.Kept.{logs_of, claim_of}
use Rattle.mj_core.proofs.Giving.{each_long}
use Rattle.mj_core.proofs.Histories.{is_run}
use Rattle.mj_core.proofs.Views.{as_many}
use Rattle.mj_core.proofs.together.Core.len.Goals as goal

pub returns-clause-value : goal.returns-clause-value
returns-clause-value g c =
    let i = c.self.inside in
    let kept = c.self.invariant.0 in
    c.len.ensures ∙ c.self.inside.order.ok.0 ∙ sym (as_many (logs_of i.slots.items) i.order.items kept.there) ∙ ap (λ (s : Shown). length s.history) c.self.view_is

pub returns-clause-within : goal.returns-clause-within
returns-clause-within g c =
    let i = c.self.inside in
    let kept = c.self.invariant.0 in
    let many = as_many (logs_of i.slots.items) i.order.items kept.there in
    subst (λ (s : Shown). length s.history ≤ s.image.bounds.events) c.self.view_is (subst (λ (n : ℕ). n ≤ i.image.bounds.events) (sym many) kept.within)

pub returns-clause-most : goal.returns-clause-most
returns-clause-most g c = subst (λ (s : Shown). s.image.bounds.events ≤ history_limit) c.self.view_is c.self.invariant.0.most

pub returns-clause-long : goal.returns-clause-long
returns-clause-long g c = subst (λ (s : Shown). s.image.bounds.limit ≡ V2) c.self.view_is c.self.invariant.0.long

pub returns-clause-run : goal.returns-clause-run
returns-clause-run g c =
    let i = c.self.inside in
    let opening = g.O.Opening.opening in
    subst (λ (s : Shown). IsRun (program_of s.image) opening s.history) c.self.view_is
    (is_run g.A.Answerer.answering i.image opening i.system i.slots.items (claim_of i.waiting) i.order.items c.self.invariant.0)

pub returns-clause-over : goal.returns-clause-over
returns-clause-over g c = sym (ap (λ (s : Shown). length s.over) c.self.view_is) ∙ c.self.invariant.1

pub returns-clause-spent : goal.returns-clause-spent
returns-clause-spent g c =
    sym (ap (λ (s : Shown). length s.spent) c.self.view_is) ∙ each_long 0 (λ (s : Placed g.row.A.Denot). s.job.run.spent) rows_limit c.self.inside.slots.items

pub returns-clause-stands : goal.returns-clause-stands
returns-clause-stands g c =
    sym (ap (λ (s : Shown). length s.stands) c.self.view_is) ∙ each_long None (λ (s : Placed g.row.A.Denot). stand_of s) rows_limit c.self.inside.slots.items
