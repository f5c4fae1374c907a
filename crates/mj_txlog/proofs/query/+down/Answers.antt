use Rattle.std.proofs.Common.{◌≡◌, true, false, Some, sym, ap, ◌∙◌}
use Rattle.std.specs.Option.{is_some}
use Rattle.std.proofs.lemmas.Result.{IfOk-weaker}
use Rattle.mj_subs.specs.Name.{Name}
use Rattle.mj_store.specs.Questions.{value_at}
use Rattle.mj_txlog.specs.Accesses.{seen}
use Rattle.mj_txlog.specs.Walks.{first_in, is_within}
use Rattle.mj_txlog.proofs.Walks.{here_first, not_here, none_below, first_below}
use Rattle.mj_txlog.proofs.query.+down.Goals as goal

pub first_below-returns-in-None-clause-next : goal.first_below-returns-in-None-clause-next
first_below-returns-in-None-clause-next t c es laid = sym (none_below (seen c.args.globals.now es) c.args.name.now (sym (c.in_ok-first_sub.ensures.next es laid) ∙ c.in-None.is))

pub first_below-returns-in_ok-child-in-Some-clause-next : goal.first_below-returns-in_ok-child-in-Some-clause-next
first_below-returns-in_ok-child-in-Some-clause-next t c = IfOk-weaker c.first_within-found.result _ _
    (λ next h es laid.
    let sees = seen c.args.globals.now es in
    h es laid
    ∙ ap (λ (k : Name). first_in sees k (is_within k.subscripts)) c.in_ok-child-in-Some.ensures.value
    ∙ first_below sees c.args.name.now c.in-Some.sub (sym (c.in_ok-first_sub.ensures.next es laid) ∙ c.in-Some.is))
    c.first_within-found.ensures.next

pub first_within-returns-then-branch-clause-next : goal.first_within-returns-then-branch-clause-next
first_within-returns-then-branch-clause-next t c es laid =
    let x : is_some (value_at (seen c.args.globals.now es) c.args.name.now) ≡ true = ap is_some (laid c.args.name.now c.args.globals.now) ∙ sym c.in_ok-is_text.ensures ∙ c.if-branch.true in
    ap (λ (n : Name). Some n) c.in_ok-try_clone.ensures ∙ sym (here_first (seen c.args.globals.now es) c.args.name.now x)

pub first_within-returns-clause-next : goal.first_within-returns-clause-next
first_within-returns-clause-next t c = IfOk-weaker c.first_below.result _ _
    (λ next h es laid.
    let x : is_some (value_at (seen c.args.globals.now es) c.args.name.now) ≡ false = ap is_some (laid c.args.name.now c.args.globals.now) ∙ sym c.in_ok-is_text.ensures ∙ c.if-branch.false in
    h es laid ∙ sym (not_here (seen c.args.globals.now es) c.args.name.now x))
    c.first_below.ensures.next
