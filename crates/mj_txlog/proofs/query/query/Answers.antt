use Rattle.std.proofs.Common.{sym, ◌∙◌}
use Rattle.std.proofs.lemmas.Option.{IfSome_then}
use Rattle.std.proofs.lemmas.Result.{IfOk-weaker}
use Rattle.mj_txlog.specs.Accesses.{seen}
use Rattle.mj_txlog.proofs.Walks.{query_below, query_past}
use Rattle.mj_txlog.proofs.query.query.Goals as goal

pub returns-in-Some-clause-next : goal.returns-in-Some-clause-next
returns-in-Some-clause-next c es laid = sym (query_below (seen c.args.globals.now es) c.args.name.now c.in-Some.next (sym (c.in_ok-next.ensures.next es laid) ∙ c.in-Some.is))

pub returns-in-None-clause-next : goal.returns-in-None-clause-next
returns-in-None-clause-next c = IfOk-weaker c.first_past.result _ _
    (λ x h. IfSome_then x h (λ next k es laid. k es laid ∙ sym (query_past (seen c.args.globals.now es) c.args.name.now (sym (c.in_ok-next.ensures.next es laid) ∙ c.in-None.is))))
    c.first_past.ensures.next
