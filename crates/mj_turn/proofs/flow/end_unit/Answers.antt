use Rattle.std.proofs.Common.{◌≡◌, length, ap, arith}
use Rattle.std.proofs.lemmas.Result.{IfOk-weaker}
use Rattle.mj_semantics.specs.State.{at_place}
use Rattle.mj_semantics.specs.Outcome.{change}
use Rattle.mj_pcode.specs.Machine as machines
use Rattle.mj_machine.specs.Kept.{context_of, state_of}
use Rattle.mj_machine.proofs.Asks.{does_as}
use Rattle.mj_turn.proofs.flow.end_unit.Goals as goal

pub returns-clause-ok : goal.returns-clause-ok
returns-clause-ok c =
    let old = c.args.machine.now in
    let u = c.args.unit.now in
    let ks = (context_of old).calls in
    let last : length u.heads.items ≡ c.len.result = omega (arith, c.len.ensures, u.heads.ok.0) in
    IfOk-weaker c.leave.result _ _
    (λ step d. λ all pc reply.
    does_as (λ next. change (at_place (machines.place_in u (length u.heads.items))) (machines.quits next ks))
    (λ next. change (at_place (machines.place_in u c.len.result)) (machines.quits next ks)) old reply step _
    (λ next n back replies. ap (λ k. change (at_place (machines.place_in u k)) (machines.quits next ks) n back (state_of old) replies) last)
    (d reply))
    c.leave.ensures.ok
