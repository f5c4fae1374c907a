use Rattle.std.proofs.Common.{sym, refl, None, subst}
use Rattle.std.proofs.lemmas.Result.{IfOk-weaker}
use Rattle.mj_store.specs.declared.access.Access.TheVariants.{Subtree}
use Rattle.mj_semantics.specs.State.{hold}
use Rattle.mj_semantics.specs.Outcome.{Timed, change, given}
use Rattle.mj_semantics.specs.Accesses.{access, nodes_told}
use Rattle.mj_pcode.specs.Machine.{Next}
use Rattle.mj_machine.specs.declared.machine.TurnOutcome.TheVariants as steps
use Rattle.mj_subs.specs.Name.{Name}
use Rattle.mj_machine.specs.Kept.{state_of, replied, without, Does}
use Rattle.mj_machine.proofs.Asks.{takes}
use Rattle.mj_variable_ops.proofs.Altered.{taken_told}
use Rattle.mj_variable_ops.proofs.merges.take_global.Goals as goal

pub returns-in_ok-shared-in-None-clause-ok : goal.returns-in_ok-shared-in-None-clause-ok
returns-in_ok-shared-in-None-clause-ok c =
    let old = c.args.machine.now in
    let rest : Next → Timed = without old c.args.pc c.args.count in
    let taken : Name → Next → Timed = λ name next. access (Subtree name) (λ a. change (hold (nodes_told a)) (rest next)) in
    IfOk-weaker c.ask.result _ _
    (λ step d. subst (λ (name : Name). Does (taken name) old (replied c.args.given) step c.ask.new.machine) c.in_ok-shared-in-None.ensures
    (d (replied c.args.given) c.in-None.ensures.none (λ next. λ a. change (hold (nodes_told a)) (rest next))))
    c.ask.ensures.ok

pub returns-in_ok-nodes-in-Some-clause-ok : goal.returns-in_ok-nodes-in-Some-clause-ok
returns-in_ok-nodes-in-Some-clause-ok c =
    let old = c.args.machine.now in
    let r = c.in-Some.reply.now in
    let rest : Next → Timed = without old c.args.pc c.args.count in
    let w = c.in_ok-nodes-in-Some.nodes in
    takes (λ next. access (Subtree c.args.name) (λ a. change (hold (nodes_told a)) (rest next)))
    (λ next. given w (λ l. change (hold l) (rest next))) old (replied c.args.given) r steps.Took c.keep.new.machine c.in-Some.ensures.some.0
    (λ next n back replies. taken_told c.args.name (rest next) n back (state_of old) r w replies c.requires.global c.in-Some.ensures.some.1 (sym c.in_ok-nodes-in-Some.ensures))
    (refl, c.keep.ensures None)
