use Rattle.std.proofs.Common.{[], sym, refl, None, subst}
use Rattle.mj_subs.specs.Name.{Name}
use Rattle.std.proofs.lemmas.Result.{IfOk-weaker}
use Rattle.mj_store.specs.declared.access.Access.TheVariants.{Put}
use Rattle.mj_semantics.specs.State.{hold}
use Rattle.mj_semantics.specs.Outcome.{Timed, change, given}
use Rattle.mj_semantics.specs.Accesses.{access}
use Rattle.mj_pcode.specs.Machine.{Next}
use Rattle.mj_machine.specs.declared.machine.TurnOutcome.TheVariants as steps
use Rattle.mj_machine.specs.Kept.{state_of, replied, without, Does}
use Rattle.mj_machine.proofs.Asks.{takes}
use Rattle.mj_variable_ops.proofs.Accesses.{changed_told}
use Rattle.mj_variable_ops.proofs.merges.put_global.Goals as goal

pub returns-in_ok-nodes-in-None-clause-ok : goal.returns-in_ok-nodes-in-None-clause-ok
returns-in_ok-nodes-in-None-clause-ok c =
    let old = c.args.machine.now in
    let rest : Next → Timed = without old c.args.pc c.args.count in
    IfOk-weaker c.ask.result _ _
    (λ step d. subst (λ nodes. Does (λ next. access (Put c.args.name nodes) (λ a. change (hold []) (rest next))) old (replied c.args.given) step c.ask.new.machine) c.in_ok-nodes-in-None.ensures
    (subst (λ (name : Name). Does (λ next. access (Put name c.in_ok-nodes-in-None.nodes) (λ a. change (hold []) (rest next))) old (replied c.args.given) step c.ask.new.machine)
    c.in_ok-shared-in-None.ensures
    (d (replied c.args.given) c.in-None.ensures.none (λ next a. change (hold []) (rest next)))))
    c.ask.ensures.ok

pub returns-in-Some-clause-ok : goal.returns-in-Some-clause-ok
returns-in-Some-clause-ok c =
    let old = c.args.machine.now in
    let r = c.in-Some.reply.now in
    let rest : Next → Timed = without old c.args.pc c.args.count in
    let w = c.reply_done.result in
    takes (λ next. access (Put c.args.name old.held) (λ a. change (hold []) (rest next)))
    (λ next. given w (λ u. change (hold []) (rest next))) old (replied c.args.given) r steps.Took c.let_go.new.machine c.in-Some.ensures.some.0
    (λ next n back replies. changed_told (Put c.args.name old.held)
    (change (hold []) (rest next)) n back (state_of old) r w replies c.requires.global c.in-Some.ensures.some.1 (sym c.reply_done.ensures)) (refl, c.let_go.ensures None)
