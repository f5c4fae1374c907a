use Rattle.std.proofs.Common.{ℕ, List, drop, Result, refl}
use Rattle.std.proofs.lemmas.Result.{IfOk-weaker}
use Rattle.mj_text.specs.declared.fault.Fault.{Fault}
use Rattle.mj_subs.specs.Name.{Name}
use Rattle.mj_store.specs.declared.access.Access.{Access}
use Rattle.mj_store.specs.declared.access.Access.TheVariants as accesses
use Rattle.mj_semantics.specs.Outcome.{Timed, given}
use Rattle.mj_semantics.specs.Accesses.{access, answer_told}
use Rattle.mj_pcode.specs.Machine.{Next, top, operands}
use Rattle.mj_machine.specs.Kept.{stack_of, state_of, replied, without}
use Rattle.mj_machine.proofs.Asks.{takes}
use Rattle.mj_variable_ops.specs.Answers.{change_done, global_with}
use Rattle.mj_variable_ops.proofs.Accesses.{changed_told}
use Rattle.mj_variable_ops.proofs.changes.store_global.Goals as goal

pub returns-in-None-clause-ok : goal.returns-in-None-clause-ok
returns-in-None-clause-ok c =
    let old = c.args.machine.now in
    let rest : Next → Timed = without old c.args.pc c.args.depth.taken in
    IfOk-weaker c.ask_store.result _ _ (λ step d. d (replied c.args.given) c.in-None.ensures.none (λ next. λ a. rest next)) c.ask_store.ensures.ok

pub returns-in-Some-clause-ok : goal.returns-in-Some-clause-ok
returns-in-Some-clause-ok c =
    let old = c.args.machine.now in
    let x : Name = global_with c.args.word.now (operands c.args.count (drop c.args.depth.above (stack_of old))) in
    let a : Access = accesses.Set x (top (stack_of old)) in
    let r = c.in-Some.reply.now in
    let rest : Next → Timed = without old c.args.pc c.args.depth.taken in
    let w : Result (Prim.Unit {0}) Fault = change_done (answer_told r) in
    takes (λ next. access a (λ q. rest next)) (λ next. given w (λ u. rest next)) old (replied c.args.given) r c.take_done.result c.take_done.new.machine
    c.in-Some.ensures.some.0
    (λ next n back replies. changed_told a (rest next) n back (state_of old) r w replies refl c.in-Some.ensures.some.1 refl) c.take_done.ensures
