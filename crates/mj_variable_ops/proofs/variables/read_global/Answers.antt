use Rattle.std.proofs.Common.{ℕ, List, Result, refl}
use Rattle.std.proofs.lemmas.Result.{IfOk-weaker}
use Rattle.mj_text.specs.declared.fault.Fault.{Fault}
use Rattle.mj_text.specs.declared.fault.Fault.TheVariants.{Undefined}
use Rattle.mj_subs.specs.Name.{Name}
use Rattle.mj_semantics.specs.Outcome.{Timed, given, need}
use Rattle.mj_semantics.specs.Accesses.{answer_told, value_told}
use Rattle.mj_semantics.specs.Evaluation.{read}
use Rattle.mj_pcode.specs.Machine.{Next, operands}
use Rattle.mj_machine.specs.Kept.{stack_of, state_of, replied, with_value}
use Rattle.mj_machine.proofs.Asks.{takes}
use Rattle.mj_variable_ops.specs.Answers.{value_read, global_with}
use Rattle.mj_variable_ops.proofs.Accesses.{read_told}
use Rattle.mj_variable_ops.proofs.variables.read_global.Goals as goal

pub returns-in-None-clause-ok : goal.returns-in-None-clause-ok
returns-in-None-clause-ok c =
    let old = c.args.machine.now in
    let rest : Next → List ℕ → Timed = with_value old c.args.pc c.args.count in
    IfOk-weaker c.ask_value.result _ _ (λ step d. d (replied c.args.given) c.in-None.ensures.none (λ next. λ a. need Undefined (value_told a) (rest next)))
    c.ask_value.ensures.ok

pub returns-in-Some-clause-ok : goal.returns-in-Some-clause-ok
returns-in-Some-clause-ok c =
    let old = c.args.machine.now in
    let x : Name = global_with c.args.word.now (operands c.args.count (stack_of old)) in
    let r = c.in-Some.reply.now in
    let rest : Next → List ℕ → Timed = with_value old c.args.pc c.args.count in
    let w : Result (List ℕ) Fault = value_read (answer_told r) in
    IfOk-weaker c.put_told.result _ _
    (λ step t. takes (λ next. read x (rest next)) (λ next. given w (rest next)) old (replied c.args.given) r step c.put_told.new.machine c.in-Some.ensures.some.0
    (λ next n back replies. read_told x (rest next) n back (state_of old) r w replies refl c.in-Some.ensures.some.1 refl) t)
    (c.put_told.ensures.ok w c.value_read.ensures)
