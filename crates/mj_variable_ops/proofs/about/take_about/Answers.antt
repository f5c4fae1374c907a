use Rattle.std.proofs.Common.{◌≡◌, ℕ, ◌∷◌, List, Option, Some, None, refl, sym, ap, ◌∙◌, reverse}
use Rattle.std.specs.Prelude.{Result, Ok, Err, option_copied}
use Rattle.std.proofs.lemmas.Result.{IfOk-weaker}
use Rattle.mj_text.specs.declared.fault.Fault.{Fault}
use Rattle.mj_subs.specs.Name.{Name}
use Rattle.mj_semantics.specs.Functions.{optional}
use Rattle.mj_semantics.specs.Outcome.{Timed, given, fault}
use Rattle.mj_semantics.specs.Accesses.{answer_told}
use Rattle.mj_semantics.specs.Evaluation.{about}
use Rattle.mj_pcode.specs.Machine.{Next, operands}
use Rattle.mj_machine.specs.Kept.{stack_of, state_of, with_value}
use Rattle.mj_machine.proofs.Asks.{does_as, takes}
use Rattle.mj_variable_ops.specs.Asked.{made_of, misled}
use Rattle.mj_variable_ops.proofs.Accesses.{about_asks, asked_told, led, question_of, question_misled, question_led}
use Rattle.mj_variable_ops.proofs.about.take_about.Goals as goal

pub returns-in-Some-clause-ok : goal.returns-in-Some-clause-ok
returns-in-Some-clause-ok c = λ x global.
    let old = c.args.machine.now in
    let f = c.args.function in
    let o : Option (List ℕ) = optional 0 (operands c.args.others (stack_of old)) in
    let rest : Next → List ℕ → Timed = with_value old c.args.pc c.args.count in
    let other : option_copied c.foremost-other.result ≡ o = c.foremost-other.ensures ∙ ap (optional 0) (c.topmost.ensures ∙ ap (λ l. operands c.args.others (reverse l)) c.deref.ensures.value) in
    let why : misled f o ≡ Some c.in-Some.fault = sym (c.misled.ensures ∙ ap (misled f) other) ∙ c.in-Some.is in
    does_as (λ next. about f x o (rest next)) (λ next. fault c.in-Some.fault) old (Some c.args.reply.now) c.fail.result c.fail.new.machine
    (λ next n back replies. about_asks f x o (rest next) n back (state_of old) replies (Err c.in-Some.fault) c.requires.asks (question_misled f x o c.in-Some.fault why))
    (c.fail.ensures (Some c.args.reply.now))

pub returns-clause-ok : goal.returns-clause-ok
returns-clause-ok c =
    let old = c.args.machine.now in
    let f = c.args.function in
    let o : Option (List ℕ) = optional 0 (operands c.args.others (stack_of old)) in
    let rest : Next → List ℕ → Timed = with_value old c.args.pc c.args.count in
    let other : option_copied c.foremost-other.result ≡ o = c.foremost-other.ensures ∙ ap (optional 0) (c.topmost.ensures ∙ ap (λ l. operands c.args.others (reverse l)) c.deref.ensures.value) in
    let r = c.args.reply.now in
    let none : misled f o ≡ None = sym (c.misled.ensures ∙ ap (misled f) other) ∙ c.in_default.is in
    let w : Result (List ℕ) Fault = made_of old.bounds.limit f (option_copied c.foremost-other.result) (answer_told r) in
    IfOk-weaker c.put_told.result _ _
    (λ step t x global. takes (λ next. about f x o (rest next)) (λ next. given w (rest next)) old (Some r) r step c.put_told.new.machine refl
    (λ next n back replies. about_asks f x o (rest next) n back (state_of old) (r ∷ replies) (Ok (led f x o)) c.requires.asks (question_led f x o none)
    ∙ asked_told f o (led f x o) (rest next) n back (state_of old) r w replies
    (ap (λ (y : Name). y.global) (question_of f x o (led f x o) (question_led f x o none)) ∙ global) c.requires.more
    (ap (λ p. made_of old.bounds.limit f p (answer_told r)) (sym other))) t)
    (c.put_told.ensures.ok w c.told_by-value.ensures)
