use Rattle.std.proofs.Common.{◌≡◌, ◌∙◌, ℕ, List, sym}
use Rattle.std.specs.Prelude.{false, option_copied}
use Rattle.mj_text.specs.declared.limit.Limit.{Limit}
use Rattle.mj_semantics.specs.Outcome.{Timed, given}
use Rattle.mj_semantics.specs.Evaluation.{about}
use Rattle.mj_semantics.specs.Names.{asks, spelled}
use Rattle.mj_pcode.specs.Machine.{Next}
use Rattle.mj_machine.specs.declared.machine.TurnOutcome.TheVariants as steps
use Rattle.mj_machine.specs.Kept.{state_of, with_value}
use Rattle.mj_machine.proofs.Asks.{does_as}
use Rattle.mj_variable_ops.proofs.Accesses.{about_spells}
use Rattle.mj_variable_ops.proofs.about.inquire.Goals as goal

pub returns-then-not-asks-clause-ok : goal.returns-then-not-asks-clause-ok
returns-then-not-asks-clause-ok c = λ reply.
    let old = c.args.machine.now in
    let limit : Limit = old.bounds.limit in
    let f = c.args.function in
    let x = c.args.name.now in
    let o = option_copied c.args.other in
    let rest : Next → List ℕ → Timed = with_value old c.args.pc c.args.count in
    let no : asks f ≡ false = sym c.asks.ensures ∙ c.if-not-asks.true in
    does_as (λ next. about f x o (rest next)) (λ next. given (spelled limit x) (rest next)) old reply steps.Next c.put_value.new.machine
    (λ next n back replies. about_spells f x o (rest next) n back (state_of old) replies no)
    (c.in_ok-put_value.ensures.ok (spelled limit x) c.spelled-text.ensures reply)

pub inquire_local-requires-clause-local : goal.inquire_local-requires-clause-local
inquire_local-requires-clause-local c = c.requires.local (sym c.asks.ensures ∙ c.if-not-asks.false)
