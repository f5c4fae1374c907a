use Rattle.std.proofs.Common.{◌≡◌, ℕ, ◌≤◌, List, length, drop, sym, ap, ◌∙◌, reverse, subst}
use Rattle.std.specs.Prelude.{IfOk}
use Rattle.mj_subs.specs.Name.{Name}
use Rattle.mj_store.specs.declared.access.Access.TheVariants as accesses
use Rattle.mj_pcode.specs.Machine.{top, operands}
use Rattle.mj_machine.specs.Kept.{stack_of}
use Rattle.mj_variable_ops.specs.Answers.{global_with}
use Rattle.mj_variable_ops.specs.Asked.{AsksFor}
use Rattle.mj_variable_ops.proofs.changes.ask_store.Goals as goal

pub returns-clause-ok : goal.returns-clause-ok
returns-clause-ok c =
    let old = c.args.machine.now in
    let ss : List (List ℕ) = operands c.args.count (drop c.args.above (stack_of old)) in
    let under = c.below_both-subscripts.ensures ∙ ap (λ l. operands c.args.count (drop c.args.above (reverse l))) c.deref.ensures.value in
    let is : c.in_ok-name.name ≡ global_with c.args.word.now ss = c.in_ok-name.ensures ∙ ap (global_with c.args.word.now) under in
    let value : c.in_ok-value.value ≡ top (stack_of old) = c.in_ok-value.ensures ∙ c.top.ensures ∙ ap (λ l. top (reverse l)) c.deref-2.ensures.value in
    let Q : List ℕ → Type 0 = λ v. IfOk c.ask.result (λ step. AsksFor (accesses.Set c.in_ok-name.name v) old step c.ask.new.machine) in
    let P : Name → Type 0 = λ x. IfOk c.ask.result (λ step. AsksFor (accesses.Set x (top (stack_of old))) old step c.ask.new.machine) in
    subst P is (subst Q value c.ask.ensures.ok)

pub global_name-requires : goal.global_name-requires
global_name-requires c =
    let old = c.args.machine.now in
    let under = c.below_both-subscripts.ensures ∙ ap (λ l. operands c.args.count (drop c.args.above (reverse l))) c.deref.ensures.value in
    subst (λ (l : List (List ℕ)). length l ≤ 31) (sym under) c.requires.few
