use Rattle.std.proofs.Common.{◌-◌, ℕ, List, sym, subst, ◌∙◌, arith}
use Rattle.mj_ast.specs.Syntax.{Routine}
use Rattle.mj_rou.specs.Read.{IsRoutineRead, IsRoutineRefused}
use Rattle.mj_rou.specs.declared.error.LoadError.{LoadError}
use Rattle.mj_hints.specs.Refusals.{AreRefusals, IsEmptied}
use Rattle.mj_hints.proofs.Told.{GoesOn, goes_at_first, goes_on, ends_on, ends_read, ends_full}
use Rattle.mj_hints.proofs.all.refusals.Goals as goal

pub lines-init : goal.lines-init
lines-init c = goes_at_first c.args.most c.args.name.now c.args.bytes.now c.in_ok-text.text.items c.new-refusals.result.items c.new-refusals.ensures.items c.in_ok-text.ensures.items

pub returns-in_default : goal.returns-in_default
returns-in_default c =
    let P : List ℕ → Type 0 = λ xs. (r : Routine) × IsRoutineRead c.args.name.now xs r in
    ends_read c.args.most c.lines.left c.args.name.now c.args.bytes.now c.lines.text.items c.lines.refusals.items c.lines-test.true c.lines.invariant
    (subst P c.deref.ensures.value (rw c.in_default.is at c.in_ok-refusal.ensures))

pub returns-in_default-emptied : goal.returns-in_default-emptied
returns-in_default-emptied c =
    let P : List LoadError → Type 0 = λ ts. AreRefusals c.args.most c.args.name.now c.args.bytes.now ts in
    let Q : List ℕ → Type 0 = λ xs. IsRoutineRefused c.args.name.now xs c.in-Some.refusal in
    let said = rw c.in-Some.is at c.in_ok-refusal.ensures in
    subst P (sym c.in_ok-push.ensures.items) (ends_on c.args.most c.lines.left c.args.name.now c.args.bytes.now c.lines.text.items c.lines.refusals.items c.in-Some.refusal
    c.lines-test.true c.lines.invariant said.0 (subst Q c.deref.ensures.value said.1) (sym c.line_emptied-emptied.ensures ∙ c.in_default-emptied.is))

pub lines-preserved : goal.lines-preserved
lines-preserved c =
    let P : List LoadError → Type 0 = λ ts. GoesOn c.args.most (c.lines.left - 1) c.args.name.now c.args.bytes.now c.in_ok-text-2.text.items ts in
    let Q : List ℕ → Type 0 = λ xs. IsRoutineRefused c.args.name.now xs c.in-Some.refusal in
    let R : List ℕ → Type 0 = λ xs. IsEmptied (c.in-Some-emptied.line - 1) xs c.in_ok-text-2.text.items in
    let S : ℕ → Type 0 = λ n. IsEmptied n c.deref-in-lines.result.now c.in_ok-text-2.text.items in
    let said = rw c.in-Some.is at c.in_ok-refusal.ensures in
    subst P (sym c.in_ok-push.ensures.items) (goes_on c.args.most c.lines.left c.args.name.now c.args.bytes.now c.lines.text.items c.in_ok-text-2.text.items c.lines.refusals.items
    c.in-Some.refusal c.in-Some-emptied.line c.lines-test.true c.lines.invariant said.0 (subst Q c.deref.ensures.value said.1)
    (sym c.line_emptied-emptied.ensures ∙ c.in-Some-emptied.is) (subst R c.deref-in-lines.ensures.value (subst S c.saturating_sub.ensures c.in_ok-text-2.ensures)))

pub returns : goal.returns
returns c = ends_full c.args.most c.lines.left c.args.name.now c.args.bytes.now c.lines.text.items c.lines.refusals.items (omega (arith, c.lines-test.false)) c.lines.invariant
