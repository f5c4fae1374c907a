use Rattle.std.proofs.Common.{◌≡◌, ◌++◌, sym, ◌∙◌, List, ℕ, [], refl, arith, subst}
use Rattle.std.specs.Io.KnownBytes.{Appends}
use Rattle.mj_dialogue.specs.declared.command.Command.TheVariants as commands
use Rattle.mj_dialogue.specs.declared.answering.Unanswered.{Unanswered}
use Rattle.mj_dialogue.specs.Fails.{Fails, IsOutputWritten, unanswered_of}
use Rattle.mj_dialogue.proofs.Failing.{at_err, written}
use Rattle.mj_dialogue.proofs.Going.{appends_none, appends_more, made_more, goes_all, goes_last}
use Rattle.mj_dialogue.proofs.answering.go.Goals as goal

pub loop-made-init : goal.loop-made-init
loop-made-init g c = ([], (refl, refl), appends_none (g.W.Write.contents c.args.out.now))

pub loop-made-preserved : goal.loop-made-preserved
loop-made-preserved g c =
    let so = c.loop-made.invariant in
    let passed = c.in_ok-passed.ensures.ok in
    let line : List ℕ = c.in_ok-passed.passed.told.bytes.items in
    let P : List ℕ → Type 0 = λ bytes. Appends (g.W.Write.contents c.loop-made.out) (g.W.Write.contents c.put.new.out) bytes in (
      so.0 ++ line,
      made_more g.O.Opening.opening c.loop-made.made c.args.debugger.now c.loop-made.debugger c.pass.new.debugger so.0 line passed.0
          so.1 passed.1 (sym passed.3 ∙ c.if-not-passed.false),
      appends_more (g.W.Write.contents c.args.out.now) (g.W.Write.contents c.loop-made.out) (g.W.Write.contents c.put.new.out) so.0 line so.2
          (subst P c.deref.ensures.value c.in_ok-put.ensures.ok),
    )

-- a step that isn't told
pub returns-in_err-passed-clause-err : goal.returns-in_err-passed-clause-err
returns-in_err-passed-clause-err g c =
    let so = c.loop-made.invariant in
    let why = unanswered_of c.in_err-passed.field-0.0 in
    let P : Unanswered → Type 0 = λ e.
    (bytes : List ℕ) × Fails g.O.Opening.opening c.args.debugger.now (commands.Go c.args.count) bytes e c.pass.new.debugger
    × IsOutputWritten e (g.W.Write.contents c.args.out.now) (g.W.Write.contents c.loop-made.out) bytes in
    at_err c.from_residual.result why P (
      so.0,
      (c.loop-made.made, c.loop-made-test.true, (c.loop-made.debugger, so.1, c.in_err-passed.ensures.err)),
      written why (g.W.Write.contents c.args.out.now) (g.W.Write.contents c.loop-made.out) so.0 so.2,
    ) c.from_residual.ensures.1

-- one that is told, which isn't written
pub returns-in_err-put-clause-err : goal.returns-in_err-put-clause-err
returns-in_err-put-clause-err g c =
    let so = c.loop-made.invariant in
    let passed = c.in_ok-passed.ensures.ok in
    let line : List ℕ = c.in_ok-passed.passed.told.bytes.items in
    let P : Unanswered → Type 0 = λ e.
    (bytes : List ℕ) × Fails g.O.Opening.opening c.args.debugger.now (commands.Go c.args.count) bytes e c.pass.new.debugger
    × IsOutputWritten e (g.W.Write.contents c.args.out.now) (g.W.Write.contents c.put.new.out) bytes in
    at_err c.from_residual-in_err-put.result c.in_err-put.field-0.0 P
    (subst P (sym c.in_err-put.ensures.err) (so.0, (c.loop-made.made, c.loop-made-test.true, (c.loop-made.debugger, so.1, (passed.0, line, passed.1))), tt))
    c.from_residual-in_err-put.ensures.1

pub returns-then-not-passed-clause-ok : goal.returns-then-not-passed-clause-ok
returns-then-not-passed-clause-ok g c =
    let so = c.loop-made.invariant in
    let passed = c.in_ok-passed.ensures.ok in
    let line : List ℕ = c.in_ok-passed.passed.told.bytes.items in
    let P : List ℕ → Type 0 = λ bytes. Appends (g.W.Write.contents c.loop-made.out) (g.W.Write.contents c.put.new.out) bytes in (
      so.0 ++ line,
      goes_last g.O.Opening.opening c.loop-made.made c.args.count c.args.debugger.now c.loop-made.debugger c.pass.new.debugger so.0 line passed.0
          c.in_ok-passed.passed.told.full so.1 c.loop-made-test.true passed.1 (sym passed.3 ∙ c.if-not-passed.true) passed.2,
      appends_more (g.W.Write.contents c.args.out.now) (g.W.Write.contents c.loop-made.out) (g.W.Write.contents c.put.new.out) so.0 line so.2
          (subst P c.deref.ensures.value c.in_ok-put.ensures.ok),
    )

pub returns-clause-ok : goal.returns-clause-ok
returns-clause-ok g c =
    let so = c.loop-made.invariant in
    let all : c.loop-made.made ≡ c.args.count = omega (arith, c.loop-made.auto.made-end, c.loop-made-test.false) in
    (so.0, goes_all g.O.Opening.opening c.loop-made.made c.args.count c.args.debugger.now c.loop-made.debugger so.0 so.1 all, so.2)
