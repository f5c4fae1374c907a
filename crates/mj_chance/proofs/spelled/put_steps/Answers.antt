use Rattle.std.proofs.Common.{◌≡◌, ◌++◌, List, ℕ, sym, ap, ◌∙◌, arith, append-nil}
use Rattle.std.proofs.Math.ListN.{drop_of_length-le}
use Rattle.mj_steps.specs.declared.step.Way.TheVariants.{Go}
use Rattle.mj_chance.specs.Spelled.{ended_lines}
use Rattle.mj_chance.proofs.Spelling.{more, spelled}
use Rattle.mj_chance.proofs.spelled.put_steps.Goals as goal

pub steps-preserved : goal.steps-preserved
steps-preserved c =
    let l = c.steps in
    more c.args.steps.now l.step-index (record { job = 0; way = Go }) l.bytes.items c.put_step.new.bytes.items c.steps-test.true l.invariant c.in_ok-put_step.ensures

pub returns-clause-lines : goal.returns-clause-lines
returns-clause-lines c =
    let l = c.steps in
    sym (append-nil l.bytes.items)
    ∙ sym (ap (λ s. l.bytes.items ++ ended_lines s) (drop_of_length-le c.args.steps.now (omega (arith, c.steps-test.false)))) ∙ l.invariant

pub returns-clause-read : goal.returns-clause-read
returns-clause-read c =
    let l = c.steps in
    λ are. spelled c.args.steps.now l.bytes.items
    (sym (append-nil l.bytes.items)
    ∙ sym (ap (λ s. l.bytes.items ++ ended_lines s) (drop_of_length-le c.args.steps.now (omega (arith, c.steps-test.false)))) ∙ l.invariant) are
