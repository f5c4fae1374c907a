use Rattle.std.proofs.Common.{◌≡◌, true, false, sym, subst}
use Rattle.mj_ask.specs.declared.ask.Reply.{Reply}
use Rattle.mj_jobvm.specs.Jobs.{FitsPending}
use Rattle.mj_inspect.specs.Waits.{is_due}
use Rattle.mj_inspect.proofs.Following.{due_fits, told_on}
use Rattle.mj_inspect.proofs.waiting.tell.Goals as goal

pub answer-requires : goal.answer-requires
answer-requires c =
    let pending = c.comes_to.new.job.run.pending in
    let due : is_due c.args.image.now.bounds.limit pending c.args.reply.now ≡ true = c.in_ok-comes_to.ensures.due c.if-not-branch.false in
    let P : Reply → Type 0 = λ reply. FitsPending pending reply in
    subst P (sym c.in_ok-told.ensures) (due_fits c.args.image.now.bounds.limit pending c.args.reply.now due)

pub returns-then-not-branch-clause-on : goal.returns-then-not-branch-clause-on
returns-then-not-branch-clause-on c = λ start told is on. absurd (let no : false ≡ true = on in cc)

pub returns-then-not-branch-clause-lost : goal.returns-then-not-branch-clause-lost
returns-then-not-branch-clause-lost c = λ start told is off. c.in_ok-comes_to.ensures.lost start told is c.if-not-branch.true

pub returns-clause-on : goal.returns-clause-on
returns-clause-on c = λ start told is on.
    let mid = c.comes_to.new.job in
    let due : is_due c.args.image.now.bounds.limit mid.run.pending c.args.reply.now ≡ true = c.in_ok-comes_to.ensures.due c.if-not-branch.false in
    told_on c.args.image.now start told c.args.job.now mid c.answer.new.self c.args.reply.now c.in_ok-told.told is c.comes_to.ensures.log (c.comes_to.ensures.run start)
    c.in_ok-told.ensures due c.answer.ensures.run c.answer.ensures.log

pub returns-clause-lost : goal.returns-clause-lost
returns-clause-lost c = λ start told is off. absurd (let no : true ≡ false = off in cc)
