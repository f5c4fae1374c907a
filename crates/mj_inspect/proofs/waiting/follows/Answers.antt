use Rattle.std.proofs.Common.{◌≡◌, true, false}
use Rattle.mj_core.specs.Runs.{start_in}
use Rattle.mj_inspect.specs.Waits.{told_before}
use Rattle.mj_inspect.proofs.Following.{cut_at, ends_told, goes_told, is_in, starts_told}
use Rattle.mj_inspect.proofs.waiting.follows.Goals as goal

pub loop-at-init : goal.loop-at-init
loop-at-init g c = λ start is.
    starts_told c.args.core.now.image (start_in c.args.number start) c.args.number c.args.core.now.history c.args.job.now is

pub goes_past-requires : goal.goes_past-requires
goes_past-requires g c =
    let core = c.args.core.now in
    let start = c.requires.0 in
    let told = told_before c.args.number core.history c.loop-at.at in
    is_in core.image (start_in c.args.number start) told c.loop-at.job (c.loop-at.invariant start c.requires.1)

pub loop-at-preserved : goal.loop-at-preserved
loop-at-preserved g c = λ start is.
    let core = c.args.core.now in
    let told = told_before c.args.number core.history c.loop-at.at in
    goes_told core.image (start_in c.args.number start) c.args.number core.history c.loop-at.at c.goes_past.new.job
    (c.in_ok-goes_past.ensures.on (start_in c.args.number start) told (c.loop-at.invariant start is) c.if-not-branch.false)

pub returns-then-not-branch-clause-on : goal.returns-then-not-branch-clause-on
returns-then-not-branch-clause-on g c = λ start is on. absurd (let no : false ≡ true = on in cc)

pub returns-then-not-branch-clause-cut : goal.returns-then-not-branch-clause-cut
returns-then-not-branch-clause-cut g c = λ start is off.
    let core = c.args.core.now in
    let told = told_before c.args.number core.history c.loop-at.at in
    cut_at core.image (start_in c.args.number start) core.history c.args.place c.loop-at.at c.loop-at-test.true
    (c.in_ok-goes_past.ensures.cut (start_in c.args.number start) told (c.loop-at.invariant start is) c.if-not-branch.true)

pub returns-clause-on : goal.returns-clause-on
returns-clause-on g c = λ start is on.
    let core = c.args.core.now in
    ends_told core.image (start_in c.args.number start) c.args.number core.history c.loop-at.at c.args.place c.loop-at.job c.loop-at.auto.at-end
    c.loop-at-test.false (c.loop-at.invariant start is)

pub returns-clause-cut : goal.returns-clause-cut
returns-clause-cut g c = λ start is off. absurd (let no : true ≡ false = off in cc)
