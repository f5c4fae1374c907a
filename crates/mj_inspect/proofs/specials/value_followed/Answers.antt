use Rattle.std.proofs.Common.{inl, inr}
use Rattle.std.proofs.lemmas.Result.{IfOk-weaker}
use Rattle.mj_core.specs.Runs.{start_in}
use Rattle.mj_inspect.specs.Waits.{told_before}
use Rattle.mj_inspect.proofs.Following.{all_turns, is_in}
use Rattle.mj_inspect.proofs.specials.value_followed.Goals as goal

pub returns-then-not-branch : goal.returns-then-not-branch
returns-then-not-branch g c = λ start is.
    IfOk-weaker c.said.result _ _ (λ bytes line. inl (c.in_ok-follows.ensures.cut start is c.if-not-branch.true, line)) c.said.ensures

pub goes_on-requires-clause-within : goal.goes_on-requires-clause-within
goes_on-requires-clause-within g c =
    let core = c.args.core.now in
    let start = c.requires.0 in
    let told = told_before c.args.number core.history c.args.place in
    is_in core.image (start_in c.args.number start) told c.follows.new.job (c.in_ok-follows.ensures.on start c.requires.1 c.if-not-branch.false)

pub goes_on-requires-clause-few : goal.goes_on-requires-clause-few
goes_on-requires-clause-few g c = all_turns

pub returns : goal.returns
returns g c = λ start is.
    let from = start_in c.args.number start in
    let told = told_before c.args.number c.args.core.now.history c.args.place in
    let behind = c.in_ok-follows.ensures.on start is c.if-not-branch.false in
    IfOk-weaker c.number_line.result _ _
    (λ bytes line.
    inr (
      c.value_of.result,
      (c.goes_on.new.job, c.in_ok-turn.turn, c.goes_on.ensures.behind from told behind, c.in_ok-turn.ensures.on from told behind, c.value_of.ensures),
      line,
    )) c.number_line.ensures
