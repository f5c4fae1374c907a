use Rattle.std.proofs.lemmas.Result.{on_ok_weaker}
use Rattle.mj_core.specs.Runs.{start_in}
use Rattle.mj_inspect.specs.Waits.{told_before}
use Rattle.mj_inspect.specs.Stands.{turn_line}
use Rattle.mj_inspect.proofs.Following.{few_turns, is_in}
use Rattle.mj_inspect.proofs.Putting.{puts_one, puts_cut, tells_turn}
use Rattle.mj_inspect.proofs.waiting.put_followed.Goals as goal

pub returns-then-not-branch : goal.returns-then-not-branch
returns-then-not-branch g c = λ start is.
    let core = c.args.core.now in
    puts_cut core.image core.history c.args.place (start_in c.args.number start) c.args.bytes.now.items
    (c.in_ok-follows.ensures.cut start is c.if-not-branch.true)

pub goes_on-requires-clause-within : goal.goes_on-requires-clause-within
goes_on-requires-clause-within g c =
    let core = c.args.core.now in
    let start = c.requires.0 in
    let told = told_before c.args.number core.history c.args.place in
    is_in core.image (start_in c.args.number start) told c.follows.new.job (c.in_ok-follows.ensures.on start c.requires.1 c.if-not-branch.false)

pub goes_on-requires-clause-few : goal.goes_on-requires-clause-few
goes_on-requires-clause-few g c = few_turns

pub returns : goal.returns
returns g c = λ start is.
    let core = c.args.core.now in
    let told = told_before c.args.number core.history c.args.place in
    let behind = c.in_ok-follows.ensures.on start is c.if-not-branch.false in
    let turn = c.in_ok-turn.turn in
    let job = c.goes_on.new.job in
    on_ok_weaker c.put_turn.result
    (λ put.
    puts_one core.image core.history c.args.place (start_in c.args.number start) (turn_line c.args.number turn job) c.args.bytes.now.items c.put_turn.new.bytes.items
    (tells_turn core.image core.history c.args.place (start_in c.args.number start) turn job (c.in_ok-turn.ensures.on (start_in c.args.number start) told behind)) put)
    c.put_turn.ensures
