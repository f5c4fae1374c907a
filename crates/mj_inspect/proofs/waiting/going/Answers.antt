use Rattle.mj_inspect.proofs.Following.{let_go, gone_on}
use Rattle.mj_inspect.proofs.waiting.going.Goals as goal

pub returns-clause-on : goal.returns-clause-on
returns-clause-on c = λ start told is.
    let_go c.args.image.now start told c.args.job.now c.advance.new.self c.args.turns c.advance.result c.requires.few is c.advance.ensures.log c.advance.ensures.spent
    (c.advance.ensures.told start is.run)

pub returns-clause-behind : goal.returns-clause-behind
returns-clause-behind c = λ start told is.
    gone_on c.args.image.now start told c.args.job.now c.advance.new.self is c.advance.ensures.log (c.advance.ensures.run start is.run)
