use Rattle.std.proofs.Common.{◌∙◌, refl}
use Rattle.mj_lex.specs.Seen.{tokens_seen}
use Rattle.mj_cmd.proofs.Front.{head_blank}
use Rattle.mj_cmd.proofs.lines.indent.Goals as goal

pub returns-in-Some-clause-reads : goal.returns-in-Some-clause-reads
returns-in-Some-clause-reads c = λ m limited p o h e. (
  c.dots.result.0,
  λ f. refl,
  head_blank m p o (tokens_seen c.args.tokens.now) (tokens_seen c.in-Some.behind.now) h c.in-Some.ensures.0 ∙ c.dots.ensures.goes m o,
)
