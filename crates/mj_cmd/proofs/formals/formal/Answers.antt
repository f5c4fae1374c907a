use Rattle.std.proofs.Common.{◌∷◌, ◌++◌, ◌∙◌, [], refl, sym}
use Rattle.mj_lex.specs.Seen.{tokens_seen}
use Rattle.mj_cmd.proofs.Front.{name_goes}
use Rattle.mj_cmd.proofs.formals.formal.Goals as goal

pub returns-in_ok-text-in-Some-clause-reads : goal.returns-in_ok-text-in-Some-clause-reads
returns-in_ok-text-in-Some-clause-reads c = λ m limited label. (
  c.args.names.now ++ c.in_ok-text-in-Some.text ∷ [],
  λ e. refl,
  name_goes m label c.args.names.now (tokens_seen c.args.tokens.now) (tokens_seen c.in-Some.rest.now) c.in-Some.name.now c.in_ok-text-in-Some.text c.in-Some.ensures.0
      (sym c.is_among.ensures ∙ c.if-is_among.false) c.in-Some.ensures.1 c.in_ok-text-in-Some.ensures.ok,
)
