use Rattle.std.proofs.Common.{sym, subst}
use Rattle.std.specs.Result.{IfOk}
use Rattle.mj_ast.specs.declared.construct.Construct.{Construct}
use Rattle.mj_ast.specs.LeftOut.{StandsFor}
use Rattle.mj_lex.specs.Seen.{token_seen, tokens_seen}
use Rattle.mj_unsupported.specs.Fronts.{Says}
use Rattle.mj_unsupported.proofs.rows.fits.Goals as goal

pub returns-in-Indirection : goal.returns-in-Indirection
returns-in-Indirection c =
    let P : Construct → Type 0 = λ x. IfOk c.indirection.result (λ b. Says b (StandsFor x (tokens_seen c.args.front.now) (token_seen c.args.token) (tokens_seen c.args.behind.now))) in
    subst P (sym c.in-Indirection.is) c.indirection.ensures

pub returns-in-Fraction : goal.returns-in-Fraction
returns-in-Fraction c =
    let P : Construct → Type 0 = λ x. IfOk c.fraction.result (λ b. Says b (StandsFor x (tokens_seen c.args.front.now) (token_seen c.args.token) (tokens_seen c.args.behind.now))) in
    subst P (sym c.in-Fraction.is) c.fraction.ensures
