use Rattle.std.proofs.Common.{refl}
use Rattle.mj_ast.specs.Trees.{expr_of}
use Rattle.mj_lex.specs.Seen.{tokens_seen}
use Rattle.mj_line.specs.Forms.{ValueWanted, ValueEnd, AnExpr}
use Rattle.mj_line.specs.Machine.{Argument}
use Rattle.mj_cmd.proofs.Follow.{reads_err, went_text, fails_enter}
use Rattle.mj_cmd.proofs.Jumps.{value_untaken}
use Rattle.mj_cmd.proofs.control.value.Goals as goal

pub returns-in_err-value-clause-reads : goal.returns-in_err-value-clause-reads
returns-in_err-value-clause-reads c = λ m r first u o condition k done.
    reads_err c.args.phrases.limited _ _ c.from_residual.result c.in_err-value.field-0.0 m c.args.tokens.now _ _ c.from_residual.ensures.1
    (fails_enter c.args.phrases.limited c.in_err-value.field-0.0 m c.args.tokens.now (ValueWanted first) (AnExpr 0 ValueEnd) o condition k done tt refl
    (value_untaken first (tokens_seen c.args.tokens.now)) u (c.in_err-value.ensures.reads m r (Argument o condition k done (AnExpr 0 ValueEnd)) refl refl))

pub returns-clause-reads : goal.returns-clause-reads
returns-clause-reads c = λ m r first u o condition k done. went_text c.args.phrases.limited 0 (expr_of c.in_ok-value.value) m c.args.tokens.now
    (ValueWanted first) c.in_ok-value.rest.now ValueEnd o condition k done refl (value_untaken first (tokens_seen c.args.tokens.now)) u
    (c.in_ok-value.ensures.reads m r (Argument o condition k done (AnExpr 0 ValueEnd)) refl refl)
