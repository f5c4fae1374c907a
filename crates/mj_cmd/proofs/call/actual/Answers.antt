use Rattle.std.proofs.Common.{refl, inl}
use Rattle.mj_ast.specs.Trees.{expr_of}
use Rattle.mj_lex.specs.Seen.{tokens_seen}
use Rattle.mj_line.specs.Forms.{ActualWanted, ActualEnd, AnExpr}
use Rattle.mj_line.specs.Machine.{Argument}
use Rattle.mj_cmd.proofs.Follow.{reads_err, went_text, fails_enter}
use Rattle.mj_cmd.proofs.Jumps.{went_left_comma, went_left_close, actual_untaken}
use Rattle.mj_cmd.proofs.call.actual.Goals as goal

pub returns-in-Some-clause-reads : goal.returns-in-Some-clause-reads
returns-in-Some-clause-reads c = λ m r mode o condition k done. went_left_comma c.args.phrases.limited m mode c.args.tokens.now
    (tokens_seen c.in-Some.field-0.now) o condition k done c.in-Some.ensures.0

pub returns-in-Some-behind_close-clause-reads : goal.returns-in-Some-behind_close-clause-reads
returns-in-Some-behind_close-clause-reads c = λ m r mode o condition k done. went_left_close c.args.phrases.limited m mode c.args.tokens.now
    (tokens_seen c.in-Some-behind_close.field-0.now) o condition k done c.in-Some-behind_close.ensures.0

pub returns-in_err-actual-in-None-behind_close-clause-reads : goal.returns-in_err-actual-in-None-behind_close-clause-reads
returns-in_err-actual-in-None-behind_close-clause-reads c = λ m r mode o condition k done.
    reads_err c.args.phrases.limited _ _ c.from_residual.result c.in_err-actual-in-None-behind_close.field-0.0 m c.args.tokens.now _ _ c.from_residual.ensures.1
    (fails_enter c.args.phrases.limited c.in_err-actual-in-None-behind_close.field-0.0 m c.args.tokens.now (ActualWanted mode) (AnExpr 1 (ActualEnd mode)) o
    condition k done tt refl (actual_untaken mode (tokens_seen c.args.tokens.now) c.in-None.ensures c.in-None-behind_close.ensures) (inl refl)
    (c.in_err-actual-in-None-behind_close.ensures.reads m r (Argument o condition k done (AnExpr 1 (ActualEnd mode))) refl refl))

pub returns-in_ok-actual-in-None-behind_close-clause-reads : goal.returns-in_ok-actual-in-None-behind_close-clause-reads
returns-in_ok-actual-in-None-behind_close-clause-reads c = λ m r mode o condition k done. went_text c.args.phrases.limited 1
    (expr_of c.in_ok-actual-in-None-behind_close.actual) m c.args.tokens.now (ActualWanted mode) c.in_ok-actual-in-None-behind_close.rest.now (ActualEnd mode) o
    condition k done refl (actual_untaken mode (tokens_seen c.args.tokens.now) c.in-None.ensures c.in-None-behind_close.ensures) (inl refl)
    (c.in_ok-actual-in-None-behind_close.ensures.reads m r (Argument o condition k done (AnExpr 1 (ActualEnd mode))) refl refl)
