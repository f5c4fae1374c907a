use Rattle.std.proofs.Common.{◌∙◌, List, [], ◌∷◌, ◌++◌, ap, sym, refl, inr}
use Rattle.mj_ast.specs.Commands.{Text}
use Rattle.mj_ast.specs.Trees.{expr_of}
use Rattle.mj_lex.specs.declared.token.Lexeme.{Lexeme}
use Rattle.mj_lex.specs.Seen.{tokens_seen}
use Rattle.mj_line.specs.Forms.{ResultWanted, ResultEnd, AnExpr}
use Rattle.mj_line.specs.Machine.{Argument, Args, At, run}
use Rattle.mj_cmd.proofs.Follow.{reads_err, went_text, fails_enter, fails_then, fails_here}
use Rattle.mj_cmd.proofs.Jumps.{result_untaken, result_end_untaken}
use Rattle.mj_cmd.proofs.control.given.Goals as goal

pub returns-in_err-value-clause-reads : goal.returns-in_err-value-clause-reads
returns-in_err-value-clause-reads c = λ m r o condition k done.
    reads_err c.args.phrases.limited _ _ c.from_residual.result c.in_err-value.field-0.0 m c.args.tokens.now _ _ c.from_residual.ensures.1
    (fails_enter c.args.phrases.limited c.in_err-value.field-0.0 m c.args.tokens.now ResultWanted (AnExpr 0 ResultEnd) o condition k done tt refl
    (result_untaken (tokens_seen c.args.tokens.now)) (inr c.requires) (c.in_err-value.ensures.reads m r (Argument o condition k done (AnExpr 0 ResultEnd)) refl refl))

pub returns-in-Err-clause-reads : goal.returns-in-Err-clause-reads
returns-in-Err-clause-reads c = λ m r o condition k done.
    fails_then c.args.phrases.limited (Text 0 (expr_of c.in_ok-value.value) ∷ []) c.in-Err.stop m c.args.tokens.now ResultWanted
    c.in_ok-value.rest.now ResultEnd o condition k done
    (went_text c.args.phrases.limited 0 (expr_of c.in_ok-value.value) m c.args.tokens.now ResultWanted c.in_ok-value.rest.now ResultEnd o condition k done refl
    (result_untaken (tokens_seen c.args.tokens.now)) (inr c.requires) (c.in_ok-value.ensures.reads m r (Argument o condition k done (AnExpr 0 ResultEnd)) refl refl))
    (λ d. fails_here c.args.phrases.limited c.in-Err.stop m c.in_ok-value.rest.now ResultEnd o condition k d refl
    (result_end_untaken (tokens_seen c.in_ok-value.rest.now)) (inr c.in-Err.ensures.other) (c.in-Err.ensures.refused c.args.phrases.limited))

pub returns-in-Ok-clause-reads : goal.returns-in-Ok-clause-reads
returns-in-Ok-clause-reads c = λ m r o condition k done.
    let h = went_text c.args.phrases.limited 0 (expr_of c.in_ok-value.value) m c.args.tokens.now ResultWanted c.in_ok-value.rest.now ResultEnd o condition k done
    refl (result_untaken (tokens_seen c.args.tokens.now)) (inr c.requires) (c.in_ok-value.ensures.reads m r (Argument o condition k done (AnExpr 0 ResultEnd)) refl refl) in
    (h.0, h.1, h.2 ∙ ap (λ (ls : List Lexeme). run m (tokens_seen ls) (At (Args o condition k (done ++ h.0) ResultEnd))) (sym c.in-Ok.ensures.ok.0))
