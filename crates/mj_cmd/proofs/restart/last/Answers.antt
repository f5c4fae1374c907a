use Rattle.std.proofs.Common.{◌∙◌, List, ◌++◌, ap, sym, refl, inr}
use Rattle.mj_ast.specs.Commands.{serial_parts}
use Rattle.mj_lex.specs.declared.token.Lexeme.{Lexeme}
use Rattle.mj_lex.specs.Seen.{tokens_seen}
use Rattle.mj_line.specs.Forms.{RestoredEnd, SerialEnd}
use Rattle.mj_line.specs.Machine.{Args, At, run}
use Rattle.mj_cmd.proofs.Follow.{reads_err, fails_then, fails_here}
use Rattle.mj_cmd.proofs.Restarts.{end_untaken}
use Rattle.mj_cmd.proofs.restart.last.Goals as goal

pub returns-in_err-serial-clause-reads : goal.returns-in_err-serial-clause-reads
returns-in_err-serial-clause-reads c = λ limited m o condition k done.
    reads_err limited _ _ c.from_residual.result c.in_err-serial.field-0.0 m c.args.tokens.now _ _ c.from_residual.ensures.1
    (c.in_err-serial.ensures.reads limited m o condition k done)

pub returns-in_err-rest-clause-reads : goal.returns-in_err-rest-clause-reads
returns-in_err-rest-clause-reads c = λ limited m o condition k done.
    reads_err limited _ _ c.from_residual-in_err-rest.result c.in_err-rest.field-0.0 m c.args.tokens.now _ _ c.from_residual-in_err-rest.ensures.1
    (fails_then limited (serial_parts c.in_ok-serial.serial) c.in_err-rest.field-0.0 m c.args.tokens.now RestoredEnd c.in_ok-serial.rest.now SerialEnd o
    condition k done (c.in_ok-serial.ensures.reads limited m o condition k done)
    (λ d. fails_here limited c.in_err-rest.field-0.0 m c.in_ok-serial.rest.now SerialEnd o condition k d refl
    (end_untaken (tokens_seen c.in_ok-serial.rest.now)) (inr c.in_err-rest.ensures.other) (c.in_err-rest.ensures.refused limited)))

pub returns-clause-reads : goal.returns-clause-reads
returns-clause-reads c = λ limited m o condition k done.
    let h = c.in_ok-serial.ensures.reads limited m o condition k done in
    (h.0, h.1, h.2 ∙ ap (λ (ls : List Lexeme). run m (tokens_seen ls) (At (Args o condition k (done ++ h.0) SerialEnd))) (sym c.in_ok-rest.ensures.ok.0))
