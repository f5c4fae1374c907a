use Rattle.mj_ast.specs.Commands.{restored_parts, serial_parts}
use Rattle.mj_ast.specs.Trees.{restored_of}
use Rattle.mj_line.specs.Forms.{RestartWanted, RestoredEnd, SerialEnd}
use Rattle.mj_cmd.proofs.Follow.{reads_err, went_then, fails_then}
use Rattle.mj_cmd.proofs.restart.restartable.Goals as goal

pub returns-in_err-restored-clause-reads : goal.returns-in_err-restored-clause-reads
returns-in_err-restored-clause-reads c = λ m o condition k done.
    reads_err c.args.phrases.limited _ _ c.from_residual.result c.in_err-restored.field-0.0 m c.args.tokens.now _ _ c.from_residual.ensures.1
    (c.in_err-restored.ensures.reads m o condition k done)

pub returns-in-Err-clause-reads : goal.returns-in-Err-clause-reads
returns-in-Err-clause-reads c = λ m o condition k done.
    fails_then c.args.phrases.limited (restored_parts (restored_of c.in_ok-restored.restored)) c.in-Err.stop m c.args.tokens.now RestartWanted
    c.in_ok-restored.rest.now RestoredEnd o condition k done (c.in_ok-restored.ensures.reads m o condition k done)
    (λ d. c.in-Err.ensures.reads c.args.phrases.limited m o condition k d)

pub returns-in-Ok-clause-reads : goal.returns-in-Ok-clause-reads
returns-in-Ok-clause-reads c = λ m o condition k done.
    went_then c.args.phrases.limited (restored_parts (restored_of c.in_ok-restored.restored)) (serial_parts c.in-Ok.serial) m c.args.tokens.now RestartWanted
    c.in_ok-restored.rest.now RestoredEnd c.in-Ok.rest.now SerialEnd o condition k done (c.in_ok-restored.ensures.reads m o condition k done)
    (λ d. c.in-Ok.ensures.reads c.args.phrases.limited m o condition k d)
