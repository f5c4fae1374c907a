use Rattle.std.proofs.Common.{option_map, map}
use Rattle.mj_ast.specs.Commands.{column_parts, mark_part}
use Rattle.mj_ast.specs.Trees.{expr_of}
use Rattle.mj_line.specs.Forms.{OutputWanted, OutputEnd}
use Rattle.mj_cmd.proofs.Follow.{reads_err, memory_refuses, room_for, went_then, fails_then}
use Rattle.mj_cmd.proofs.Layouts.{went_front}
use Rattle.mj_cmd.proofs.layout.layout.Goals as goal

pub returns-in_err-marks-clause-reads : goal.returns-in_err-marks-clause-reads
returns-in_err-marks-clause-reads c = λ m r talk o condition k done.
    reads_err c.args.phrases.limited _ _ c.from_residual.result c.in_err-marks.field-0.0 m c.args.tokens.now _ _ c.from_residual.ensures.1
    (memory_refuses c.args.phrases.limited c.in_err-marks.field-0.0 _ c.in_err-marks.ensures.memory)

pub returns-in-Err-clause-reads : goal.returns-in-Err-clause-reads
returns-in-Err-clause-reads c = λ m r talk o condition k done.
    let w = went_front c.args.phrases.limited talk m c.args.tokens.now c.in_ok-marks.rest.now c.in_ok-marks.marks.items c.requires c.in_ok-marks.ensures.marks c.in_ok-marks.ensures.none in
    fails_then c.args.phrases.limited (map mark_part c.in_ok-marks.marks.items) c.in-Err.stop m c.args.tokens.now (OutputWanted talk) c.in_ok-marks.rest.now w.0
    o condition k done (w.2 o condition k done)
    (λ d. c.in-Err.ensures.reads m (room_for c.args.phrases.limited m c.args.tokens.now c.in_ok-marks.rest.now c.in_ok-marks.ensures.shorter r) talk w.0 w.1 o condition k d)

pub returns-in-Ok-clause-reads : goal.returns-in-Ok-clause-reads
returns-in-Ok-clause-reads c = λ m r talk o condition k done.
    let w = went_front c.args.phrases.limited talk m c.args.tokens.now c.in_ok-marks.rest.now c.in_ok-marks.marks.items c.requires c.in_ok-marks.ensures.marks c.in_ok-marks.ensures.none in
    went_then c.args.phrases.limited (map mark_part c.in_ok-marks.marks.items) (column_parts (option_map expr_of c.in-Ok.column)) m c.args.tokens.now
    (OutputWanted talk) c.in_ok-marks.rest.now w.0 c.in-Ok.rest.now (OutputEnd talk) o condition k done (w.2 o condition k done)
    (λ d. c.in-Ok.ensures.reads m (room_for c.args.phrases.limited m c.args.tokens.now c.in_ok-marks.rest.now c.in_ok-marks.ensures.shorter r) talk w.0 w.1 o condition k d)
