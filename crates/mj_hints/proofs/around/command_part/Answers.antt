use Rattle.mj_hints.proofs.Bytes.{command_taken}
use Rattle.mj_hints.proofs.around.command_part.Goals as goal

pub returns : goal.returns
returns c = command_taken c.args.part.now c.dots-skipped.result c.before_colon-count.result c.dots-skipped.ensures.value c.before_colon-count.ensures.value
