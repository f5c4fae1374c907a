use Rattle.mj_begin.proofs.Content.{can_be_written, texts_within}
use Rattle.mj_begin.proofs.listings.listed.Goals as goal

pub returns-in-Ok-clause-content : goal.returns-in-Ok-clause-content
returns-in-Ok-clause-content g c = can_be_written c.args.limit c.deref.result.now c.in-Ok.globals.content c.in-Ok.ensures.lists

pub returns-in-Ok-clause-within : goal.returns-in-Ok-clause-within
returns-in-Ok-clause-within g c = texts_within c.args.limit c.deref.result.now c.in-Ok.globals.content c.in-Ok.ensures.lists
