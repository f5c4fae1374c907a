use Rattle.mj_faulted.specs.Sources.{sources_of}
use Rattle.mj_faulted.proofs.Framing.{below_on}
use Rattle.mj_faulted.proofs.story.put_below.Goals as goal

pub returns-in-len1-up : goal.returns-in-len1-up
returns-in-len1-up c =
    below_on c.put_calls.result c.args.routines.now (sources_of c.args.sources.now) c.args.frames.now c.args.bytes.now.items c.put_calls.new.bytes.items
    c.in-len1-up.len_at_least c.put_calls.ensures
