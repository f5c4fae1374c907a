use Rattle.mj_faulted.specs.Sources.{sources_of}
use Rattle.mj_faulted.specs.Walks.{lent}
use Rattle.mj_faulted.proofs.Telling.{adds_text}
use Rattle.mj_faulted.proofs.told.put_fault.Goals as goal

pub returns : goal.returns
returns c =
    adds_text c.args.image.now (sources_of c.args.sources.now) c.args.start.now (lent c.args.replies.now) c.args.job c.args.fault c.args.bytes.now.items
    c.put_found.new.bytes.items c.put_found.result c.in_ok-begun.begun c.in_ok-found.found c.entry.result.now c.in_ok-begun.ensures.job
    c.in_ok-begun.ensures.entry c.in_ok-begun.ensures.values c.entry.ensures c.in_ok-found.ensures c.put_found.ensures
