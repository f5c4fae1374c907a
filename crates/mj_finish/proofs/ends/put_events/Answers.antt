use Rattle.std.proofs.Common.{[], ◌∷◌, ◌++◌, decimal, codes}
use Rattle.mj_finish.proofs.Joined.{both_ended}
use Rattle.mj_finish.proofs.ends.put_events.Goals as goal

pub returns : goal.returns
returns c = both_ended c.args.bytes.now.items (codes "    there are " ++ decimal c.args.most)
    (codes " events, as many as there may be; `--events` allows more; these jobs haven't ended:") (10 ∷ [])
    c.put_numbered.new.bytes.items c.extend_from_slice.new.self.items c.in_ok-put_numbered.ensures c.in_ok-extend_from_slice.ensures.items
