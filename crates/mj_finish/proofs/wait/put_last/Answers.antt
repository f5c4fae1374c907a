use Rattle.std.proofs.Common.{◌++◌, decimal, codes}
use Rattle.std.specs.Option.{option_map}
use Rattle.mj_finish.specs.Printed.{at_line}
use Rattle.mj_finish.proofs.Joined.{both}
use Rattle.mj_finish.proofs.wait.put_last.Goals as goal

pub returns : goal.returns
returns c = both c.args.bytes.now.items (codes "    job " ++ decimal c.args.job) (at_line (codes " asked last at ") (option_map (λ p. (p.0.now, p.1)) c.args.place))
    c.put_numbered.new.bytes.items c.put_at.new.bytes.items c.in_ok-put_numbered.ensures c.in_ok-put_at.ensures
