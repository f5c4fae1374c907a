use Rattle.std.specs.Prelude.{codes, decimal}
use Rattle.mj_faulted.proofs.Pieces.{three_put}
use Rattle.mj_faulted.proofs.story.put_more.Goals as goal

pub returns : goal.returns
returns c =
    three_put c.put-2.result c.args.bytes.now.items (codes "  and ") (decimal c.args.count) (codes " more\n") c.put.new.bytes.items
    c.put_number.new.bytes.items c.put-2.new.bytes.items c.in_ok-put.ensures c.in_ok-put_number.ensures c.put-2.ensures
