-- A subscript and its mark are an item.
use Rattle.std.proofs.Common.{Some, None}
use Rattle.mj_gfile.specs.Reading.{subscript_at}
use Rattle.mj_gfile.proofs.Joined.{item_read}
use Rattle.mj_gfile.proofs.name.read_item.Goals as goal

pub returns : goal.returns
returns c =
    item_read c.args.limit c.in-Some.sub c.in-Some.tail.now (subscript_at c.args.bytes.now) (Some (c.in-Some-read_mark.more, c.in-Some-read_mark.rest.now)) (rw c.in-Some.is at c.in_ok-sub.ensures)
    (rw c.in-Some-read_mark.is at c.read_mark.ensures)

pub returns-in_default-read_mark : goal.returns-in_default-read_mark
returns-in_default-read_mark c =
    item_read c.args.limit c.in-Some.sub c.in-Some.tail.now (subscript_at c.args.bytes.now) None (rw c.in-Some.is at c.in_ok-sub.ensures) (rw c.in_default-read_mark.is at c.read_mark.ensures)
