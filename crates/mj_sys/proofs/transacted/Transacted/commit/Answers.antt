use Rattle.mj_sys.proofs.Passing.{open_on, rows_on}
use Rattle.mj_sys.proofs.transacted.Transacted.commit.Goals as goal

pub commit-told-requires : goal.commit-told-requires
commit-told-requires c = (c.take_out-own.ensures.open c.self.inside.globals c.self.invariant).0

pub invariant_of-self : goal.invariant_of-self
invariant_of-self c =
    let i = c.self.inside in
    let out = c.take_out-own in
    let m = c.commit-told in
    rows_on i.globals m.new.globals out.new.logs.items c.rises.ensures c.rises-2.ensures m.ensures.stamps (out.ensures.open i.globals c.self.invariant).1

pub invariant_of-self-in-Err : goal.invariant_of-self-in-Err
invariant_of-self-in-Err c =
    let i = c.self.inside in
    let out = c.take_out-own in
    let m = c.commit-told in
    let were = out.ensures.open i.globals c.self.invariant in
    c.put_back.ensures.open m.new.globals
    (open_on i.globals m.new.globals out.result c.rises.ensures c.rises-2.ensures m.ensures.stamps were.0)
    (rows_on i.globals m.new.globals out.new.logs.items c.rises.ensures c.rises-2.ensures m.ensures.stamps were.1)
