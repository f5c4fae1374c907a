use Rattle.std.proofs.Common.{◌≡◌, ◌-◌, ◌<◌, length, arith}
use Rattle.mj_machine.proofs.Operands.{replaced}
use Rattle.mj_machine.proofs.stack.replace.Goals as goal

pub returns-then-kept-n-clause-ok : goal.returns-then-kept-n-clause-ok
returns-then-kept-n-clause-ok c =
    let n : c.len-n.result ≡ length c.args.stack.now.items = omega (arith, c.len-n.ensures, c.args.stack.now.ok.0) in
    let e : c.len-n.result - c.args.count ≡ length c.args.stack.now.items - c.args.count = omega (arith, n) in
    let some : c.len-n.result - c.args.count < length c.args.stack.now.items = omega (arith, c.if-kept-n.true, n) in
    replaced c.args.stack.now.items c.truncate.new.self.items c.args.count (c.len-n.result - c.args.count) c.args.value e some c.truncate.ensures.items
