use Rattle.std.proofs.Common.{◌≡◌, ◌+◌, ◌-◌, ◌<◌, ◌∙◌, ap, sym, ◌∷◌, reverse, take, length, arith}
use Rattle.mj_machine.proofs.Operands.{replaced, below_twice}
use Rattle.mj_machine.proofs.stack.fold.Goals as goal

pub returns : goal.returns
returns c =
    let n : c.len-kept.result ≡ length c.args.stack.now.items = omega (arith, c.len-kept.ensures, c.args.stack.now.ok.0) in
    let e : c.len-kept.result - 2 ≡ length c.args.stack.now.items - 2 = omega (arith, n) in
    let some : c.len-kept.result - 2 < length c.args.stack.now.items = omega (arith, c.requires, n) in
    let k : c.args.stack.now.len - 1 ≡ c.len-kept.result - 2 + 1 = omega (arith, c.requires, n, c.args.stack.now.ok.0) in
    replaced c.args.stack.now.items c.pop-right.new.self.items 2 (c.len-kept.result - 2) c.args.value e some
    (c.pop-right.ensures.rest ∙ ap (λ m. take m c.args.stack.now.items) k)
    ∙ ap (λ l. c.args.value ∷ l) (sym (below_twice (reverse c.args.stack.now.items)))
