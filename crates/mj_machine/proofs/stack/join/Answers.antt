use Rattle.std.proofs.Common.{◌≡◌, ◌-◌, ◌∷◌, ◌++◌, length, take, get_or, reverse, ◌∙◌, ap, sym, arith}
use Rattle.mj_pcode.specs.Machine.{top, below}
use Rattle.mj_machine.proofs.Operands.{put_below, in_parts}
use Rattle.mj_machine.proofs.stack.join.Goals as goal

pub returns-clause-ok : goal.returns-clause-ok
returns-clause-ok c =
    let xs = c.args.stack.now.items in
    let front = c.split_at_mut-below.result.0.now in
    let back = c.split_at_mut-below.result.1.now in
    let n : c.len-n.result ≡ length xs = omega (arith, c.len-n.ensures, c.args.stack.now.ok.0) in
    let k : c.len-n.result - 2 ≡ length xs - 2 = omega (arith, n) in
    let is : xs ≡ front ++ back = sym c.deref_mut.ensures.value ∙ c.split_at_mut-below.ensures.value in
    let m : c.len-n.result - 1 ≡ length xs - 1 = omega (arith, n) in
    let cut : front ≡ take (length xs - 1) xs = c.split_at_mut-below.ensures.front ∙ ap (λ j. take j c.deref_mut.result.now) m ∙ ap (take (length xs - 1)) c.deref_mut.ensures.value in
    let both = in_parts xs front back (c.len-n.result - 2) c.index-below-n.result c.index-right-0.result c.requires is cut k in
    c.take_one.ensures
    ∙ put_below xs front back _ (c.len-n.result - 2) c.args.stack.now.len c.append.new.left c.requires is cut k c.args.stack.now.ok.0
    ∙ ap (λ v. v ∷ below (below (reverse xs))) (c.in_ok-append.ensures.ok ∙ ap (λ l. l ++ get_or back 0 c.index-right-0.result) both.0 ∙ ap (λ r. top (below (reverse xs)) ++ r) both.1)
