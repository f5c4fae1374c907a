use Rattle.std.proofs.Common.{sym, ap, ◌∙◌}
use Rattle.mj_locals.specs.Trees.{Trees}
use Rattle.mj_locals.specs.Hiding.{all_put}
use Rattle.mj_locals.proofs.At.{all_put_pushed}
use Rattle.mj_locals.proofs.snapshot.Snapshot.put.Goals as goal

pub loop-word-preserved-in-Some : goal.loop-word-preserved-in-Some
loop-word-preserved-in-Some c =
    let left : Trees = c.pop.new.self.items in
    ap (all_put left) c.assign_tree.ensures
    ∙ sym (all_put_pushed left (c.in-Some.word, c.in-Some.tree) c.loop-word.table)
    ∙ ap (λ (ks : Trees). all_put ks c.loop-word.table) (sym c.in-Some.ensures.items)
    ∙ c.loop-word.invariant

pub loop-word-preserved : goal.loop-word-preserved
loop-word-preserved c =
    let left : Trees = c.pop.new.self.items in
    ap (all_put left) c.assign_tree.ensures
    ∙ sym (all_put_pushed left (c.in-Some.word, c.in-Some.tree) c.loop-word.table)
    ∙ ap (λ (ks : Trees). all_put ks c.loop-word.table) (sym c.in-Some.ensures.items)
    ∙ c.loop-word.invariant
