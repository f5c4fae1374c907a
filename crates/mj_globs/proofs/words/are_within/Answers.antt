use Rattle.std.proofs.Common.{rules, ◌≡◌, sym, ap, ◌∙◌}
use Rattle.mj_globs.specs.Words.{Words, spelled, of_kind}
use Rattle.mj_globs.proofs.Within.{are_entries_within, next_within, next_over}
use Rattle.mj_globs.proofs.words.are_within.Goals as goal

pub returns-then-not-is_within : goal.returns-then-not-is_within
returns-then-not-is_within c g =
    let whole : spelled c.into_iter-tree-iterator.result ≡ spelled c.args.words.now.entries = search rules in
    sym (ap (λ (ks : Words). are_entries_within c.args.limit (of_kind g ks)) (sym whole)
    ∙ c.loop-tree.invariant g
    ∙ next_over c.args.limit g c.in-Some.field-0-0.now.items c.in-Some.tree.now (spelled c.loop-tree.tree-iterator) (spelled c.next.new.self)
    (ap spelled c.in-Some.ensures.steps) (sym c.if-not-is_within.ensures))

pub loop-tree-preserved : goal.loop-tree-preserved
loop-tree-preserved c g =
    c.loop-tree.invariant g
    ∙ next_within c.args.limit g c.in-Some.field-0-0.now.items c.in-Some.tree.now (spelled c.loop-tree.tree-iterator) (spelled c.next.new.self)
    (ap spelled c.in-Some.ensures.steps) (sym c.if-not-is_within.ensures)
