use Rattle.std.proofs.Common.{◌≡◌, ℕ, length, drop, map}
use Rattle.mj_semantics.specs.State.{bound}
use Rattle.mj_locals.specs.Groups.{newest}
use Rattle.mj_locals.specs.Kept.{named}
use Rattle.mj_locals.specs.Trees.{word_at, content}
use Rattle.mj_locals.proofs.news.give.Given as goal

-- what is left to be given leads to all
abbrev pub invariant-loop-index : goal.invariant-loop-index
invariant-loop-index l = record {
  content : bound (drop l.index (map (λ k. k.0) (named l.fn.table (newest l.trail)))) (drop l.index l.fn.values) (content l.table)
      ≡ bound (map (λ k. k.0) (named l.fn.table (newest l.trail))) l.fn.values (content l.fn.table);
  values : drop l.index l.values ≡ drop l.index l.fn.values;
  words : (p : ℕ) → word_at l.table p ≡ word_at l.fn.table p;
  count : length l.table ≡ length l.fn.table;
}
