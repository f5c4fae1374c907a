use Rattle.std.proofs.Common.{◌≡◌, ℕ, length}
use Rattle.mj_locals.specs.Groups.{newest, rest}
use Rattle.mj_locals.specs.Kept.{named, HavePlaces}
use Rattle.mj_locals.specs.Trees.{word_at}
use Rattle.mj_locals.specs.Hiding.{all_put}
use Rattle.mj_locals.proofs.news.put_back.Given as goal

-- what is left to be put back leads to the same
abbrev pub invariant-loop-place : goal.invariant-loop-place
invariant-loop-place l = record {
  table : all_put (named l.fn.table (newest l.trail)) l.table ≡ all_put (named l.fn.table (newest l.fn.trail)) l.fn.table;
  words : (p : ℕ) → word_at l.table p ≡ word_at l.fn.table p;
  count : length l.table ≡ length l.fn.table;
  places : HavePlaces (length l.fn.table) (newest l.trail);
  rest : rest l.trail ≡ rest l.fn.trail;
}

abbrev pub decreases-loop-place : goal.decreases-loop-place
decreases-loop-place l = length (newest l.trail)
