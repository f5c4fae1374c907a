use Rattle.std.proofs.Common.{◌≡◌, length}
use Rattle.mj_locals.specs.Groups.{rest}
use Rattle.mj_locals.specs.Hiding.{HidesOthersTo}
use Rattle.mj_locals.proofs.news.hide_all_but.Given as goal

-- the words of the places so far are hidden, but these
abbrev pub invariant-loop-place : goal.invariant-loop-place
invariant-loop-place l = record {
  hides : HidesOthersTo l.place l.words l.fn.table l.table (rest l.fn.trail) l.trail;
  count : length l.table ≡ length l.fn.table;
}
