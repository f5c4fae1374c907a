use Rattle.std.proofs.Common.{take}
use Rattle.mj_locals.specs.Groups.{rest}
use Rattle.mj_locals.specs.Hiding.{HidesOnly}
use Rattle.mj_locals.proofs.news.hide_words.Given as goal

-- the words so far are hidden
abbrev pub invariant-loop-word : goal.invariant-loop-word
invariant-loop-word l = HidesOnly (take l.word-index l.words) l.fn.table l.table (rest l.fn.trail) l.trail
