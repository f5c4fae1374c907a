use Rattle.std.proofs.Common.{◌≡◌, ◌++◌, drop}
use Rattle.mj_pcode.proofs.words.Words.copied.Given as goal

-- the names so far, and those that are left
abbrev pub invariant-loop-word : goal.invariant-loop-word
invariant-loop-word l = l.copy.items ++ drop l.word-index l.words ≡ l.words
