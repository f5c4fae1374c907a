use Rattle.std.proofs.Common.{◌≡◌, ◌++◌}
use Rattle.mj_globs.specs.Words.{of_kind, spelled}
use Rattle.mj_globs.proofs.words.gather.Given as goal

-- the names so far and those of the words to come are all
abbrev pub invariant-loop-word : goal.invariant-loop-word
invariant-loop-word l =
    l.nodes.items ++ of_kind l.global (spelled l.word-iterator) ≡ l.fn.nodes.items ++ of_kind l.global (spelled l.initial.word-iterator)
