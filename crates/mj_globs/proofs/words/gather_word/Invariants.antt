use Rattle.std.proofs.Common.{◌≡◌, ◌++◌, drop}
use Rattle.mj_globs.specs.Words.{of_word}
use Rattle.mj_globs.proofs.words.gather_word.Given as goal

-- the names so far and those to come are all
abbrev pub invariant-loop-node : goal.invariant-loop-node
invariant-loop-node l =
    l.nodes.items ++ of_word l.global l.word (drop l.node-index l.node-items) ≡ l.fn.nodes.items ++ of_word l.global l.word l.node-items
