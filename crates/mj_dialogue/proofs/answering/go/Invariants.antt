use Rattle.std.proofs.Common.{List, ℕ}
use Rattle.std.specs.Io.KnownBytes.{Appends}
use Rattle.mj_dialogue.specs.Says.{AreMade}
use Rattle.mj_dialogue.proofs.answering.go.Given as goal

-- the steps so far were made, and what was told of them is written
abbrev pub invariant-loop-made : goal.invariant-loop-made
invariant-loop-made g l =
    (told : List ℕ) × AreMade g.O.Opening.opening l.made l.fn.debugger told l.debugger × Appends (g.W.Write.contents l.fn.out) (g.W.Write.contents l.out) told
