use Rattle.std.proofs.Common.{◌≡◌, ◌++◌, drop}
use Rattle.mj_asm.specs.Code.{names_code}
use Rattle.mj_asm.proofs.emit.emit_names.Given as goal

-- the code so far, and that of what is left
abbrev pub invariant-loop-word : goal.invariant-loop-word
invariant-loop-word l = l.code.items ++ names_code (drop l.word-index l.words) ≡ l.fn.code.items ++ names_code l.words
