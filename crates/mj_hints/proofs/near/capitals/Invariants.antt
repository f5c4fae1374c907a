use Rattle.std.proofs.Common.{◌≡◌, map, take}
use Rattle.mj_ast.specs.Commands.{capital}
use Rattle.mj_hints.proofs.near.capitals.Given as goal

abbrev pub invariant-loop-byte : goal.invariant-loop-byte
invariant-loop-byte l = l.capitals.items ≡ map capital (take l.byte-index l.word)
