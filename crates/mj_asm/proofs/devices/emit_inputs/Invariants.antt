use Rattle.std.proofs.Common.{◌≡◌, ◌++◌, length, drop, map}
use Rattle.mj_ast.specs.Trees.{input_of}
use Rattle.mj_asm.specs.Code.{inputs_code}
use Rattle.mj_asm.proofs.devices.emit_inputs.Given as goal

-- the code so far, and that of what is left
abbrev pub invariant-loop-input : goal.invariant-loop-input
invariant-loop-input l =
    l.code.items ++ inputs_code (length l.code.items) (map input_of (drop l.input-index l.list))
    ≡ l.fn.code.items ++ inputs_code (length l.fn.code.items) (map input_of l.list)
