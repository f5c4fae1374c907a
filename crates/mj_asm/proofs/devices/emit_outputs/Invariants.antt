use Rattle.std.proofs.Common.{◌≡◌, ◌++◌, length, drop, map}
use Rattle.mj_ast.specs.Trees.{output_of}
use Rattle.mj_asm.specs.Code.{outputs_code}
use Rattle.mj_asm.proofs.devices.emit_outputs.Given as goal

-- the code so far, and that of what is left
abbrev pub invariant-loop-output : goal.invariant-loop-output
invariant-loop-output l =
    l.code.items ++ outputs_code (length l.code.items) (map output_of (drop l.output-index l.outputs))
    ≡ l.fn.code.items ++ outputs_code (length l.fn.code.items) (map output_of l.outputs)
