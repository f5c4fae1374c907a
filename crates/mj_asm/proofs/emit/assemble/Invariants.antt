use Rattle.std.proofs.Common.{◌≡◌, ◌+◌, [], ◌++◌, drop, length, map}
use Rattle.mj_ast.specs.Trees.{line_of, routine_of}
use Rattle.mj_asm.specs.Code.{lines_code}
use Rattle.mj_asm.specs.Correct as correct
use Rattle.mj_asm.proofs.Heads.{heads_of}
use Rattle.mj_asm.proofs.emit.assemble.Given as goal

-- what was made so far, and what is left to make
abbrev pub invariant-loop-line : goal.invariant-loop-line
invariant-loop-line l = record {
  name : l.unit.name ≡ l.fn.routine.name;
  number : l.number ≡ l.line-index;
  instrs :
      l.unit.instrs.items ++ lines_code (length l.unit.instrs.items) (correct.line_of (routine_of l.fn.routine) (l.number + 1)) (map line_of (drop l.line-index l.line-items))
      ≡ lines_code 0 (correct.line_of (routine_of l.fn.routine) 1) (map line_of l.line-items);
  heads :
      l.unit.heads.items ++ heads_of (length l.unit.instrs.items) (correct.line_of (routine_of l.fn.routine) (l.number + 1)) (map line_of (drop l.line-index l.line-items))
      ≡ heads_of 0 (correct.line_of (routine_of l.fn.routine) 1) (map line_of l.line-items);
  labels :
      correct.with_labels l.unit.labels (l.number + 1) (map line_of (drop l.line-index l.line-items))
      ≡ correct.with_labels [] 1 (map line_of l.line-items);
}
