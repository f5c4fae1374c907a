use Rattle.std.proofs.Common.{◌≡◌, ◌++◌, ◌+◌, ◌≤◌, length}
use Rattle.mj_ast.specs.Routines.{lines_of}
use Rattle.mj_inspect.specs.Source.{near_lines}
use Rattle.mj_inspect.proofs.source.put_lines.Given as goal

-- the lines that are left are to come, and no more lines than bytes were passed
abbrev pub invariant-lines : goal.invariant-lines
invariant-lines l = record {
  count : l.at + length l.rest ≤ length l.source + 1;
  lines : l.bytes.items ++ near_lines l.number l.at (lines_of l.rest) ≡ l.fn.bytes.items ++ near_lines l.number 1 (lines_of l.source);
}

abbrev pub decreases-lines : goal.decreases-lines
decreases-lines l = length l.rest
