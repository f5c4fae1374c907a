use Rattle.std.proofs.Common.{◌≡◌, ◌++◌, drop}
use Rattle.mj_inspect.specs.Shows.{node_lines}
use Rattle.mj_inspect.proofs.printing.found_lines.Given as goal

-- the lines of those that are left are to come
abbrev pub invariant-loop-node : goal.invariant-loop-node
invariant-loop-node l = l.bytes.items ++ node_lines (drop l.node-index l.nodes) l.fn.name ≡ node_lines l.fn.nodes l.fn.name
