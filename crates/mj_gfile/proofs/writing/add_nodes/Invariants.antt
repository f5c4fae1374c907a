use Rattle.std.proofs.Common.{◌≡◌, ◌++◌, drop}
use Rattle.mj_gfile.specs.Begins.{HasFront}
use Rattle.mj_gfile.specs.Spelling.{listed_lines}
use Rattle.mj_gfile.proofs.writing.add_nodes.Given as goal

abbrev pub invariant-loop-name : goal.invariant-loop-name
invariant-loop-name l = record {
  all : l.bytes.items ++ listed_lines (drop l.name-index l.nodes) ≡ l.fn.bytes.items ++ listed_lines l.nodes;
  kept : HasFront l.fn.bytes.items l.bytes.items;
}
