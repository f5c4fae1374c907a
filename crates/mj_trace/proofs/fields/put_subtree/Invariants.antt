use Rattle.std.proofs.Common.{◌≡◌, ◌++◌, drop}
use Rattle.std.specs.List.{list_all}
use Rattle.mj_gfile.specs.Begins.{HasFront}
use Rattle.mj_trace.specs.Spelling.{rest_of_nodes}
use Rattle.mj_trace.specs.Sized.{node_fits}
use Rattle.mj_trace.proofs.fields.put_subtree.Given as goal

abbrev pub invariant-loop-node : goal.invariant-loop-node
invariant-loop-node l = record {
  all : l.bytes.items ++ rest_of_nodes (drop l.node-index l.rest) ≡ l.initial.bytes.items ++ rest_of_nodes l.rest;
  kept : HasFront l.fn.bytes.items l.bytes.items;
  fits : list_all node_fits (drop l.node-index l.rest) ≡ list_all node_fits l.rest;
}
