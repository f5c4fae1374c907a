-- How nodes are kept, and which list they are.
use Rattle.std.specs.Prelude.{[]}
use Rattle.std.specs.Arc.{arc_value}
use Rattle.mj_store.specs.Questions.{Subtree}
use Rattle.mj_store.specs.declared.nodes.Kept.{Kept}
use Rattle.mj_store.specs.declared.nodes.Kept.TheVariants.{Empty, Shared}

-- the nodes, each by its subscripts
abbrev pub nodes_of : Kept → Subtree
nodes_of Empty = []
nodes_of (Shared list) = (arc_value list).items
