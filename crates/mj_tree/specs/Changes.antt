-- A change at a place of a node.
use Rattle.std.specs.Prelude.{ℕ, List}
use Rattle.std.specs.Cmp.Lexicographic.{slice_cmp}
use Rattle.mj_subs.specs.Collation.{subscript_cmp}
use Rattle.mj_store.specs.Questions.{Subtree}
use Rattle.mj_tree.specs.Nest.{without}
use Rattle.mj_tree.specs.Undo.{restored}
use Rattle.mj_tree.specs.declared.node.Change.{Change}
use Rattle.mj_tree.specs.declared.node.Change.TheVariants.{Kill, Restore}

-- what a change at p leaves of these nodes
abbrev pub changed : Change → List (List ℕ) → Subtree → Subtree
changed Kill p nodes = without subscript_cmp p nodes
changed (Restore text) p nodes = restored (slice_cmp subscript_cmp) p text nodes
