use Rattle.std.proofs.Common.{ℕ, List, Option, sym, ap, ◌∙◌}
use Rattle.std.specs.FinMap.{find}
use Rattle.std.specs.Map.{lookup}
use Rattle.std.specs.BTreeMap.{is_at}
use Rattle.mj_subs.specs.Collation.{subscript_cmp}
use Rattle.mj_store.specs.Nodes.{subtree}
use Rattle.mj_store.specs.Questions.{Content, Subtree, with_subscripts, value_at, subtree_at}
use Rattle.mj_tree.specs.Nest.{nodes_of}
use Rattle.mj_globs.specs.Words.{spelled}
use Rattle.mj_globs.proofs.Groups.{W, S}
use Rattle.mj_globs.proofs.Both.{subtree_global, subtree_local, value_global, value_local}
use Rattle.mj_globs.proofs.texts.Texts.tree.Goals as goal

-- what stands at a name stands in its word

pub returns-then-is_global-clause-own : goal.returns-then-is_global-clause-own
returns-then-is_global-clause-own c = λ p.
    ap (λ (v : Content). subtree_at v (with_subscripts c.args.name.now p)) (sym c.self.view_is)
    ∙ subtree_global (spelled c.self.inside.globals.entries) (spelled c.self.inside.locals.entries) c.args.name.now (c.if-is_global.ensures) c.self.invariant.0 p
    ∙ ap (λ (w : List ℕ). subtree subscript_cmp p (nodes_of (lookup (is_at (W w)) (spelled c.self.inside.globals.entries)))) (sym c.word.ensures)
    ∙ ap (λ (l : Option Subtree). subtree subscript_cmp p (nodes_of l)) (sym c.find.ensures)

pub returns-then-is_global-clause-value : goal.returns-then-is_global-clause-value
returns-then-is_global-clause-value c =
    ap (λ (v : Content). value_at v c.args.name.now) (sym c.self.view_is)
    ∙ value_global (spelled c.self.inside.globals.entries) (spelled c.self.inside.locals.entries) c.args.name.now (c.if-is_global.ensures) c.self.invariant.0
    ∙ ap (λ (w : List ℕ). find S c.args.name.now.subscripts (nodes_of (lookup (is_at (W w)) (spelled c.self.inside.globals.entries)))) (sym c.word.ensures)
    ∙ ap (λ (l : Option Subtree). find S c.args.name.now.subscripts (nodes_of l)) (sym c.find.ensures)

pub returns-else-is_global-clause-own : goal.returns-else-is_global-clause-own
returns-else-is_global-clause-own c = λ p.
    ap (λ (v : Content). subtree_at v (with_subscripts c.args.name.now p)) (sym c.self.view_is)
    ∙ subtree_local (spelled c.self.inside.globals.entries) (spelled c.self.inside.locals.entries) c.args.name.now (c.if-is_global.ensures) c.self.invariant.1 p
    ∙ ap (λ (w : List ℕ). subtree subscript_cmp p (nodes_of (lookup (is_at (W w)) (spelled c.self.inside.locals.entries)))) (sym c.word-else-is_global.ensures)
    ∙ ap (λ (l : Option Subtree). subtree subscript_cmp p (nodes_of l)) (sym c.find-else-is_global.ensures)

pub returns-else-is_global-clause-value : goal.returns-else-is_global-clause-value
returns-else-is_global-clause-value c =
    ap (λ (v : Content). value_at v c.args.name.now) (sym c.self.view_is)
    ∙ value_local (spelled c.self.inside.globals.entries) (spelled c.self.inside.locals.entries) c.args.name.now (c.if-is_global.ensures) c.self.invariant.1
    ∙ ap (λ (w : List ℕ). find S c.args.name.now.subscripts (nodes_of (lookup (is_at (W w)) (spelled c.self.inside.locals.entries)))) (sym c.word-else-is_global.ensures)
    ∙ ap (λ (l : Option Subtree). find S c.args.name.now.subscripts (nodes_of l)) (sym c.find-else-is_global.ensures)
