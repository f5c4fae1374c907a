use Rattle.std.proofs.Common.{◌≡◌, ℕ, List, ◌∷◌, Option, Some, None, sym, ap, ◌∙◌}
use Rattle.std.specs.Prelude.{MatchOption, option_copied}
use Rattle.std.specs.Map.{lookup}
use Rattle.std.specs.BTreeMap.{is_at}
use Rattle.mj_subs.specs.Collation.{subscript_cmp}
use Rattle.mj_locktab.specs.Trees.{Stands, stand_at, stand_in}
use Rattle.mj_locktab.proofs.Nodes.{stand-below}
use Rattle.mj_locktab.proofs.node.Node.down.Goals as goal

pub returns-clause-child : goal.returns-clause-child
returns-clause-child c =
    let ks = c.self.inside.children.entries in
    let s = c.args.sub.now in
    let place : (p : List (List ℕ)) → stand_at c.args.self.now (s ∷ p) ≡ stand_in (lookup (is_at (subscript_cmp s)) ks) p =
    λ p. ap (λ (v : Stands). stand_at v (s ∷ p)) (sym c.self.view_is) ∙ stand-below ks s p c.self.invariant.0 in
    elim c.get.result as (λ r. option_copied r ≡ lookup (is_at (subscript_cmp s)) ks
    → MatchOption r ((p : List (List ℕ)) → stand_at c.args.self.now (s ∷ p) ≡ None) (λ child. (p : List (List ℕ)) → stand_at c.args.self.now (s ∷ p) ≡ stand_at child.now p)) [
      | None ↦ λ e p. place p ∙ ap (λ (o : Option Stands). stand_in o p) (sym e)
      | Some child ↦ λ e p. place p ∙ ap (λ (o : Option Stands). stand_in o p) (sym e)
    ] c.get.ensures.value
