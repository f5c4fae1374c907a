use Rattle.std.proofs.Common.{◌-◌, Option, take, drop, length, sym, ap, ◌∙◌}
use Rattle.std.specs.Map.{lookup}
use Rattle.std.specs.BTreeMap.{is_at}
use Rattle.mj_subs.specs.Collation.{subscript_cmp}
use Rattle.mj_subs.specs.Laws.Total.{subscript_cmp_total}
use Rattle.mj_subs.specs.Laws.Ties.{subscript_cmp-IsAntisymmetric}
use Rattle.mj_store.specs.Questions.{Subtree}
use Rattle.mj_tree.specs.Nest.{nodes_of, lead, later}
use Rattle.mj_tree.specs.Rows.{live, all_of, places}
use Rattle.mj_tree.proofs.Nest.{no_elements}
use Rattle.mj_tree.proofs.Laters.{turn_aside, turn_deeper, turn_none, turn_some, turn_nowhere}
use Rattle.mj_tree.proofs.Whole.{seen, places_rise, ordered_in}
use Rattle.mj_tree.proofs.node.Node.+turn.Goals as goal

pub first-requires : goal.first-requires
first-requires t c = ordered_in c.self.inside.children c.in-Some.children c.deref.result.now c.self.invariant c.in-Some.is c.deref.ensures

pub get-requires : goal.get-requires
get-requires t c = ordered_in c.self.inside.children c.in-Some-children.children c.deref-in-Some-children.result.now c.self.invariant c.in-Some-children.is c.deref-in-Some-children.ensures

-- below the node itself
pub returns-in-None : goal.returns-in-None
returns-in-None t c =
    turn_none subscript_cmp c.args.path.now c.args.self.now c.self.inside.text (places c.self.inside.children) (no_elements c.args.path.now c.in-empty.len_below) c.self.view_is
    (ap (λ cs. live (places cs)) c.in-None.is)

pub returns-in-None-first : goal.returns-in-None-first
returns-in-None-first t c =
    turn_none subscript_cmp c.args.path.now c.args.self.now c.self.inside.text (all_of c.deref.result.now) (no_elements c.args.path.now c.in-empty.len_below)
    (seen c.self.inside.text c.self.inside.children c.in-Some.children c.args.self.now (all_of c.deref.result.now) c.self.view_is c.in-Some.is (ap all_of c.deref.ensures))
    c.in-None-first.ensures.1.0

pub returns-in-Some-first : goal.returns-in-Some-first
returns-in-Some-first t c =
    turn_some subscript_cmp c.args.path.now c.args.self.now c.self.inside.text (all_of c.deref.result.now) (c.in-Some-first.sub, c.in-Some-first.child) c.in-Some-first.ensures.0
    (no_elements c.args.path.now c.in-empty.len_below)
    (seen c.self.inside.text c.self.inside.children c.in-Some.children c.args.self.now (all_of c.deref.result.now) c.self.view_is c.in-Some.is (ap all_of c.deref.ensures))
    c.in-Some-first.ensures.1

-- below a child, or beside it
pub returns-in-None-children : goal.returns-in-None-children
returns-in-None-children t c =
    turn_nowhere subscript_cmp subscript_cmp_total subscript_cmp-IsAntisymmetric c.args.path.now c.sub-item.result c.in-len1-up.len_at_least c.sub-item.is c.args.self.now c.self.inside.text
    (places c.self.inside.children) c.self.view_is (places_rise c.self.inside.children c.self.invariant) (ap (λ cs. places cs) c.in-None-children.is)

pub returns-in-None-get : goal.returns-in-None-get
returns-in-None-get t c =
    turn_aside subscript_cmp subscript_cmp_total subscript_cmp-IsAntisymmetric c.args.path.now c.sub-item.result c.in-len1-up.len_at_least c.sub-item.is c.args.self.now c.self.inside.text
    (all_of c.deref-in-None-get.result.now)
    (seen c.self.inside.text c.self.inside.children c.in-Some-children.children c.args.self.now (all_of c.deref-in-None-get.result.now) c.self.view_is c.in-Some-children.is
    (ap all_of c.deref-in-None-get.ensures))
    (ordered_in c.self.inside.children c.in-Some-children.children c.deref-in-None-get.result.now c.self.invariant c.in-Some-children.is c.deref-in-None-get.ensures).rises c.aside.result
    (ap (λ (l : Option Subtree). lead (later subscript_cmp (take (length c.args.path.now - 1) (drop 1 c.args.path.now)) (nodes_of l)))
    (sym (c.in-None-get.ensures
    ∙ ap (λ d. lookup (is_at (subscript_cmp c.sub-item.result)) (all_of d)) (c.deref-in-Some-children.ensures ∙ sym c.deref-in-None-get.ensures))))
    c.aside.ensures

pub returns-in-None-turn : goal.returns-in-None-turn
returns-in-None-turn t c =
    turn_aside subscript_cmp subscript_cmp_total subscript_cmp-IsAntisymmetric c.args.path.now c.sub-item.result c.in-len1-up.len_at_least c.sub-item.is c.args.self.now c.self.inside.text
    (all_of c.deref-in-None-turn.result.now)
    (seen c.self.inside.text c.self.inside.children c.in-Some-children.children c.args.self.now (all_of c.deref-in-None-turn.result.now) c.self.view_is c.in-Some-children.is
    (ap all_of c.deref-in-None-turn.ensures))
    (ordered_in c.self.inside.children c.in-Some-children.children c.deref-in-None-turn.result.now c.self.invariant c.in-Some-children.is c.deref-in-None-turn.ensures).rises
    c.aside-in-None-turn.result
    (ap (λ (l : Option Subtree). lead (later subscript_cmp (take (length c.args.path.now - 1) (drop 1 c.args.path.now)) (nodes_of l)))
    (sym (c.in-Some-get.ensures
    ∙ ap (λ d. lookup (is_at (subscript_cmp c.sub-item.result)) (all_of d)) (c.deref-in-Some-children.ensures ∙ sym c.deref-in-None-turn.ensures)))
    ∙ c.in-None-turn.ensures)
    c.aside-in-None-turn.ensures

pub returns-in-Some-turn : goal.returns-in-Some-turn
returns-in-Some-turn t c =
    turn_deeper subscript_cmp subscript_cmp_total subscript_cmp-IsAntisymmetric c.args.path.now c.sub-item.result c.in-len1-up.len_at_least c.sub-item.is c.args.self.now c.self.inside.text
    (all_of c.deref-in-Some-children.result.now)
    (seen c.self.inside.text c.self.inside.children c.in-Some-children.children c.args.self.now (all_of c.deref-in-Some-children.result.now) c.self.view_is c.in-Some-children.is
    (ap all_of c.deref-in-Some-children.ensures))
    (ordered_in c.self.inside.children c.in-Some-children.children c.deref-in-Some-children.result.now c.self.invariant c.in-Some-children.is c.deref-in-Some-children.ensures).rises
    c.in-Some-get.child.now c.in-Some-turn.below.now c.in-Some-turn.kept c.in-Some-turn.next.now (sym c.in-Some-get.ensures) c.in-Some-turn.ensures.0 c.in-Some-turn.ensures.1
    c.in-Some-turn.ensures.2

pub aside-requires : goal.aside-requires
aside-requires t c = ordered_in c.self.inside.children c.in-Some-children.children c.deref-in-None-get.result.now c.self.invariant c.in-Some-children.is c.deref-in-None-get.ensures

pub aside-requires-in-None-turn : goal.aside-requires-in-None-turn
aside-requires-in-None-turn t c = ordered_in c.self.inside.children c.in-Some-children.children c.deref-in-None-turn.result.now c.self.invariant c.in-Some-children.is c.deref-in-None-turn.ensures
