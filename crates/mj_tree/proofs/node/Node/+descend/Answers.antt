use Rattle.std.proofs.Common.{sym, ap, ◌∙◌}
use Rattle.mj_subs.specs.Collation.{subscript_cmp}
use Rattle.mj_store.specs.Questions.{Subtree}
use Rattle.mj_tree.specs.Nest.{lead}
use Rattle.mj_tree.specs.Rows.{all_of, places}
use Rattle.mj_tree.proofs.Descents.{led_own, led_none, led_child}
use Rattle.mj_tree.proofs.Laters.{lead_none, lead_some}
use Rattle.mj_tree.proofs.Whole.{seen, own_alone, none_own, none_own_front, ordered_in}
use Rattle.mj_tree.specs.Nest.{weight}
use Rattle.std.proofs.Common.{◌<◌, arith}
use Rattle.mj_tree.proofs.Lighter.{live_lighter}
use Rattle.mj_tree.proofs.node.Node.+descend.Goals as goal

-- the node has a text
pub returns-then-is_some : goal.returns-then-is_some
returns-then-is_some t c = led_own c.self.inside.text (places c.self.inside.children) c.args.self.now c.args.found.now (sym c.if-is_some.ensures) c.self.view_is

pub first-requires : goal.first-requires
first-requires t c = ordered_in c.self.inside.children c.in-Some.children c.deref.result.now c.self.invariant c.in-Some.is c.deref.ensures

-- no text stands below it
pub returns-in-None : goal.returns-in-None
returns-in-None t c =
    led_none c.args.self.now c.args.found.now c.args.found.now
    (ap lead (sym (own_alone c.self.inside.text c.self.inside.children c.args.self.now c.self.view_is c.in-None.is) ∙ none_own c.self.inside.text (sym c.if-is_some.ensures)))

pub returns-in-None-first : goal.returns-in-None-first
returns-in-None-first t c =
    led_none c.args.self.now c.args.found.now c.args.found.now
    (ap lead (sym (seen c.self.inside.text c.self.inside.children c.in-Some.children c.args.self.now (all_of c.deref.result.now) c.self.view_is c.in-Some.is (ap all_of c.deref.ensures))
    ∙ none_own_front c.self.inside.text (all_of c.deref.result.now) (sym c.if-is_some.ensures))
    ∙ lead_none subscript_cmp (all_of c.deref.result.now) c.in-None-first.ensures.1.0)

-- the first is below the first child
pub returns-in_ok-append-in-Some-first : goal.returns-in_ok-append-in-Some-first
returns-in_ok-append-in-Some-first t c =
    led_child c.descend.result c.args.self.now c.in-Some-first.child.now c.in-Some-first.sub.now c.args.found.now c.append.new.list c.descend.new.found
    (ap lead (sym (seen c.self.inside.text c.self.inside.children c.in-Some.children c.args.self.now (all_of c.deref.result.now) c.self.view_is c.in-Some.is (ap all_of c.deref.ensures))
    ∙ none_own_front c.self.inside.text (all_of c.deref.result.now) (sym c.if-is_some.ensures))
    ∙ (lead_some subscript_cmp (all_of c.deref.result.now) (c.in-Some-first.sub, c.in-Some-first.child) c.in-Some-first.ensures.0 c.in-Some-first.ensures.1).1)
    c.in_ok-append-in-Some-first.ensures c.descend.ensures

pub descend-requires : goal.descend-requires
descend-requires t c =
    let small : weight c.in-Some-first.child.now < weight c.args.self.now =
    live_lighter c.self.inside.text (all_of c.deref.result.now) (c.in-Some-first.sub.now, c.in-Some-first.child.now) c.in-Some-first.ensures.0 c.args.self.now
    (seen c.self.inside.text c.self.inside.children c.in-Some.children c.args.self.now (all_of c.deref.result.now) c.self.view_is c.in-Some.is (ap all_of c.deref.ensures))
    c.in-Some-first.ensures.1 in
    (omega (arith, small, c.decreases), tt)
