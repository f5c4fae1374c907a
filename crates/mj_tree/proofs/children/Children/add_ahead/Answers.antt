use Rattle.std.proofs.Common.{refl, sym, ap, ◌∙◌, subst, ℕ, List, ◌++◌}
use Rattle.std.specs.BTreeMap.{insert_entry}
use Rattle.mj_subs.specs.Collation.{subscript_cmp}
use Rattle.mj_store.specs.Questions.{Subtree}
use Rattle.mj_tree.specs.Rows.{IsOrdered, live}
use Rattle.mj_tree.proofs.Added.{adds_from, adds_one, sound_same, can_spilled, none_before}
use Rattle.mj_tree.proofs.Written.{adds_stopped}
use Rattle.mj_tree.proofs.children.Children.add_ahead.Goals as goal

-- the row goes to the others, and then the child does
pub returns-in_err-spill-in-None : goal.returns-in_err-spill-in-None
returns-in_err-spill-in-None c =
    adds_stopped c.from_residual.result c.args.self.now c.spill.new.self c.args.sub.now c.args.child c.from_residual.ensures.0 c.spill.ensures.sound c.spill.ensures.same

pub add_other-requires-clause-can : goal.add_other-requires-clause-can
add_other-requires-clause-can c =
    can_spilled c.args.self.now c.spill.new.self c.args.sub.now c.args.child c.requires.can c.spill.ensures.sound c.spill.ensures.same c.in_ok-spill-in-None.ensures.kept

pub add_other-requires-clause-behind : goal.add_other-requires-clause-behind
add_other-requires-clause-behind c = none_before c.args.sub.now c.spill.new.self.row.items c.in_ok-spill-in-None.ensures.kept

pub returns-in_ok-spill-in-None : goal.returns-in_ok-spill-in-None
returns-in_ok-spill-in-None c =
    adds_from c.add_other.result c.args.self.now c.spill.new.self c.add_other.new.self c.args.sub.now c.args.child c.spill.ensures.same c.add_other.ensures

-- nothing was added
pub returns-in_err-sub-in-Some : goal.returns-in_err-sub-in-Some
returns-in_err-sub-in-Some c =
    adds_stopped c.from_residual-in_err-sub-in-Some.result c.args.self.now c.args.self.now c.args.sub.now c.args.child c.from_residual-in_err-sub-in-Some.ensures.0 c.requires.can.sound refl

pub returns-in_err-reserve-in-Some : goal.returns-in_err-reserve-in-Some
returns-in_err-reserve-in-Some c =
    adds_stopped c.from_residual-in_err-reserve-in-Some.result c.args.self.now (record { row = c.reserve.new.self; others = c.args.self.now.others }) c.args.sub.now c.args.child
    c.from_residual-in_err-reserve-in-Some.ensures.0 (sound_same c.args.self.now (record { row = c.reserve.new.self; others = c.args.self.now.others }) c.reserve.ensures.items
    refl c.requires.can.sound)
    (ap (λ (row : List (List ℕ × Subtree)). live (row ++ c.args.self.now.others.entries)) c.reserve.ensures.items)

-- there is room
pub grow_ahead-requires-clause-ordered : goal.grow_ahead-requires-clause-ordered
grow_ahead-requires-clause-ordered c =
    subst (λ (row : List (List ℕ × Subtree)). IsOrdered row c.args.self.now.others.entries) (sym c.reserve.ensures.items) c.requires.can.sound.0

pub grow_ahead-requires-clause-number : goal.grow_ahead-requires-clause-number
grow_ahead-requires-clause-number c = rw c.in_ok-sub-in-Some.ensures c.in-Some.ensures.ahead.0

pub grow_ahead-requires-clause-ahead : goal.grow_ahead-requires-clause-ahead
grow_ahead-requires-clause-ahead c = rw c.reserve.ensures.items c.in-Some.ensures.ahead.1

pub returns-in_ok-reserve-in-Some : goal.returns-in_ok-reserve-in-Some
returns-in_ok-reserve-in-Some c =
    adds_one _ c.args.self.now c.grow_ahead.new.self c.args.sub.now c.args.child c.grow_ahead.ensures.sound
    (c.grow_ahead.ensures.added
    ∙ (λ i. insert_entry subscript_cmp (live (c.reserve.ensures.items i ++ c.args.self.now.others.entries)) (c.in_ok-sub-in-Some.ensures i) c.args.child))
