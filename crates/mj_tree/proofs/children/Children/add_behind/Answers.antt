use Rattle.std.proofs.Common.{refl, sym, ap, ◌∙◌, subst, ℕ, List, ◌++◌}
use Rattle.std.specs.Prelude.{T}
use Rattle.std.specs.FinMap.Entries.{below_all}
use Rattle.std.specs.BTreeMap.{insert_entry}
use Rattle.mj_subs.specs.Collation.{subscript_cmp}
use Rattle.mj_store.specs.Questions.{Subtree}
use Rattle.mj_tree.specs.Rows.{live}
use Rattle.mj_tree.proofs.Added.{adds_one, sound_same}
use Rattle.mj_tree.proofs.Written.{adds_stopped}
use Rattle.mj_tree.proofs.children.Children.add_behind.Goals as goal

-- nothing was added
pub returns-in_err-sub-in-Some : goal.returns-in_err-sub-in-Some
returns-in_err-sub-in-Some c = adds_stopped c.from_residual.result c.args.self.now c.args.self.now c.args.sub.now c.args.child c.from_residual.ensures.0 c.requires.can.sound refl

pub returns-in_err-reserve-in-Some : goal.returns-in_err-reserve-in-Some
returns-in_err-reserve-in-Some c =
    adds_stopped c.from_residual-in_err-reserve-in-Some.result c.args.self.now (record { row = c.reserve.new.self; others = c.args.self.now.others }) c.args.sub.now c.args.child
    c.from_residual-in_err-reserve-in-Some.ensures.0 (sound_same c.args.self.now (record { row = c.reserve.new.self; others = c.args.self.now.others }) c.reserve.ensures.items
    refl c.requires.can.sound)
    (ap (λ (row : List (List ℕ × Subtree)). live (row ++ c.args.self.now.others.entries)) c.reserve.ensures.items)

-- there is room
pub grow_behind-requires-clause-sound : goal.grow_behind-requires-clause-sound
grow_behind-requires-clause-sound c =
    sound_same c.args.self.now (record { row = c.reserve.new.self; others = c.args.self.now.others }) c.reserve.ensures.items refl c.requires.can.sound

pub grow_behind-requires-clause-number : goal.grow_behind-requires-clause-number
grow_behind-requires-clause-number c = rw c.in_ok-sub-in-Some.ensures c.in-Some.ensures.end.0

pub grow_behind-requires-clause-end : goal.grow_behind-requires-clause-end
grow_behind-requires-clause-end c = rw c.reserve.ensures.items c.in-Some.ensures.end.1

pub grow_behind-requires-clause-others : goal.grow_behind-requires-clause-others
grow_behind-requires-clause-others c = subst (λ s. T (below_all subscript_cmp s c.args.self.now.others.entries)) (sym c.in_ok-sub-in-Some.ensures) c.in-Some.ensures.end.2

pub returns-in_ok-reserve-in-Some : goal.returns-in_ok-reserve-in-Some
returns-in_ok-reserve-in-Some c =
    adds_one _ c.args.self.now c.grow_behind.new.self c.args.sub.now c.args.child c.grow_behind.ensures.sound
    (c.grow_behind.ensures.added
    ∙ (λ i. insert_entry subscript_cmp (live (c.reserve.ensures.items i ++ c.args.self.now.others.entries)) (c.in_ok-sub-in-Some.ensures i) c.args.child))
