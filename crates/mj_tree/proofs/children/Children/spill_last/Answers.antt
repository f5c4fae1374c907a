use Rattle.std.proofs.Common.{◌≡◌, true, false, Some, refl, sym, ◌∙◌}
use Rattle.mj_tree.proofs.Shrunk.{back_taken, spilled_one, spilled_none}
use Rattle.mj_tree.proofs.children.Children.spill_last.Goals as goal

-- the last place held nothing
pub returns-then-is_empty-clause-sound : goal.returns-then-is_empty-clause-sound
returns-then-is_empty-clause-sound c =
    (back_taken c.args.self.now.row.items c.pop_back.new.self.items c.args.self.now.others.entries (Some (c.in-Some.sub, c.in-Some.child)) (c.in-Some.sub, c.in-Some.child) c.requires.0 c.requires.1
    c.in-Some.ensures.items refl (c.if-is_empty.ensures.0 refl)).0

pub returns-then-is_empty-clause-same : goal.returns-then-is_empty-clause-same
returns-then-is_empty-clause-same c =
    (back_taken c.args.self.now.row.items c.pop_back.new.self.items c.args.self.now.others.entries (Some (c.in-Some.sub, c.in-Some.child)) (c.in-Some.sub, c.in-Some.child) c.requires.0 c.requires.1
    c.in-Some.ensures.items refl (c.if-is_empty.ensures.0 refl)).1

-- it went to the others
pub returns-in-Ok-clause-sound : goal.returns-in-Ok-clause-sound
returns-in-Ok-clause-sound c =
    (spilled_one c.args.self.now.row.items c.pop_back.new.self.items c.args.self.now.others.entries c.insert.new.self.entries c.in-Some.sub c.in-Some.child c.requires.0 c.requires.1
    c.in-Some.ensures.items (λ e. let f : false ≡ true = c.if-is_empty.ensures.1 e in absurd cc) c.in-Ok.ensures.entries).0

pub returns-in-Ok-clause-same : goal.returns-in-Ok-clause-same
returns-in-Ok-clause-same c =
    (spilled_one c.args.self.now.row.items c.pop_back.new.self.items c.args.self.now.others.entries c.insert.new.self.entries c.in-Some.sub c.in-Some.child c.requires.0 c.requires.1
    c.in-Some.ensures.items (λ e. let f : false ≡ true = c.if-is_empty.ensures.1 e in absurd cc) c.in-Ok.ensures.entries).1

-- it came back
pub returns-clause-sound : goal.returns-clause-sound
returns-clause-sound c =
    (spilled_none c.args.self.now.row.items c.pop_back.new.self.items c.push_back_reserved.new.self.items c.args.self.now.others.entries c.insert.new.self.entries (c.in-Some.sub, c.in-Some.child)
    c.in-Err.refused.value c.requires.0 c.requires.1 c.in-Some.ensures.items c.push_back_reserved.ensures.items c.in-Err.ensures.value_returned c.in-Err.ensures.err).0

pub returns-clause-same : goal.returns-clause-same
returns-clause-same c =
    (spilled_none c.args.self.now.row.items c.pop_back.new.self.items c.push_back_reserved.new.self.items c.args.self.now.others.entries c.insert.new.self.entries (c.in-Some.sub, c.in-Some.child)
    c.in-Err.refused.value c.requires.0 c.requires.1 c.in-Some.ensures.items c.push_back_reserved.ensures.items c.in-Err.ensures.value_returned c.in-Err.ensures.err).1
