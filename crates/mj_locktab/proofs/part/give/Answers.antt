use Rattle.std.proofs.Common.{ℕ, ◌-◌, ◌≤◌, cond, Option, Some, None, sym, ap, ◌∙◌, arith}
use Rattle.std.specs.Prelude.{is_some}
use Rattle.std.specs.BTreeMap.{BTreeMap, is_at}
use Rattle.mj_subs.specs.Name.{Name}
use Rattle.mj_subs.specs.Collation.{name_cmp}
use Rattle.mj_locktab.specs.Told.{stands_of}
use Rattle.mj_locktab.specs.Parts.{held_by}
use Rattle.mj_locktab.proofs.Followed.{follows_alike, follows_less, follows_gone, alike_itself}
use Rattle.mj_locktab.proofs.Named.{absent_less, found_of, held_once_less, held_no_more, written_last}
use Rattle.mj_locktab.proofs.part.give.Goals as goal

-- a name that isn't held
pub returns-in_default-clause-after : goal.returns-in_default-clause-after
returns-in_default-clause-after c =
    let old = c.args.part.now.entries in
    ap (λ (m : BTreeMap Name ℕ). held_by c.args.job m.entries) c.get_mut.follows.holds-at-none
    ∙ absent_less (held_by c.args.job old) c.args.job c.args.name.now (found_of c.args.job c.args.name.now old None c.in_default.ensures.value)

pub returns-in_default-clause-follows : goal.returns-in_default-clause-follows
returns-in_default-clause-follows c =
    follows_alike (stands_of c.args.index.now) (stands_of c.args.index.now) (held_by c.args.job c.args.part.now.entries) (held_by c.args.job c.get_mut.follows.lender-at-none.entries)
    c.args.job c.args.name.now (ap (λ (m : BTreeMap Name ℕ). held_by c.args.job m.entries) c.get_mut.follows.holds-at-none) (alike_itself (stands_of c.args.index.now))

-- one that is held more than once
pub returns-then-count-gt1-clause-after : goal.returns-then-count-gt1-clause-after
returns-then-count-gt1-clause-after c =
    let old = c.args.part.now.entries in
    let less = c.in-Some.count.now - 1 in
    let holds = c.get_mut.follows.holds less in
    let updates = holds.3 (ap (λ o. is_some o) (sym c.in-Some.ensures.value)) in
    held_once_less c.args.job c.args.name.now old (c.get_mut.follows.lender less).entries c.requires holds.4 c.in-Some.count.now c.in-Some.ensures.value c.if-count-gt1.true updates.0

pub returns-then-count-gt1-clause-follows : goal.returns-then-count-gt1-clause-follows
returns-then-count-gt1-clause-follows c =
    let old = c.args.part.now.entries in
    let less = c.in-Some.count.now - 1 in
    let new = (c.get_mut.follows.lender less).entries in
    let holds = c.get_mut.follows.holds less in
    let updates = holds.3 (ap (λ o. is_some o) (sym c.in-Some.ensures.value)) in
    follows_less (stands_of c.args.index.now) (stands_of c.args.index.now) (held_by c.args.job old) (held_by c.args.job new) c.args.job c.args.name.now c.in-Some.count.now
    (found_of c.args.job c.args.name.now old (Some c.in-Some.count.now) c.in-Some.ensures.value) c.if-count-gt1.true
    (held_once_less c.args.job c.args.name.now old new c.requires holds.4 c.in-Some.count.now c.in-Some.ensures.value c.if-count-gt1.true updates.0) (alike_itself (stands_of c.args.index.now))

-- one that is held once
pub returns-else-count-gt1-clause-after : goal.returns-else-count-gt1-clause-after
returns-else-count-gt1-clause-after c =
    let old = c.args.part.now.entries in
    let n = c.args.name.now in
    let count = c.in-Some.count.now in
    let updates = (c.get_mut.follows.holds count).3 (ap (λ o. is_some o) (sym c.in-Some.ensures.value)) in
    held_no_more c.args.job n old c.remove-gone.new.self.entries c.requires c.remove-gone.ensures.ordered count c.in-Some.ensures.value (omega (arith, c.if-count-gt1.false))
    (λ m. c.remove-gone.ensures.updates.0 m ∙ ap (λ (o : Option ℕ). cond (is_at (name_cmp n) m) None o) (updates.0 m) ∙ written_last (is_at (name_cmp n) m) None (Some count) _)

pub returns-else-count-gt1-clause-follows : goal.returns-else-count-gt1-clause-follows
returns-else-count-gt1-clause-follows c =
    let old = c.args.part.now.entries in
    let n = c.args.name.now in
    let count = c.in-Some.count.now in
    let updates = (c.get_mut.follows.holds count).3 (ap (λ o. is_some o) (sym c.in-Some.ensures.value)) in
    let few : c.in-Some.count.now ≤ 1 = omega (arith, c.if-count-gt1.false) in
    let less =
    held_no_more c.args.job n old c.remove-gone.new.self.entries c.requires c.remove-gone.ensures.ordered count c.in-Some.ensures.value few
    (λ m. c.remove-gone.ensures.updates.0 m ∙ ap (λ (o : Option ℕ). cond (is_at (name_cmp n) m) None o) (updates.0 m) ∙ written_last (is_at (name_cmp n) m) None (Some count) _) in
    follows_gone (stands_of c.args.index.now) (stands_of c.unmark.new.self) (held_by c.args.job old) (held_by c.args.job c.remove-gone.new.self.entries) c.args.job n count
    (found_of c.args.job n old (Some count) c.in-Some.ensures.value) few less c.unmark.ensures
