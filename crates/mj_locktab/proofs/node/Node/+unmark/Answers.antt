use Rattle.std.proofs.Common.{◌≡◌, ℕ, ◌-◌, List, [], ◌∷◌, take, drop, length, Option, Some, None, refl, sym, ap, subst}
use Rattle.std.specs.Prelude.{is_some}
use Rattle.std.specs.BTreeMap.{BTreeMap}
use Rattle.mj_subs.specs.Collation.{subscript_cmp}
use Rattle.mj_subs.specs.Laws.Total.{subscript_cmp_total}
use Rattle.mj_subs.specs.Laws.Ties.{bytes_eq-subscript_cmp}
use Rattle.mj_locktab.specs.Trees.{Stand, tallies_of, Stands, Kids, below, paths_eq, is_front, stand_at, HasOneLess}
use Rattle.mj_locktab.proofs.Kids.{written_twice, written_none, less_bare, less_none}
use Rattle.mj_locktab.proofs.Nodes.{less_below, less_here, less_seen, first_and_rest, no_elements}
use Rattle.mj_locktab.proofs.node.Node.+unmark.Goals as goal

pub returns-in_default : goal.returns-in_default
returns-in_default t c =
    let own : Stand = (c.self.inside.holder, tallies_of c.self.inside.tallies) in
    let ks = c.self.inside.children.entries in
    less_seen (([], own) ∷ below ks) c.args.self.now (([], (None, tallies_of c.lower.new.self)) ∷ below ks) [] c.args.path.now c.args.job c.self.view_is
    (no_elements c.args.path.now c.in_default.len_below)
    (less_here own (None, tallies_of c.lower.new.self) ks c.args.job refl c.lower.ensures.less)

pub returns-in_default-get_mut : goal.returns-in_default-get_mut
returns-in_default-get_mut t c =
    let own : Stand = (c.self.inside.holder, tallies_of c.self.inside.tallies) in
    let next : Stand = (c.self.inside.holder, tallies_of c.lower.new.self) in
    let ks = c.self.inside.children.entries in
    let s = c.sub-item.result in
    let rest = take (length c.args.path.now - 1) (drop 1 c.args.path.now) in
    let there = sym c.in_default-get_mut.ensures.value in
    let before : ks ≡ c.get_mut.follows.lender-at-none.entries = sym (ap (λ (m : BTreeMap (List ℕ) Stands). m.entries) c.get_mut.follows.holds-at-none) in
    let told = less_below own next ks ks s rest None None c.self.invariant.0 c.self.invariant.0 there (written_none subscript_cmp subscript_cmp_total bytes_eq-subscript_cmp ks s there) refl
    c.args.job c.lower.ensures.less (less_none (λ p. paths_eq p rest) (λ p. is_front p rest) c.args.job) in
    less_seen (([], own) ∷ below ks) c.args.self.now (([], next) ∷ below c.get_mut.follows.lender-at-none.entries) (s ∷ rest) c.args.path.now c.args.job c.self.view_is
    (first_and_rest c.args.path.now s c.in-len1-up.len_at_least c.sub-item.is)
    (subst (λ (es : Kids). HasOneLess (stand_at (([], own) ∷ below ks)) (stand_at (([], next) ∷ below es)) (λ p. paths_eq p (s ∷ rest)) (λ p. is_front p (s ∷ rest)) c.args.job) before told)

pub returns-then-is_bare : goal.returns-then-is_bare
returns-then-is_bare t c =
    let own : Stand = (c.self.inside.holder, tallies_of c.self.inside.tallies) in
    let next : Stand = (c.self.inside.holder, tallies_of c.lower.new.self) in
    let ks = c.self.inside.children.entries in
    let es = (c.get_mut.follows.lender c.unmark.new.self).entries in
    let s = c.sub-item.result in
    let rest = take (length c.args.path.now - 1) (drop 1 c.args.path.now) in
    let there = sym c.in-Some.ensures.value in
    let holds = c.get_mut.follows.holds c.unmark.new.self in
    let written = (holds.3 (ap (λ (o : Option Stands). is_some o) there)).0 in
    let both = written_twice subscript_cmp subscript_cmp_total bytes_eq-subscript_cmp ks es c.remove.new.children.entries s (Some c.unmark.new.self) None written c.remove.ensures.written in
    let told = less_below own next ks c.remove.new.children.entries s rest (Some c.in-Some.child.now) None c.self.invariant.0 c.remove.ensures.ordered there both refl c.args.job c.lower.ensures.less
    (less_bare (λ p. paths_eq p rest) (λ p. is_front p rest) c.args.job (Some c.in-Some.child.now) c.unmark.new.self (c.if-is_bare.ensures.0 refl) c.unmark.ensures) in
    less_seen (([], own) ∷ below ks) c.args.self.now (([], next) ∷ below c.remove.new.children.entries) (s ∷ rest) c.args.path.now c.args.job c.self.view_is
    (first_and_rest c.args.path.now s c.in-len1-up.len_at_least c.sub-item.is) told

pub returns-else-is_bare : goal.returns-else-is_bare
returns-else-is_bare t c =
    let own : Stand = (c.self.inside.holder, tallies_of c.self.inside.tallies) in
    let next : Stand = (c.self.inside.holder, tallies_of c.lower.new.self) in
    let ks = c.self.inside.children.entries in
    let es = (c.get_mut.follows.lender c.unmark.new.self).entries in
    let s = c.sub-item.result in
    let rest = take (length c.args.path.now - 1) (drop 1 c.args.path.now) in
    let there = sym c.in-Some.ensures.value in
    let holds = c.get_mut.follows.holds c.unmark.new.self in
    let written = (holds.3 (ap (λ (o : Option Stands). is_some o) there)).0 in
    let told = less_below own next ks es s rest (Some c.in-Some.child.now) (Some c.unmark.new.self) c.self.invariant.0 holds.4 there written refl c.args.job c.lower.ensures.less c.unmark.ensures in
    less_seen (([], own) ∷ below ks) c.args.self.now (([], next) ∷ below es) (s ∷ rest) c.args.path.now c.args.job c.self.view_is
    (first_and_rest c.args.path.now s c.in-len1-up.len_at_least c.sub-item.is) told
