use Rattle.std.proofs.Common.{rules, ◌≡◌, ℕ, ◌-◌, ◌<◌, List, [], ◌∷◌, take, drop, length, Option, Some, None, refl, sym, ap, ◌∙◌, subst, arith}
use Rattle.std.specs.Prelude.{is_some}
use Rattle.std.specs.List.Sorted.{IsStrictlySortedBy}
use Rattle.std.specs.Map.{keys_of}
use Rattle.std.specs.BTreeMap.{BTreeMap}
use Rattle.mj_subs.specs.Collation.{subscript_cmp}
use Rattle.mj_locktab.specs.declared.held.TheConstants.{HOLDS_LIMIT}
use Rattle.mj_locktab.specs.Trees.{Stand, tallies_of, Stands, Kids, below, stand_at, stand_in, tally, tally_of, paths_eq, is_front, AreAlike, IsWritten}
use Rattle.mj_locktab.proofs.Nodes.{stand-below, more_here, more_below, alike_below, more_seen, first_and_rest, no_elements}
use Rattle.mj_locktab.proofs.Bare.{more_told, alike_bare, none_bare_written, one_told}
use Rattle.mj_locktab.proofs.node.Node.+mark.Goals as goal

pub raise-requires : goal.raise-requires
raise-requires t c =
    let few : tally_of (stand_at (([], (c.self.inside.holder, tallies_of c.self.inside.tallies)) ∷ below c.self.inside.children.entries) []) c.args.job < HOLDS_LIMIT =
    subst (λ (v : Stands). tally_of (stand_at v []) c.args.job < HOLDS_LIMIT) (sym c.self.view_is) (c.requires []) in
    let low : tally (tallies_of c.self.inside.tallies) c.args.job < 1024 = few in
    omega (arith, low)

pub returns-in_default-clause-ok : goal.returns-in_default-clause-ok
returns-in_default-clause-ok t c =
    let own : Stand = (c.self.inside.holder, tallies_of c.self.inside.tallies) in
    let next : Stand = (Some c.args.job, tallies_of c.raise.new.self) in
    let ks = c.self.inside.children.entries in
    more_seen (([], own) ∷ below ks) c.args.self.now (([], next) ∷ below ks) [] c.args.path.now c.args.job c.self.view_is (no_elements c.args.path.now c.in_default.len_below)
    (more_here own next ks c.args.job refl c.in_ok-raise.ensures.ok)

pub returns-in_default-get_mut-clause-ok : goal.returns-in_default-get_mut-clause-ok
returns-in_default-get_mut-clause-ok t c =
    let own : Stand = (c.self.inside.holder, tallies_of c.self.inside.tallies) in
    let next : Stand = (c.self.inside.holder, tallies_of c.raise.new.self) in
    let ks = c.self.inside.children.entries in
    let new = c.grow.new.children.entries in
    let s = c.sub-item.result in
    let rest = take (length c.args.path.now - 1) (drop 1 c.args.path.now) in
    let before : c.get_mut.follows.lender-at-none.entries ≡ ks = ap (λ (m : BTreeMap (List ℕ) Stands). m.entries) c.get_mut.follows.holds-at-none in
    let grown = c.in_default-grow.ensures.ok in
    let written = subst (λ (es : Kids). IsWritten subscript_cmp es new s (Some grown.child)) before grown.written in
    let rises = c.in_default-grow.ensures.ordered (subst (λ (es : Kids). IsStrictlySortedBy subscript_cmp (keys_of es)) (sym before) c.self.invariant.0) in
    more_seen (([], own) ∷ below ks) c.args.self.now (([], next) ∷ below new) (s ∷ rest) c.args.path.now c.args.job c.self.view_is
    (first_and_rest c.args.path.now s c.in-len1-up.len_at_least c.sub-item.is)
    (more_below own next ks new s rest None (Some grown.child) c.self.invariant.0 rises (sym c.in_default-get_mut.ensures.value) written refl c.args.job c.in_ok-raise.ensures.ok grown.holds)

pub mark-requires : goal.mark-requires
mark-requires t c =
    let ks = c.self.inside.children.entries in
    let s = c.sub-item.result in (
      search rules,
      λ p.
          let place : stand_at c.args.self.now (s ∷ p) ≡ stand_at c.in-Some.child.now p =
          ap (λ (v : Stands). stand_at v (s ∷ p)) (sym c.self.view_is) ∙ stand-below ks s p c.self.invariant.0 ∙ ap (λ (o : Option Stands). stand_in o p) (sym c.in-Some.ensures.value) in
          subst (λ (o : Option Stand). tally_of o c.args.job < HOLDS_LIMIT) place (c.requires (s ∷ p)),
    )

pub returns-in-Err-mark-clause-err : goal.returns-in-Err-mark-clause-err
returns-in-Err-mark-clause-err t c =
    let own : Stand = (c.self.inside.holder, tallies_of c.self.inside.tallies) in
    let next : Stand = (c.self.inside.holder, tallies_of c.lower-in-Err-mark.new.self) in
    let ks = c.self.inside.children.entries in
    let es = (c.get_mut.follows.lender c.mark.new.self).entries in
    let s = c.sub-item.result in
    let rest = take (length c.args.path.now - 1) (drop 1 c.args.path.now) in
    let there = sym c.in-Some.ensures.value in
    let holds = c.get_mut.follows.holds c.mark.new.self in
    let written = (holds.3 (ap (λ (o : Option Stands). is_some o) there)).0 in
    let told : (j : ℕ) → tally (tallies_of c.lower-in-Err-mark.new.self) j ≡ tally (tallies_of c.self.inside.tallies) j =
    λ j. omega (arith, c.lower-in-Err-mark.ensures.less j, c.in_ok-raise.ensures.ok j) in
    subst (λ (v : Stands). AreAlike (stand_at v) (stand_at (([], next) ∷ below es))) c.self.view_is
    (alike_below own next ks es s rest (Some c.in-Some.child.now) (Some c.mark.new.self) c.self.invariant.0 holds.4 there written refl told c.in-Err-mark.ensures.err)

pub returns-clause-ok : goal.returns-clause-ok
returns-clause-ok t c =
    let own : Stand = (c.self.inside.holder, tallies_of c.self.inside.tallies) in
    let next : Stand = (c.self.inside.holder, tallies_of c.raise.new.self) in
    let ks = c.self.inside.children.entries in
    let es = (c.get_mut.follows.lender c.mark.new.self).entries in
    let s = c.sub-item.result in
    let rest = take (length c.args.path.now - 1) (drop 1 c.args.path.now) in
    let there = sym c.in-Some.ensures.value in
    let holds = c.get_mut.follows.holds c.mark.new.self in
    let written = (holds.3 (ap (λ (o : Option Stands). is_some o) there)).0 in
    more_seen (([], own) ∷ below ks) c.args.self.now (([], next) ∷ below es) (s ∷ rest) c.args.path.now c.args.job c.self.view_is
    (first_and_rest c.args.path.now s c.in-len1-up.len_at_least c.sub-item.is)
    (more_below own next ks es s rest (Some c.in-Some.child.now) (Some c.mark.new.self) c.self.invariant.0 holds.4 there written refl c.args.job c.in_ok-raise.ensures.ok c.in_default-mark.ensures.ok)

pub invariant_of-self-in_default-grow : goal.invariant_of-self-in_default-grow
invariant_of-self-in_default-grow t c =
    let ks = c.self.inside.children.entries in
    let new = c.grow.new.children.entries in
    let s = c.sub-item.result in
    let rest = take (length c.args.path.now - 1) (drop 1 c.args.path.now) in
    let before : c.get_mut.follows.lender-at-none.entries ≡ ks = ap (λ (m : BTreeMap (List ℕ) Stands). m.entries) c.get_mut.follows.holds-at-none in
    let grown = c.in_default-grow.ensures.ok in
    let written = subst (λ (es : Kids). IsWritten subscript_cmp es new s (Some grown.child)) before grown.written in (
      c.in_default-grow.ensures.ordered (subst (λ (es : Kids). IsStrictlySortedBy subscript_cmp (keys_of es)) (sym before) c.self.invariant.0),
      c.raise.ensures.counted c.self.invariant.1,
      none_bare_written subscript_cmp ks new s (Some grown.child) c.self.invariant.2 written
          (one_told grown.child (more_told grown.child (λ p. None) (λ p. paths_eq p rest) (λ p. is_front p rest) c.args.job refl grown.holds)),
    )

pub invariant_of-self-in-Err-mark : goal.invariant_of-self-in-Err-mark
invariant_of-self-in-Err-mark t c =
    let ks = c.self.inside.children.entries in
    let es = (c.get_mut.follows.lender c.mark.new.self).entries in
    let s = c.sub-item.result in
    let there = sym c.in-Some.ensures.value in
    let holds = c.get_mut.follows.holds c.mark.new.self in
    let written = (holds.3 (ap (λ (o : Option Stands). is_some o) there)).0 in (
      holds.4,
      c.lower-in-Err-mark.ensures.counted (c.raise.ensures.counted c.self.invariant.1),
      none_bare_written subscript_cmp ks es s (Some c.mark.new.self) c.self.invariant.2 written
          (one_told c.mark.new.self (λ bare. c.self.invariant.2 s c.in-Some.child.now there (alike_bare c.in-Some.child.now c.mark.new.self c.in-Err-mark.ensures.err bare))),
    )

pub invariant_of-self-in_default-mark : goal.invariant_of-self-in_default-mark
invariant_of-self-in_default-mark t c =
    let ks = c.self.inside.children.entries in
    let es = (c.get_mut.follows.lender c.mark.new.self).entries in
    let s = c.sub-item.result in
    let rest = take (length c.args.path.now - 1) (drop 1 c.args.path.now) in
    let there = sym c.in-Some.ensures.value in
    let holds = c.get_mut.follows.holds c.mark.new.self in
    let written = (holds.3 (ap (λ (o : Option Stands). is_some o) there)).0 in (
      holds.4,
      c.raise.ensures.counted c.self.invariant.1,
      none_bare_written subscript_cmp ks es s (Some c.mark.new.self) c.self.invariant.2 written
          (one_told c.mark.new.self (more_told c.mark.new.self (stand_at c.in-Some.child.now) (λ p. paths_eq p rest) (λ p. is_front p rest) c.args.job refl c.in_default-mark.ensures.ok)),
    )
