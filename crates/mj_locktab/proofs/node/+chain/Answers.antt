use Rattle.std.proofs.Common.{◌≡◌, ℕ, ◌-◌, List, [], ◌∷◌, take, drop, length, Some, None, refl, sym, ap, subst, arith}
use Rattle.std.specs.Map.{lookup}
use Rattle.std.specs.BTreeMap.{is_at}
use Rattle.mj_subs.specs.Collation.{subscript_cmp}
use Rattle.mj_locktab.specs.Trees.{Stand, Kids, below, paths_eq, is_front, stand_at, HasOneMore}
use Rattle.mj_locktab.proofs.Kids.{more_after_alike}
use Rattle.mj_locktab.proofs.Bare.{more_told, none_bare_written, one_told, none_in_none}
use Rattle.mj_locktab.proofs.Tallies.{raised_none, counted_alone}
use Rattle.mj_locktab.proofs.Nodes.{more_here, more_below, bare_with, first_and_rest, no_elements}
use Rattle.mj_locktab.proofs.node.+chain.Goals as goal

pub returns-in-empty : goal.returns-in-empty
returns-in-empty t c =
    let own : Stand = (None, []) in
    let next : Stand = (Some c.args.job, (c.args.job, 1) ∷ []) in
    let ks = c.new-children.result.entries in
    let told = more_after_alike (λ p. None) (stand_at (([], own) ∷ below ks)) (stand_at (([], next) ∷ below ks)) (λ p. paths_eq p []) (λ p. is_front p []) c.args.job
    (bare_with [] ks refl c.new-children.ensures.empty) (more_here own next ks c.args.job refl (raised_none c.args.job)) in
    subst (λ (q : List (List ℕ)). HasOneMore (λ p. None) (stand_at (([], next) ∷ below ks)) (λ p. paths_eq p q) (λ p. is_front p q) c.args.job)
    (sym (no_elements c.args.path.now c.in-empty.len_below)) told

pub returns-in_ok-add-in-len1-up : goal.returns-in_ok-add-in-len1-up
returns-in_ok-add-in-len1-up t c =
    let own : Stand = (None, []) in
    let next : Stand = (None, (c.args.job, 1) ∷ []) in
    let ks = c.new-children.result.entries in
    let new = c.add.new.children.entries in
    let s = c.sub-item.result in
    let rest = take (length c.args.path.now - 1) (drop 1 c.args.path.now) in
    let added = c.in_ok-add-in-len1-up.ensures in
    let there : lookup (is_at (subscript_cmp s)) ks ≡ None = ap (λ (es : Kids). lookup (is_at (subscript_cmp s)) es) c.new-children.ensures.empty in
    let more = more_below own next ks new s rest None (Some c.in_ok-chain-in-len1-up.field-0) c.new-children.ensures.ordered (added.ordered c.new-children.ensures.ordered) there added.written refl
    c.args.job (raised_none c.args.job) c.in_ok-chain-in-len1-up.ensures in
    let told = more_after_alike (λ p. None) (stand_at (([], own) ∷ below ks)) (stand_at (([], next) ∷ below new)) (λ p. paths_eq p (s ∷ rest)) (λ p. is_front p (s ∷ rest)) c.args.job
    (bare_with [] ks refl c.new-children.ensures.empty) more in
    subst (λ (q : List (List ℕ)). HasOneMore (λ p. None) (stand_at (([], next) ∷ below new)) (λ p. paths_eq p q) (λ p. is_front p q) c.args.job)
    (sym (first_and_rest c.args.path.now s c.in-len1-up.len_at_least c.sub-item.is)) told

pub invariant_of-result-in-len1-up : goal.invariant_of-result-in-len1-up
invariant_of-result-in-len1-up t c =
    let ks = c.new-children.result.entries in
    let rest = take (length c.args.path.now - 1) (drop 1 c.args.path.now) in
    let child = c.in_ok-chain-in-len1-up.field-0 in
    let added = c.in_ok-add-in-len1-up.ensures in (
      added.ordered c.new-children.ensures.ordered,
      counted_alone c.args.job 1 (omega arith),
      none_bare_written subscript_cmp ks c.add.new.children.entries c.sub-item.result (Some child) (none_in_none subscript_cmp ks c.new-children.ensures.empty) added.written
          (one_told child (more_told child (λ p. None) (λ p. paths_eq p rest) (λ p. is_front p rest) c.args.job refl c.in_ok-chain-in-len1-up.ensures)),
    )
