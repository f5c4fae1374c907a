use Rattle.std.proofs.Common.{ℕ, ◌+◌, ◌<◌, ◌≤◌, length, Some, None, Result, Ok, Err, OnErr, sym, ap, ◌∙◌, subst, arith}
use Rattle.std.specs.Prelude.{is_some}
use Rattle.std.specs.BTreeMap.{BTreeMap}
use Rattle.std.specs.FinMap.{find}
use Rattle.mj_subs.specs.Name.{Name}
use Rattle.mj_locktab.specs.declared.held.TheConstants.{HOLDS_LIMIT}
use Rattle.mj_locktab.specs.Locks.{hold_of, hold_cmp, names_of}
use Rattle.mj_locktab.specs.Changes.{one_more}
use Rattle.mj_locktab.specs.Told.{Follows, stands_of}
use Rattle.mj_locktab.specs.Parts.{held_by, IsPart}
use Rattle.mj_locktab.proofs.Kept.{count_over, count_more, new_over, new_more}
use Rattle.mj_locktab.proofs.Followed.{follows_alike, follows_again, alike_itself}
use Rattle.mj_locktab.proofs.Parts.{names_own}
use Rattle.mj_locktab.proofs.Named.{length_held, found_of, held_once_more, held_as_it_was}
use Rattle.mj_locktab.proofs.part.take.Goals as goal

-- a name that is held as often as can be
pub returns-then-count-clause-ok : goal.returns-then-count-clause-ok
returns-then-count-clause-ok c =
    let old = c.args.part.now.entries in
    let n = c.args.name.now in
    let count = c.in-Some.count.now in
    let holds = c.get_mut.follows.holds count in
    let updates = holds.3 (ap (λ o. is_some o) (sym c.in-Some.ensures.value)) in (
      held_as_it_was c.args.job n old (c.get_mut.follows.lender count).entries c.requires.part holds.4 count c.in-Some.ensures.value updates.0,
      count_over (held_by c.args.job old) c.args.job n c.requires.part.in_order c.requires.within count (found_of c.args.job n old (Some count) c.in-Some.ensures.value) c.if-count.true,
    )

pub returns-then-count-clause-follows : goal.returns-then-count-clause-follows
returns-then-count-clause-follows c =
    let old = c.args.part.now.entries in
    let n = c.args.name.now in
    let count = c.in-Some.count.now in
    let new = (c.get_mut.follows.lender count).entries in
    let holds = c.get_mut.follows.holds count in
    let updates = holds.3 (ap (λ o. is_some o) (sym c.in-Some.ensures.value)) in
    follows_alike (stands_of c.args.index.now) (stands_of c.args.index.now) (held_by c.args.job old) (held_by c.args.job new) c.args.job n
    (held_as_it_was c.args.job n old new c.requires.part holds.4 count c.in-Some.ensures.value updates.0) (alike_itself (stands_of c.args.index.now))

-- one that is held less often
pub returns-else-count-clause-ok : goal.returns-else-count-clause-ok
returns-else-count-clause-ok c =
    let old = c.args.part.now.entries in
    let n = c.args.name.now in
    let count = c.in-Some.count.now in
    let holds = c.get_mut.follows.holds (count + 1) in
    let updates = holds.3 (ap (λ o. is_some o) (sym c.in-Some.ensures.value)) in (
      held_once_more c.args.job n old (c.get_mut.follows.lender (count + 1)).entries c.requires.part holds.4 count c.in-Some.ensures.value updates.0,
      count_more (held_by c.args.job old) c.args.job n c.requires.part.in_order c.requires.within count (found_of c.args.job n old (Some count) c.in-Some.ensures.value) (omega arith),
    )

pub returns-else-count-clause-follows : goal.returns-else-count-clause-follows
returns-else-count-clause-follows c =
    let old = c.args.part.now.entries in
    let n = c.args.name.now in
    let count = c.in-Some.count.now in
    let new = (c.get_mut.follows.lender (count + 1)).entries in
    let holds = c.get_mut.follows.holds (count + 1) in
    let updates = holds.3 (ap (λ o. is_some o) (sym c.in-Some.ensures.value)) in
    follows_again (stands_of c.args.index.now) (stands_of c.args.index.now) (held_by c.args.job old) (held_by c.args.job new) c.args.job n count
    (found_of c.args.job n old (Some count) c.in-Some.ensures.value)
    (held_once_more c.args.job n old new c.requires.part holds.4 count c.in-Some.ensures.value updates.0) (alike_itself (stands_of c.args.index.now))

-- a new name, where the job holds as many as it may
pub returns-then-len-ge-HOLDS_LIMIT-clause-ok : goal.returns-then-len-ge-HOLDS_LIMIT-clause-ok
returns-then-len-ge-HOLDS_LIMIT-clause-ok c =
    let old = c.args.part.now.entries in
    let held = held_by c.args.job old in
    let same = c.get_mut.follows.holds-at-none in
    let long = ap (λ (m : BTreeMap Name ℕ). length m.entries) same in
    let full : HOLDS_LIMIT ≤ names_of held c.args.job =
    omega (arith, c.if-len-ge-HOLDS_LIMIT.true, c.len.ensures.len, long, length_held c.args.job old, names_own c.args.job held c.requires.part.own) in (
      ap (λ (m : BTreeMap Name ℕ). held_by c.args.job m.entries) same,
      new_over held c.args.job c.args.name.now c.requires.part.in_order c.requires.within (found_of c.args.job c.args.name.now old None c.in-None.ensures.value) full,
    )

pub returns-then-len-ge-HOLDS_LIMIT-clause-follows : goal.returns-then-len-ge-HOLDS_LIMIT-clause-follows
returns-then-len-ge-HOLDS_LIMIT-clause-follows c =
    follows_alike (stands_of c.args.index.now) (stands_of c.args.index.now) (held_by c.args.job c.args.part.now.entries) (held_by c.args.job c.get_mut.follows.lender-at-none.entries)
    c.args.job c.args.name.now (ap (λ (m : BTreeMap Name ℕ). held_by c.args.job m.entries) c.get_mut.follows.holds-at-none) (alike_itself (stands_of c.args.index.now))

-- a new name, where it may hold more
pub add-requires-clause-part : goal.add-requires-clause-part
add-requires-clause-part c = subst (λ (m : BTreeMap Name ℕ). IsPart c.args.job (held_by c.args.job m.entries)) (sym c.get_mut.follows.holds-at-none) c.requires.part

pub add-requires-clause-absent : goal.add-requires-clause-absent
add-requires-clause-absent c =
    ap (λ (m : BTreeMap Name ℕ). find hold_cmp (hold_of c.args.job c.args.name.now) (held_by c.args.job m.entries)) c.get_mut.follows.holds-at-none
    ∙ found_of c.args.job c.args.name.now c.args.part.now.entries None c.in-None.ensures.value

pub add-requires-clause-room : goal.add-requires-clause-room
add-requires-clause-room c = λ p.
    let old = c.args.part.now.entries in
    let long = ap (λ (m : BTreeMap Name ℕ). length m.entries) c.get_mut.follows.holds-at-none in
    omega (arith, c.requires.room p, c.if-len-ge-HOLDS_LIMIT.false, c.len.ensures.len, long, length_held c.args.job old, names_own c.args.job (held_by c.args.job old) c.requires.part.own)

pub add-requires-clause-free : goal.add-requires-clause-free
add-requires-clause-free c = c.requires.free (found_of c.args.job c.args.name.now c.args.part.now.entries None c.in-None.ensures.value)

-- what holds anyhow holds at an error
at_error : {A E P : Type 0} (r : Result A E) → P → OnErr r P
at_error (Ok x) p = tt
at_error (Err e) p = p

pub returns-in_err-add-in-None-clause-err : goal.returns-in_err-add-in-None-clause-err
returns-in_err-add-in-None-clause-err c =
    at_error c.from_residual.result (c.in_err-add-in-None.ensures.err ∙ ap (λ (m : BTreeMap Name ℕ). held_by c.args.job m.entries) c.get_mut.follows.holds-at-none)

pub returns-in_err-add-in-None-clause-follows : goal.returns-in_err-add-in-None-clause-follows
returns-in_err-add-in-None-clause-follows c =
    let part = held_by c.args.job c.add.new.part.entries in
    let P : BTreeMap Name ℕ → Type 0 = λ m. Follows (stands_of c.args.index.now) (stands_of c.add.new.index) (held_by c.args.job m.entries) part c.args.job c.args.name.now in
    subst P c.get_mut.follows.holds-at-none c.add.ensures.follows

pub returns-in_ok-add-in-None-clause-ok : goal.returns-in_ok-add-in-None-clause-ok
returns-in_ok-add-in-None-clause-ok c =
    let old = c.args.part.now.entries in
    let held = held_by c.args.job old in
    let same = c.get_mut.follows.holds-at-none in
    let long = ap (λ (m : BTreeMap Name ℕ). length m.entries) same in
    let room : names_of held c.args.job < HOLDS_LIMIT =
    omega (arith, c.if-len-ge-HOLDS_LIMIT.false, c.len.ensures.len, long, length_held c.args.job old, names_own c.args.job held c.requires.part.own) in (
      c.in_ok-add-in-None.ensures.ok ∙ ap (λ (m : BTreeMap Name ℕ). one_more (held_by c.args.job m.entries) c.args.job c.args.name.now) same,
      new_more held c.args.job c.args.name.now c.requires.part.in_order c.requires.within (found_of c.args.job c.args.name.now old None c.in-None.ensures.value) room,
    )

pub returns-in_ok-add-in-None-clause-follows : goal.returns-in_ok-add-in-None-clause-follows
returns-in_ok-add-in-None-clause-follows c =
    let part = held_by c.args.job c.add.new.part.entries in
    let P : BTreeMap Name ℕ → Type 0 = λ m. Follows (stands_of c.args.index.now) (stands_of c.add.new.index) (held_by c.args.job m.entries) part c.args.job c.args.name.now in
    subst P c.get_mut.follows.holds-at-none c.add.ensures.follows
