use Rattle.std.proofs.Common.{◌≡◌, ℕ, ◌≤◌, Some, OnErr, sym, ap, ◌∙◌, subst}
use Rattle.std.specs.Prelude.{IfOk, is_some}
use Rattle.std.specs.BTreeMap.{BTreeMap, is_at}
use Rattle.std.specs.FinMap.{find}
use Rattle.std.specs.Map.{lookup}
use Rattle.std.specs.Ordering.{nat_cmp}
use Rattle.mj_subs.specs.Name.{Name}
use Rattle.mj_locktab.specs.Locks.{Locks, hold_of, hold_cmp, names_of, is_past_limit}
use Rattle.mj_locktab.specs.Changes.{one_more}
use Rattle.mj_locktab.specs.Tries.{TakeLeaves}
use Rattle.mj_locktab.specs.Trees.{tally_of, along}
use Rattle.mj_locktab.specs.Told.{Tell, IsFree, Follows, stands_of}
use Rattle.mj_locktab.specs.Parts.{holds_of, held_by, IsPart, AreParts}
use Rattle.mj_locktab.proofs.Parts.{over_part}
use Rattle.mj_locktab.proofs.Refilled.{refilled, part_found, other_key, taken_all, room_there, free_there}
use Rattle.mj_locktab.proofs.held.take.Goals as goal

-- what the job's part asks for
pub take-requires-clause-part : goal.take-requires-clause-part
take-requires-clause-part c =
    let parts = c.args.parts.now.entries in
    subst (IsPart c.args.job) (part_found parts c.args.job (Some c.in-Some.part.now) c.in-Some.ensures.value) (c.requires.parts.each c.args.job)

pub take-requires-clause-within : goal.take-requires-clause-within
take-requires-clause-within c =
    let parts = c.args.parts.now.entries in
    ap (λ (l : Locks). is_past_limit l c.args.job) (sym (part_found parts c.args.job (Some c.in-Some.part.now) c.in-Some.ensures.value))
    ∙ (over_part parts c.args.job c.args.name.now c.requires.parts c.requires.within).0

pub take-requires-clause-room : goal.take-requires-clause-room
take-requires-clause-room c = λ p.
    let parts = c.args.parts.now.entries in
    subst (λ (l : Locks). tally_of (along (stands_of c.args.index.now) c.args.name.now p) c.args.job ≤ names_of l c.args.job)
    (part_found parts c.args.job (Some c.in-Some.part.now) c.in-Some.ensures.value)
    (room_there (stands_of c.args.index.now) parts c.args.job c.args.name.now c.requires.parts c.requires.told p)

pub take-requires-clause-free : goal.take-requires-clause-free
take-requires-clause-free c = λ none.
    let parts = c.args.parts.now.entries in
    free_there (stands_of c.args.index.now) parts c.args.job c.args.name.now c.requires.parts c.requires.told c.requires.free
    (ap (λ (l : Locks). find hold_cmp (hold_of c.args.job c.args.name.now) l) (part_found parts c.args.job (Some c.in-Some.part.now) c.in-Some.ensures.value) ∙ none)

-- what its change is for all holds
pub returns-in-Some : goal.returns-in-Some
returns-in-Some c =
    let parts = c.args.parts.now.entries in
    let new = (c.get_mut.follows.lender c.take.new.part).entries in
    let holds = c.get_mut.follows.holds c.take.new.part in
    let part = held_by c.args.job c.take.new.part.entries in
    let found = part_found parts c.args.job (Some c.in-Some.part.now) c.in-Some.ensures.value in
    let updates = holds.3 (ap (λ o. is_some o) (sym c.in-Some.ensures.value)) in
    let change = refilled parts new c.args.job c.take.new.part updates.1 (λ j other. updates.2 j (other_key c.args.job j other)) in
    let follows = subst (λ (l : Locks). Follows (stands_of c.args.index.now) (stands_of c.take.new.index) l part c.args.job c.args.name.now) (sym found) c.take.ensures.follows in
    let ok = subst (λ (l : Locks). IfOk c.take.result (λ taken. TakeLeaves l (one_more l c.args.job c.args.name.now) c.args.job taken part)) (sym found) c.take.ensures.ok in
    let err = subst (λ (l : Locks). OnErr c.take.result (part ≡ l)) (sym found) c.take.ensures.err in
    let all = taken_all parts new c.args.job c.args.name.now part c.requires.parts change holds.4 (stands_of c.args.index.now) (stands_of c.take.new.index) c.requires.told follows
    c.take.result c.requires.free c.requires.within ok err in
    record { ok = all.0.0; err = all.0.1; parts = all.1.0; told = all.1.1 }

-- a job that isn't told leaves the parts as they are
pub take_first-requires : goal.take_first-requires
take_first-requires c =
    let same = c.get_mut.follows.holds-at-none in record {
      parts = subst (λ (m : BTreeMap ℕ (BTreeMap Name ℕ)). AreParts m.entries) (sym same) c.requires.parts;
      untold = ap (λ (m : BTreeMap ℕ (BTreeMap Name ℕ)). lookup (is_at (nat_cmp c.args.job)) m.entries) same ∙ sym c.in-None.ensures.value;
      within = ap (λ (m : BTreeMap ℕ (BTreeMap Name ℕ)). is_past_limit (holds_of m.entries) c.args.job) same ∙ c.requires.within;
      told = subst (λ (m : BTreeMap ℕ (BTreeMap Name ℕ)). Tell (stands_of c.args.index.now) (holds_of m.entries)) (sym same) c.requires.told;
      free = subst (λ (m : BTreeMap ℕ (BTreeMap Name ℕ)). IsFree (holds_of m.entries) c.args.job c.args.name.now) (sym same) c.requires.free;
    }

pub returns-in-None : goal.returns-in-None
returns-in-None c =
    let same = c.get_mut.follows.holds-at-none in
    let new = holds_of c.take_first.new.parts.entries in record {
      ok = subst (λ (m : BTreeMap ℕ (BTreeMap Name ℕ)). IfOk c.take_first.result (λ taken.
          TakeLeaves (holds_of m.entries) (one_more (holds_of m.entries) c.args.job c.args.name.now) c.args.job taken new)) same c.take_first.ensures.ok;
      err = subst (λ (m : BTreeMap ℕ (BTreeMap Name ℕ)). OnErr c.take_first.result (new ≡ holds_of m.entries)) same c.take_first.ensures.err;
      parts = c.take_first.ensures.parts;
      told = c.take_first.ensures.told;
    }
