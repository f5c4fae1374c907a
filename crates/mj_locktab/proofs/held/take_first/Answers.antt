use Rattle.std.proofs.Common.{◌≡◌, ◌≤◌, Some, OnErr, sym, ap, ◌∙◌, subst}
use Rattle.std.specs.Prelude.{IfOk, is_some}
use Rattle.std.specs.FinMap.{find}
use Rattle.mj_locktab.specs.Locks.{Locks, hold_of, hold_cmp, names_of, is_past_limit}
use Rattle.mj_locktab.specs.Changes.{one_more}
use Rattle.mj_locktab.specs.Tries.{TakeLeaves}
use Rattle.mj_locktab.specs.Trees.{tally_of, along}
use Rattle.mj_locktab.specs.Told.{Tell, IsFree, Follows, stands_of}
use Rattle.mj_locktab.specs.Parts.{holds_of, held_by, IsPart}
use Rattle.mj_locktab.proofs.Parts.{over_part}
use Rattle.mj_locktab.proofs.Refilled.{refilled, part_found, other_key, taken_all, room_there, free_there}
use Rattle.mj_locktab.proofs.held.take_first.Goals as goal

-- what the job's part asks for
pub take-requires-clause-part : goal.take-requires-clause-part
take-requires-clause-part c =
    let parts = c.open.new.parts.entries in
    subst (IsPart c.args.job) (part_found parts c.args.job (Some c.in-Some.part.now) c.in-Some.ensures.value) (c.open.ensures.parts.each c.args.job)

pub take-requires-clause-within : goal.take-requires-clause-within
take-requires-clause-within c =
    let parts = c.open.new.parts.entries in
    let within = ap (λ (l : Locks). is_past_limit l c.args.job) c.open.ensures.same ∙ c.requires.within in
    ap (λ (l : Locks). is_past_limit l c.args.job) (sym (part_found parts c.args.job (Some c.in-Some.part.now) c.in-Some.ensures.value))
    ∙ (over_part parts c.args.job c.args.name.now c.open.ensures.parts within).0

pub take-requires-clause-room : goal.take-requires-clause-room
take-requires-clause-room c = λ p.
    let parts = c.open.new.parts.entries in
    let told = subst (Tell (stands_of c.args.index.now)) (sym c.open.ensures.same) c.requires.told in
    subst (λ (l : Locks). tally_of (along (stands_of c.args.index.now) c.args.name.now p) c.args.job ≤ names_of l c.args.job)
    (part_found parts c.args.job (Some c.in-Some.part.now) c.in-Some.ensures.value) (room_there (stands_of c.args.index.now) parts c.args.job c.args.name.now c.open.ensures.parts told p)

pub take-requires-clause-free : goal.take-requires-clause-free
take-requires-clause-free c = λ none.
    let parts = c.open.new.parts.entries in
    let told = subst (Tell (stands_of c.args.index.now)) (sym c.open.ensures.same) c.requires.told in
    let free = subst (λ (l : Locks). IsFree l c.args.job c.args.name.now) (sym c.open.ensures.same) c.requires.free in
    free_there (stands_of c.args.index.now) parts c.args.job c.args.name.now c.open.ensures.parts told free
    (ap (λ (l : Locks). find hold_cmp (hold_of c.args.job c.args.name.now) l) (part_found parts c.args.job (Some c.in-Some.part.now) c.in-Some.ensures.value) ∙ none)

-- what its change is for all holds
pub returns-in-Some : goal.returns-in-Some
returns-in-Some c =
    let parts = c.open.new.parts.entries in
    let new = (c.get_mut.follows.lender c.take.new.part).entries in
    let holds = c.get_mut.follows.holds c.take.new.part in
    let found = part_found parts c.args.job (Some c.in-Some.part.now) c.in-Some.ensures.value in
    let updates = holds.3 (ap (λ o. is_some o) (sym c.in-Some.ensures.value)) in
    let change = refilled parts new c.args.job c.take.new.part updates.1 (λ j other. updates.2 j (other_key c.args.job j other)) in
    let told = subst (Tell (stands_of c.args.index.now)) (sym c.open.ensures.same) c.requires.told in
    let free = subst (λ (l : Locks). IsFree l c.args.job c.args.name.now) (sym c.open.ensures.same) c.requires.free in
    let within = ap (λ (l : Locks). is_past_limit l c.args.job) c.open.ensures.same ∙ c.requires.within in
    let part = held_by c.args.job c.take.new.part.entries in
    let F : Locks → Type 0 = λ l. Follows (stands_of c.args.index.now) (stands_of c.take.new.index) l part c.args.job c.args.name.now in
    let T : Locks → Type 0 = λ l. IfOk c.take.result (λ taken. TakeLeaves l (one_more l c.args.job c.args.name.now) c.args.job taken part) in
    let follows = subst F (sym found) c.take.ensures.follows in
    let ok = subst T (sym found) c.take.ensures.ok in
    let err = subst (λ (l : Locks). OnErr c.take.result (part ≡ l)) (sym found) c.take.ensures.err in
    let all = taken_all parts new c.args.job c.args.name.now part c.open.ensures.parts change holds.4
    (stands_of c.args.index.now) (stands_of c.take.new.index) told follows c.take.result free within ok err in
    record {
      ok = subst (λ (l : Locks). IfOk c.take.result (λ taken. TakeLeaves l (one_more l c.args.job c.args.name.now) c.args.job taken (holds_of new))) c.open.ensures.same all.0.0;
      err = subst (λ (l : Locks). OnErr c.take.result (holds_of new ≡ l)) c.open.ensures.same all.0.1;
      parts = all.1.0;
      told = all.1.1;
    }
