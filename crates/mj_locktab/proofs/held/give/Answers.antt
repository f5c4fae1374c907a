use Rattle.std.proofs.Common.{Some, None, sym, ap, ◌∙◌, subst}
use Rattle.std.specs.Prelude.{is_some}
use Rattle.mj_locktab.specs.Locks.{Locks}
use Rattle.mj_locktab.specs.Changes.{one_less}
use Rattle.mj_locktab.specs.Told.{Follows, stands_of}
use Rattle.mj_locktab.specs.Parts.{holds_of, held_by, IsPart}
use Rattle.mj_locktab.proofs.Refilled.{refilled, part_found, other_key, given_all, given_none}
use Rattle.mj_locktab.proofs.held.give.Goals as goal

-- a job without a part holds nothing
pub returns-in_default-clause-after : goal.returns-in_default-clause-after
returns-in_default-clause-after c =
    let parts = c.args.parts.now.entries in
    ap (λ m. holds_of m.entries) c.get_mut.follows.holds-at-none
    ∙ given_none parts c.args.job c.args.name.now c.requires.parts (part_found parts c.args.job None c.in_default.ensures.value)

pub give-requires : goal.give-requires
give-requires c =
    let parts = c.args.parts.now.entries in
    subst (IsPart c.args.job) (part_found parts c.args.job (Some c.in-Some.part.now) c.in-Some.ensures.value) (c.requires.parts.each c.args.job)

pub returns : goal.returns
returns c =
    let parts = c.args.parts.now.entries in
    let new = (c.get_mut.follows.lender c.give.new.part).entries in
    let holds = c.get_mut.follows.holds c.give.new.part in
    let found = part_found parts c.args.job (Some c.in-Some.part.now) c.in-Some.ensures.value in
    let updates = holds.3 (ap (λ o. is_some o) (sym c.in-Some.ensures.value)) in
    let change = refilled parts new c.args.job c.give.new.part updates.1 (λ j other. updates.2 j (other_key c.args.job j other)) in
    let part = held_by c.args.job c.give.new.part.entries in
    let P : Locks → Type 0 = λ l. Follows (stands_of c.args.index.now) (stands_of c.give.new.index) l part c.args.job c.args.name.now in
    let follows = subst P (sym found) c.give.ensures.follows in
    let after = c.give.ensures.after ∙ ap (λ (l : Locks). one_less l c.args.job c.args.name.now) (sym found) in
    let all = given_all parts new c.args.job c.args.name.now part c.requires.parts change holds.4
    (stands_of c.args.index.now) (stands_of c.give.new.index) c.requires.told follows after in
    record { after = all.0; parts = all.1.0; told = all.1.1 }
