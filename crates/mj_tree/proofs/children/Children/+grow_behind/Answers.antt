use Rattle.std.proofs.Common.{ℕ, ◌-◌, List, w64, pos, ap, ◌∙◌, arith, rules}
use Rattle.std.proofs.lemmas.Int.{ints, fits_signed_from_abs}
use Rattle.std.specs.BTreeMap.{insert_entry}
use Rattle.mj_subs.specs.Collation.{subscript_cmp}
use Rattle.mj_store.specs.Questions.{Subtree}
use Rattle.mj_tree.proofs.Shrunk.{grown_behind, few_behind, HasRoom, room_behind, longer_by}
use Rattle.mj_tree.proofs.children.Children.+grow_behind.Goals as goal

pub returns-then-gap-eq0-clause-sound : goal.returns-then-gap-eq0-clause-sound
returns-then-gap-eq0-clause-sound t c =
    (grown_behind c.args.self.now.row.items c.push_back_reserved.new.self.items c.args.self.now.others.entries c.args.sub c.args.child c.args.number c.args.gap (omega arith) c.requires.sound.0
    c.requires.sound.1 c.requires.filled c.requires.number c.requires.end c.requires.others c.push_back_reserved.ensures.items).0

pub returns-then-gap-eq0-clause-added : goal.returns-then-gap-eq0-clause-added
returns-then-gap-eq0-clause-added t c =
    (grown_behind c.args.self.now.row.items c.push_back_reserved.new.self.items c.args.self.now.others.entries c.args.sub c.args.child c.args.number c.args.gap (omega arith) c.requires.sound.0
    c.requires.sound.1 c.requires.filled c.requires.number c.requires.end c.requires.others c.push_back_reserved.ensures.items).1

pub overflow_cast-gap : goal.overflow_cast-gap
overflow_cast-gap t c =
    fits_signed_from_abs w64 (pos c.args.gap)
    (omega (arith, few_behind c.args.self.now.row.items c.args.gap c.args.number c.requires.sound.0.is_row c.requires.end c.value.ensures.limit))

pub overflow_sub-value : goal.overflow_sub-value
overflow_sub-value t c =
    let few = few_behind c.args.self.now.row.items c.args.gap c.args.number c.requires.sound.0.is_row c.requires.end c.value.ensures.limit in
    let limit = c.value.ensures.limit in
    let is = c.value.ensures.value in fits_signed_from_abs w64 _ (omega (arith, ints))

pub empty_place-place-requires : goal.empty_place-place-requires
empty_place-place-requires t c =
    let few = few_behind c.args.self.now.row.items c.args.gap c.args.number c.requires.sound.0.is_row c.requires.end c.value.ensures.limit in
    let limit = c.value.ensures.limit in
    let is = c.value.ensures.value in
    let room : HasRoom c.args.number c.args.gap = room_behind c.args.self.now.row.items c.args.gap c.args.number c.requires.sound.0.is_row c.requires.end (omega arith) in
    let bounded = room.within in
    let under = room.under in omega (arith, ints)

pub grow_behind-requires : goal.grow_behind-requires
grow_behind-requires t c =
    let few = few_behind c.args.self.now.row.items c.args.gap c.args.number c.requires.sound.0.is_row c.requires.end c.value.ensures.limit in
    let limit = c.value.ensures.limit in
    let is = c.value.ensures.value in
    let longer =
    longer_by c.args.sub c.empty_place-place.result.0 c.empty_place-place.result.1 c.args.number _ c.args.gap c.args.self.now.row.items c.push_back_reserved-2.new.self.items
    c.args.self.now.others.entries (omega arith) c.requires.sound.0 c.requires.sound.1 c.requires.number c.requires.end c.requires.others c.empty_place-place.ensures.number (omega (arith, ints))
    c.empty_place-place.ensures.empty c.push_back_reserved-2.ensures.items in (
      search rules,
      (
        omega (arith, c.requires.room, c.push_back_reserved-2.ensures.len, c.push_back_reserved-2.ensures.capacity),
        ((longer.ordered, longer.trimmed), (c.requires.filled, (c.requires.number, (longer.end, c.requires.others)))),
      ),
    )

pub returns-clause-added : goal.returns-clause-added
returns-clause-added t c =
    let few = few_behind c.args.self.now.row.items c.args.gap c.args.number c.requires.sound.0.is_row c.requires.end c.value.ensures.limit in
    let limit = c.value.ensures.limit in
    let is = c.value.ensures.value in
    let longer =
    longer_by c.args.sub c.empty_place-place.result.0 c.empty_place-place.result.1 c.args.number _ c.args.gap c.args.self.now.row.items c.push_back_reserved-2.new.self.items
    c.args.self.now.others.entries (omega arith) c.requires.sound.0 c.requires.sound.1 c.requires.number c.requires.end c.requires.others c.empty_place-place.ensures.number (omega (arith, ints))
    c.empty_place-place.ensures.empty c.push_back_reserved-2.ensures.items in
    c.grow_behind.ensures.added ∙ ap (λ (es : List (List ℕ × Subtree)). insert_entry subscript_cmp es c.args.sub c.args.child) longer.same
