use Rattle.std.proofs.Common.{◌≡◌, ℕ, ◌+◌, ◌<◌, true, List, [], ◌∷◌, ◌++◌, length, take, sym, ap, ◌∙◌, subst, arith}
use Rattle.std.proofs.lemmas.List.{take_more, get_or_read}
use Rattle.mj_store.specs.Questions.{Subtree}
use Rattle.mj_locals.specs.Trees.{Trees, at, has_room}
use Rattle.mj_locals.specs.Hiding.{Grows}
use Rattle.mj_locals.specs.Snapshots.{HaveRoom}
use Rattle.mj_locals.proofs.At.{at_added, grows_on, grows_added, room_at}
use Rattle.mj_locals.proofs.Snapshots.{rooms_grown, rooms_pushed}
use Rattle.mj_locals.proofs.snapshot.Snapshot.make_room.Goals as goal

pub loop-row-preserved : goal.loop-row-preserved
loop-row-preserved c =
    let k : ℕ = c.loop-row.row-index in
    let rows : Trees = c.deref-row-items.result.now in
    let row : List ℕ × Subtree = c.row-item.result in
    let ts : Trees = c.loop-row.table in
    let us : Trees = c.make_room.new.self in
    let less : k < length rows = omega arith in
    let one : take (k + 1) rows ≡ take k rows ++ row ∷ [] =
    take_more rows k ([], []) less ∙ ap (λ (r : List ℕ × Subtree). take k rows ++ r ∷ []) (sym (get_or_read rows k row less c.row-item.is ([], []))) in
    let place = c.in_ok-make_room.ensures.place in
    let room : has_room us row.0 ≡ true = ap (has_room us) (sym place.1) ∙ room_at us c.in_ok-make_room.field-0 place.0 in
    let more : Grows ts us = subst (Grows ts) (sym c.in_ok-make_room.ensures.ok) (grows_added ts row.0) in
    record {
      room = subst (HaveRoom us) (sym one) (rooms_pushed us (take k rows) row (rooms_grown ts us (take k rows) more c.loop-row.invariant.room) room);
      grows = grows_on c.args.table.now ts us c.loop-row.invariant.grows more;
      same = λ v. ap (λ (xs : Trees). at xs v) c.in_ok-make_room.ensures.ok ∙ at_added ts row.0 v ∙ c.loop-row.invariant.same v;
    }
