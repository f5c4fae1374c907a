use Rattle.std.proofs.Common.{ℕ, ◌<◌, List, length, map, refl, sym, ap, ◌∙◌, subst, arith}
use Rattle.std.proofs.lemmas.List.{length-map}
use Rattle.mj_locals.specs.Held.{after_unwind}
use Rattle.mj_locals.specs.Groups.{Group, newest, spared_by}
use Rattle.mj_locals.specs.Kept.{named, held_of, seen}
use Rattle.mj_locals.specs.Trees.{Trees}
use Rattle.mj_locals.specs.Hiding.{Grows}
use Rattle.mj_locals.proofs.At.{grows_on}
use Rattle.mj_locals.proofs.Content.{unwound_one}
use Rattle.mj_locals.proofs.Saved.{undo_kept, undo_held, grows_put}
use Rattle.mj_locals.proofs.news.unwind.Goals as goal

pub loop-table-preserved : goal.loop-table-preserved
loop-table-preserved c =
    let height : ℕ = c.args.height in
    let ts : Trees = c.loop-table.table in
    let gs : List Group = c.loop-table.trail in
    let us : Trees = c.show.new.table in
    let hs : List Group = c.show.new.trail in
    let kept = c.loop-table.invariant.kept in
    let above : height < length (map (seen ts) gs) = omega (arith, c.height.ensures, length-map gs (seen ts)) in
    record {
      held =
          ap (after_unwind height)
          (undo_held ts us gs hs c.show.ensures.table c.show.ensures.trail kept c.rises.ensures c.rises-in-loop-table-2.ensures c.rises-in-loop-table.ensures (held_of ts gs) refl)
          ∙ unwound_one height (held_of ts gs) above
          ∙ c.loop-table.invariant.held;
      kept = undo_kept ts us gs hs c.show.ensures.table c.show.ensures.trail kept;
      grows = grows_on c.args.table.now ts us c.loop-table.invariant.grows (subst (Grows ts) (sym c.show.ensures.table) (grows_put (named ts (newest gs)) ts (spared_by gs)));
    }
