use Rattle.std.proofs.Common.{◌≡◌, ℕ, ◌+◌, ◌<◌, true, false, List, [], Some, length, sym, ap, ◌∙◌, subst, arith}
use Rattle.std.specs.List.{list_any}
use Rattle.std.specs.Str.{bytes_eq}
use Rattle.mj_locals.specs.Groups.{Group, rest}
use Rattle.mj_locals.specs.Trees.{Trees, word_at}
use Rattle.mj_locals.specs.Hiding.{HidesOthersTo}
use Rattle.mj_locals.proofs.Places.{length_placed}
use Rattle.mj_locals.proofs.Content.{on_err}
use Rattle.mj_locals.proofs.HiddenWords.{hides_same, others_next, others_skip}
use Rattle.mj_locals.proofs.news.hide_all_but.Goals as goal
use Rattle.mj_locals.proofs.news.hide_all_but.Goals.{then-not-is_among+in_ok-hide, else-not-is_among}

pub returns-in_err-hide-clause-err : goal.returns-in_err-hide-clause-err
returns-in_err-hide-clause-err c =
    on_err c.from_residual.result
    (hides_same (Some c.args.words.now) c.args.table.now c.loop-place.table c.hide.new.table
    (rest c.args.trail.now) c.loop-place.trail c.hide.new.self c.in_err-hide.ensures.table_err c.in_err-hide.ensures.err c.loop-place.invariant.hides.0)

pub loop-place-preserved : goal.loop-place-preserved
loop-place-preserved c =
    let n : ℕ = c.loop-place.place in
    let ws : List (List ℕ) = c.args.words.now in
    let below : n < length c.args.table.now = omega arith in
    let less : n < length c.loop-place.table = omega (arith, c.loop-place.invariant.count) in
    elim c.if-not-is_among.branch [
      | then-not-is_among+in_ok-hide w ↦
          let other : list_any (bytes_eq (word_at c.loop-place.table n)) ws ≡ false = ap (λ (v : List ℕ). list_any (bytes_eq v) ws) (sym c.word.ensures) ∙ sym w.if-not-is_among.ensures in
          let gone = w.table-is ∙ w.in_ok-hide.ensures.table in
          record {
            hides = others_next n ws c.args.table.now c.loop-place.table c.if-not-is_among.table
                (rest c.args.trail.now) c.loop-place.trail c.if-not-is_among.trail c.loop-place.invariant.hides below less other gone (w.trail-is ∙ w.in_ok-hide.ensures.ok);
            count = ap (λ (ts : Trees). length ts) gone ∙ length_placed c.loop-place.table (word_at c.loop-place.table n) [] ∙ c.loop-place.invariant.count;
          }
      | else-not-is_among w ↦
          let among : list_any (bytes_eq (word_at c.loop-place.table n)) ws ≡ true = ap (λ (v : List ℕ). list_any (bytes_eq v) ws) (sym c.word.ensures) ∙ sym w.if-not-is_among.ensures in
          let skipped : HidesOthersTo (n + 1) ws c.args.table.now c.loop-place.table (rest c.args.trail.now) c.loop-place.trail =
          others_skip n ws c.args.table.now c.loop-place.table (rest c.args.trail.now) c.loop-place.trail c.loop-place.invariant.hides below among in
          record {
            hides = subst (λ (gs : List Group). HidesOthersTo (n + 1) ws c.args.table.now c.if-not-is_among.table (rest c.args.trail.now) gs)
                (sym w.trail-is) (subst (λ (ts : Trees). HidesOthersTo (n + 1) ws c.args.table.now ts (rest c.args.trail.now) c.loop-place.trail) (sym w.table-is) skipped);
            count = ap (λ (ts : Trees). length ts) w.table-is ∙ c.loop-place.invariant.count;
          }
    ]
