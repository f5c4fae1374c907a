use Rattle.std.proofs.Common.{ap, ◌∙◌, refl, length, arith, ℕ, Option, ◌∷◌, ◌++◌, [], ◌≡◌, ◌+◌, ◌<◌}
use Rattle.std.proofs.lemmas.List.{length_push}
use Rattle.std.proofs.lemmas.Option.{slice_get_read, slice_get_within}
use Rattle.mj_explain.proofs.Tables.{table_next, begins_next}
use Rattle.mj_explain.proofs.begins.begins_of.Goals as goal

pub loop-place-preserved : goal.loop-place-preserved
loop-place-preserved c =
    let es = c.args.events.now in
    let k = c.loop-place.place in
    let e = c.index-events-place.result in
    let old = c.loop-place.begins.items in
    let new = c.note.new.begins.items in
    let noted = c.in_ok-note.ensures.noted in
    let there = slice_get_read es (length es) k e refl c.loop-place-test.true c.index-events-place.is in
    let long : length new ≡ k + 1 =
    ap length noted ∙ length_push old _ ∙ ap (λ (n : ℕ). n + 1) c.loop-place.invariant.1 in (
      table_next c.loop-place.table.items c.note.new.table.items e.job k es e refl there c.loop-place.invariant.0 c.in_ok-note.ensures.own c.in_ok-note.ensures.others,
      long,
      begins_next old new k es e there c.loop-place.invariant.1 c.loop-place.invariant.2
          (noted ∙ ap (λ (o : Option ℕ). old ++ o ∷ []) (c.loop-place.invariant.0 e.job)),
    )

pub returns : goal.returns
returns c =
    let es = c.args.events.now in
    let begins = c.loop-place.begins.items in
    let long : length begins ≡ length es = omega (arith, c.loop-place.invariant.1) in
    record {
      each = long;
      is = λ k e there. (
          let within : k < length es = slice_get_within es k e there in
          let first : k < c.loop-place.place = omega (arith, within, long, c.loop-place.invariant.1) in
          c.loop-place.invariant.2 k e first there
          );
    }
