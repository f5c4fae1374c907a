use Rattle.std.proofs.Common.{◌≡◌, ◌∙◌, ◌+◌, ◌-◌, ◌<◌, arith, length, drop, get_or, refl, sym, replicate}
use Rattle.std.proofs.lemmas.Bool.{ltb-true, ltb-false}
use Rattle.std.proofs.lemmas.List.{drop_all, get_or-replicate, length-replicate, length-set}
use Rattle.mj_strfn.specs.declared.translation.Becomes.TheVariants.{Itself}
use Rattle.mj_strfn.proofs.ByteLaws.{table_none, table_step_byte, table_step_nothing}
use Rattle.mj_strfn.proofs.translation.table.Goals.{in-Some, in-None}
use Rattle.mj_strfn.proofs.translation.table.Goals as goal

pub loop-place-init : goal.loop-place-init
loop-place-init c =
    let from = c.args.from.now in
    let rest = drop (length from) c.args.to.now in
    record {
      made = rw (drop_all (length from) from (omega arith)) (table_none rest (replicate 256 Itself) (λ k l. get_or-replicate 256 k Itself Itself l));
      long = length-replicate 256 Itself;
    }

pub loop-place-preserved : goal.loop-place-preserved
loop-place-preserved c =
    let i = c.loop-place.auto.place in
    let some = c.loop-place-test.true in
    let from = c.args.from.now in
    let to = c.args.to.now in
    let table = c.loop-place.table in
    let p = c.loop-place.place - 1 in
    let next : c.loop-place.place ≡ p + 1 = omega arith in
    let in_from : p < length from = omega arith in
    let byte = c.type_inv.from p in
    let long = c.loop-place.invariant.long in
    let fits : get_or from p 0 < length table = omega arith in
    record {
      made =
          elim c.match-get.branch [
            | in-Some w ↦
                let found = w.in-Some.ensures.lookup in
                rw w.table-is (table_step_byte from to p _ _ w.in-Some.byte.now table next in_from (ltb-true _ _ (sym found.0)) refl found.1 fits c.loop-place.invariant.made)
            | in-None w ↦
                let found = w.in-None.ensures.lookup in
                rw w.table-is (table_step_nothing from to p _ _ table next in_from (ltb-false _ _ (sym found.0)) refl fits c.loop-place.invariant.made)
          ];
      long = length-set table _ _ ∙ long;
    }
