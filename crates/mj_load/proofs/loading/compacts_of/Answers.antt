use Rattle.std.proofs.Common.{◌≡◌, ℕ, ◌+◌, List, [], ◌∷◌, ◌++◌, Some, length, sym, ap, ◌∙◌, subst, refl, arith}
use Rattle.std.specs.Prelude.{IfSome, slice_get}
use Rattle.std.proofs.lemmas.List.{length-append}
use Rattle.std.proofs.lemmas.Option.{slice_get_read}
use Rattle.mj_pcode.specs.declared.instr.Unit.{Unit}
use Rattle.mj_compact.specs.Compact.{AllStand, AreCompact, Table}
use Rattle.mj_compact.proofs.Rows.{pushed}
use Rattle.mj_load.proofs.loading.compacts_of.Goals as goal

pub loop-unit-preserved : goal.loop-unit-preserved
loop-unit-preserved c =
    let i = c.loop-unit.invariant in
    let units : List Unit = c.args.units.now in
    let before : List Table = c.loop-unit.compacts.items in
    let table : Table = c.in_ok-of.field-0 in
    let P : ℕ → Table → Type 0 = λ k t. IfSome (slice_get units k) (λ u. AllStand u.instrs.items t) in
    let found : slice_get units c.loop-unit.unit-index ≡ Some c.unit-item.result = slice_get_read units (length units) c.loop-unit.unit-index c.unit-item.result refl c.loop-unit-test.true c.unit-item.is in
    let of_unit : AllStand c.unit-item.result.instrs.items table = subst (λ l. AllStand l table) (c.deref.ensures.value) c.in_ok-of.ensures in
    let here : P c.loop-unit.unit-index table = subst (λ o. IfSome o (λ u. AllStand u.instrs.items table)) (sym found) of_unit in
    let last : P (length before) table = subst (λ k. P k table) (sym i.count) here in
    record {
      are = subst (AreCompact units) (sym c.in_ok-push.ensures.items) (pushed P before table i.are last);
      count = omega (arith, ap length c.in_ok-push.ensures.items, length-append before (table ∷ []), i.count);
    }
