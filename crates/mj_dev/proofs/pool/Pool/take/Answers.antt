use Rattle.std.proofs.Common.{sym, ◌∙◌, ap}
use Rattle.std.proofs.Math.ListN.{set}
use Rattle.std.specs.List.{position}
use Rattle.mj_dev.specs.Shelves.{is_named}
use Rattle.mj_dev.proofs.Shelves.{found-named, none-left, none_along, some_along, rising-taken, IsFound}
use Rattle.mj_dev.proofs.pool.Pool.take.Goals as goal

pub returns-in_err-place-clause-none : goal.returns-in_err-place-clause-none
returns-in_err-place-clause-none g c =
    rw (c.from_residual.ensures, ← c.self.view_is)
    (none-left c.args.name.now c.self.inside.rows.items (ap (λ rows. position (is_named c.args.name.now) rows) (sym c.as_slice.ensures.value) ∙ sym c.place_of.ensures ∙ c.in_err-place.was))

pub invariant_of-self : goal.invariant_of-self
invariant_of-self g c =
    let found : IsFound c.args.name.now c.self.inside.rows.items c.in_ok-place.place c.index_mut-row.result.now =
    found-named _ _ _ _ (ap (λ rows. position (is_named c.args.name.now) rows) (sym c.as_slice.ensures.value) ∙ sym c.place_of.ensures ∙ c.in_ok-place.was) c.index_mut-row.ensures.value in
    rising-taken c.take.result c.args.name.now c.self.inside.rows.items c.in_ok-place.place c.index_mut-row.result.now c.take.new.self found c.index_mut-row.ensures.value c.take.ensures.kept
    c.take.ensures.taken c.self.invariant

pub returns-clause-none : goal.returns-clause-none
returns-clause-none g c =
    let found : IsFound c.args.name.now c.self.inside.rows.items c.in_ok-place.place c.index_mut-row.result.now =
    found-named _ _ _ _ (ap (λ rows. position (is_named c.args.name.now) rows) (sym c.as_slice.ensures.value) ∙ sym c.place_of.ensures ∙ c.in_ok-place.was) c.index_mut-row.ensures.value in
    rw (← c.self.view_is) (none_along c.take.result (λ none. found.left ∙ none) c.take.ensures.none)

pub returns-clause-some : goal.returns-clause-some
returns-clause-some g c =
    let found : IsFound c.args.name.now c.self.inside.rows.items c.in_ok-place.place c.index_mut-row.result.now =
    found-named _ _ _ _ (ap (λ rows. position (is_named c.args.name.now) rows) (sym c.as_slice.ensures.value) ∙ sym c.place_of.ensures ∙ c.in_ok-place.was) c.index_mut-row.ensures.value in
    rw (← c.self.view_is) (some_along c.take.result (λ some. rw found.left some) c.take.ensures.some)

pub returns-clause-taken : goal.returns-clause-taken
returns-clause-taken g c =
    let found : IsFound c.args.name.now c.self.inside.rows.items c.in_ok-place.place c.index_mut-row.result.now =
    found-named _ _ _ _ (ap (λ rows. position (is_named c.args.name.now) rows) (sym c.as_slice.ensures.value) ∙ sym c.place_of.ensures ∙ c.in_ok-place.was) c.index_mut-row.ensures.value in
    rw (← c.self.view_is) (some_along c.take.result (λ taken. ap (λ s. set c.self.inside.rows.items c.in_ok-place.place s) taken ∙ sym found.changes) c.take.ensures.taken)
