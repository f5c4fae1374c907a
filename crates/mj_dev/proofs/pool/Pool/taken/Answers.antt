use Rattle.std.proofs.Common.{sym, ◌∙◌, ap}
use Rattle.std.specs.List.{position}
use Rattle.mj_dev.specs.Shelves.{is_named}
use Rattle.mj_dev.proofs.Shelves.{found-named, none-taken, IsFound}
use Rattle.mj_dev.proofs.pool.Pool.taken.Goals as goal

pub returns-in-Some : goal.returns-in-Some
returns-in-Some g c =
    let found : IsFound c.args.name.now c.self.inside.rows.items c.in-Some.place c.index.result.now =
    found-named _ _ _ _ (ap (λ rows. position (is_named c.args.name.now) rows) (sym c.as_slice.ensures.value) ∙ sym c.place_of.ensures ∙ c.in-Some.is) c.index.ensures in
    rw (← c.self.view_is) (c.taken.ensures ∙ sym found.taken)

pub returns-in-None : goal.returns-in-None
returns-in-None g c =
    rw (← c.self.view_is)
    (sym (none-taken c.args.name.now c.self.inside.rows.items (ap (λ rows. position (is_named c.args.name.now) rows) (sym c.as_slice.ensures.value) ∙ sym c.place_of.ensures ∙ c.in-None.is)))
