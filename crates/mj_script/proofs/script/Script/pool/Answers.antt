use Rattle.std.proofs.Common.{◌≡◌, ◌≤◌, ◌∙◌, List, length, drop, sym, ap, subst}
use Rattle.std.proofs.lemmas.List.{at_drop_all}
use Rattle.mj_dev.specs.Shelves.{Shelf, principal, left_of}
use Rattle.mj_files.specs.Named.{with_principals, with_devices}
use Rattle.mj_jobs.specs.Rows.{rows_limit}
use Rattle.mj_script.specs.declared.script.Supply.{Supply}
use Rattle.mj_script.specs.Scripts.{Scripted, supply_names}
use Rattle.mj_script.proofs.Principals.{enough}
use Rattle.mj_script.proofs.script.Script.pool.Goals as goal

pub returns-clause-fits : goal.returns-clause-fits
returns-clause-fits c =
    let l = c.supplies in
    let inside = c.self.inside in
    let items = c.deref-supply-items.result.now in
    let added : List Supply → List Shelf = λ supplies. with_devices (supply_names supplies) l.pool in
    let all : List Supply → List Shelf = λ supplies. with_devices (supply_names supplies) (with_principals rows_limit) in
    let none : added (drop l.supply-index items) ≡ l.pool = at_drop_all added items l.supply-index c.supplies-test.false in
    let Fits : Scripted → Type 0 = λ s. length s.starts ≤ left_of principal l.pool in
    subst Fits c.self.view_is
    (enough (supply_names inside.supplies.items) l.pool inside.starts.items c.self.invariant.other
    (sym none ∙ l.invariant ∙ ap all c.deref-supply-items.ensures.value) c.self.invariant.few)
