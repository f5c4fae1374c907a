use Rattle.std.proofs.Common.{◌≡◌, ◌≤◌, None, length, refl, sym, ap, ◌∙◌, subst, arith}
use Rattle.std.specs.Prelude.{slice_get}
use Rattle.std.specs.Option.{option_map}
use Rattle.std.proofs.lemmas.Option.{slice_get_read}
use Rattle.mj_jobs.specs.Rows.{Row, Rows, row_at, start_at}
use Rattle.mj_jobs.specs.Kept.{rows_of}
use Rattle.mj_jobs.proofs.Found.{row_found, row_missed, below_of}
use Rattle.mj_jobs.proofs.jobs.Jobs.start.Goals as goal

-- there is no job 0
pub returns-in-None : goal.returns-in-None
returns-in-None c =
    let none = c.in-None.ensures in
    let is : c.args.job ≡ 0 = omega (arith, none) in
    sym (ap (start_at c.args.self.now.rows) is)

pub returns-in-None-get : goal.returns-in-None-get
returns-in-None-get c =
    let list = c.self.inside.rows.items in
    let missed = c.in-None-get.ensures.lookup.0 in
    let past : length c.deref.result.now ≤ c.in-Some.at = grind (arith, missed) in
    let beyond : length list ≤ c.in-Some.at = subst (λ l. length l ≤ c.in-Some.at) c.deref.ensures.value past in
    let none : row_at (rows_of list) c.args.job ≡ None = row_missed list c.args.job c.in-Some.at c.in-Some.ensures.0 c.in-Some.ensures.1 beyond in
    sym (ap (option_map (λ (r : Row). r.start)) (ap (λ (v : Rows). row_at v.rows c.args.job) (sym c.self.view_is) ∙ none))

pub returns-in-Some-get : goal.returns-in-Some-get
returns-in-Some-get c =
    let list = c.self.inside.rows.items in
    let row = c.in-Some-get.row.now in
    let lookup = c.in-Some-get.ensures.lookup in
    let same = c.deref.ensures.value in
    let found = slice_get_read c.deref.result.now (length c.deref.result.now) c.in-Some.at row refl (below_of c.in-Some.at (length c.deref.result.now) (sym lookup.0)) lookup.1 in
    let seen = row_found list c.args.job c.in-Some.at row c.in-Some.ensures.0 c.in-Some.ensures.1 (ap (λ l. slice_get l c.in-Some.at) (sym same) ∙ found) in
    sym (ap (option_map (λ (r : Row). r.start)) (ap (λ (v : Rows). row_at v.rows c.args.job) (sym c.self.view_is) ∙ seen))
