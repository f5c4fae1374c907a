use Rattle.std.proofs.Common.{length, refl, sym, ap, ◌∙◌}
use Rattle.std.specs.Prelude.{slice_get}
use Rattle.std.proofs.lemmas.Option.{slice_get_read}
use Rattle.mj_jobs.specs.Rows.{Rows, row_at}
use Rattle.mj_jobs.specs.Kept.{row_of}
use Rattle.mj_jobs.proofs.Found.{row_found, live_if, below_of}
use Rattle.mj_jobs.proofs.jobs.Jobs.is_live.Goals as goal

-- src/jobs.rt:73:5
pub returns-in-Some-get : goal.returns-in-Some-get
returns-in-Some-get c =
    let list = c.self.inside.rows.items in
    let row = c.in-Some-get.row.now in
    let lookup = c.in-Some-get.ensures.lookup in
    let same = c.deref.ensures.value in
    let found = slice_get_read c.deref.result.now (length c.deref.result.now) c.in-Some.at row refl (below_of c.in-Some.at (length c.deref.result.now) (sym lookup.0)) lookup.1 in
    let seen = row_found list c.args.job c.in-Some.at row c.in-Some.ensures.0 c.in-Some.ensures.1 (ap (λ l. slice_get l c.in-Some.at) (sym same) ∙ found) in
    live_if c.args.self.now.rows c.args.job (row_of row) row.ended refl (ap (λ (v : Rows). row_at v.rows c.args.job) (sym c.self.view_is) ∙ seen)
