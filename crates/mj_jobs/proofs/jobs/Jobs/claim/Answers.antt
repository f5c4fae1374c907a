use Rattle.std.proofs.Common.{◌+◌, length, refl, sym, ap, ◌∙◌, arith}
use Rattle.std.specs.Prelude.{slice_get}
use Rattle.std.proofs.lemmas.Option.{slice_get_read}
use Rattle.mj_jobs.specs.Rows.{Rows, row_at}
use Rattle.mj_jobs.specs.Kept.{row_of}
use Rattle.mj_jobs.proofs.Found.{row_found, below_of}
use Rattle.mj_jobs.proofs.jobs.Jobs.claim.Goals as goal

-- src/jobs.rt:103:5
pub returns-clause-some : goal.returns-clause-some
returns-clause-some c =
    let list = c.self.inside.rows.items in
    let at = c.self.inside.claimed in
    let row = c.in-Some.row.now in
    let lookup = c.in-Some.ensures.lookup in
    let found = slice_get_read c.deref.result.now (length c.deref.result.now) at row refl (below_of at (length c.deref.result.now) (sym lookup.0)) lookup.1 in
    let seen = row_found list (at + 1) at row (omega arith) (omega arith) (ap (λ l. slice_get l at) (sym c.deref.ensures.value) ∙ found) in
    let next = ap (λ (v : Rows). v.claimed + 1) c.self.view_is in
    (next, next, (row_of row, ap (λ (v : Rows). row_at v.rows (at + 1)) (sym c.self.view_is) ∙ seen, sym c.in_ok-start.ensures))
