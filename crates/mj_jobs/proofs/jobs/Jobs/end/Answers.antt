use Rattle.std.proofs.Common.{◌≡◌, List, length, vec_len, refl, ap, ◌∙◌, arith}
use Rattle.std.proofs.lemmas.Option.{slice_get_read}
use Rattle.mj_jobs.specs.Rows.{Row, Rows, with_ended}
use Rattle.mj_jobs.specs.Kept.{rows_of}
use Rattle.mj_jobs.specs.declared.jobs.Jobs.TheInside as inside
use Rattle.mj_jobs.proofs.Found.{ended_at, none_ended}
use Rattle.mj_jobs.proofs.jobs.Jobs.end.Goals as goal
use Rattle.mj_jobs.proofs.jobs.Jobs.end.Goals.{in-Some-get_mut, in_default-get_mut}

-- src/jobs.rt:121:5
pub returns : goal.returns
returns c =
    let list = c.self.inside.rows.items in
    let n = vec_len c.self.inside.rows in
    let counted : n ≡ length list = omega (arith, c.self.inside.rows.ok) in
    let job = c.args.job in
    let at = c.in-Some.at in
    let first = c.in-Some.ensures.0 in
    let place = c.in-Some.ensures.1 in
    let ending : Rows → Rows = λ v. record { rows = with_ended v.rows job; claimed = v.claimed } in
    let seen : inside.Inside → Rows = λ i. record { rows = rows_of i.rows.items; claimed = i.claimed } in
    let of : List Row → Rows = λ rows. record { rows = rows; claimed = c.self.inside.claimed } in
    let whole = ap ending c.self.view_is in
    elim c.match-get_mut.branch [
      | in-Some-get_mut w ↦
          let row = w.in-Some-get_mut.row.now in
          let found = slice_get_read list n at row counted (w.in-Some-get_mut.ensures.variant.0 refl) w.in-Some-get_mut.ensures.item.1 in
          ap seen w.self-inside-is ∙ ap of (ended_at list job at row first place found) ∙ whole
      | in_default-get_mut w ↦ ap seen w.self-inside-is ∙ ap of (none_ended list job at n first place counted w.in_default-get_mut.ensures.variant.1) ∙ whole
    ]
