use Rattle.std.specs.Borrow.{Bor}
use Rattle.std.proofs.Common.{◌≡◌, ◌≤◌, ℕ, suc, ◌+◌, List, Option, Some, None, length, sym, ap, ◌∙◌, subst, arith}
use Rattle.std.specs.Prelude.{IfSome, IfNone, []}
use Rattle.mj_semantics.specs.Program.{Program}
use Rattle.mj_load.specs.Image.{program_of}
use Rattle.mj_jobs.specs.Rows.{Row, row_at}
use Rattle.mj_jobvm.specs.Run.{Log, replies_of}
use Rattle.mj_jobvm.specs.Places.{Asked, ArePlaces}
use Rattle.mj_sys.specs.Shared.{Shared}
use Rattle.mj_sys.specs.History.{History, state_of, log_of}
use Rattle.mj_core.specs.Runs.{start_in}
use Rattle.mj_core.proofs.Placed.{Lent, ArePlacedTo, none_placed, one_more_placed, all_placed, job_placed}
use Rattle.mj_core.proofs.together.Core.all_places.Goals as goal

pub loop-at-init : goal.loop-at-init
loop-at-init g c =
    let P : Lent → Type 0 = λ l. ArePlacedTo (program_of c.args.self.now.image) g.O.Opening.opening c.args.self.now.history 0 l in
    subst P (sym c.new-list.ensures.items) (none_placed (program_of c.args.self.now.image) g.O.Opening.opening c.args.self.now.history)

pub loop-at-preserved : goal.loop-at-preserved
loop-at-preserved g c =
    let program = program_of c.args.self.now.image in
    let opening = g.O.Opening.opening in
    let history = c.args.self.now.history in
    let job : c.loop-at.at + 1 ≡ suc c.loop-at.at = omega arith in
    one_more_placed program opening history c.loop-at.at c.loop-at.list.items c.push.new.self.items c.places.result c.in_ok-push.ensures.items c.loop-at.invariant
    (job_placed program opening history (c.loop-at.at + 1) (suc c.loop-at.at) job c.places.result c.places.ensures.none c.places.ensures.some)

pub returns : goal.returns
returns g c =
    let past : length (state_of g.O.Opening.opening c.args.self.now.history).rows ≤ c.loop-at.at =
    (let t = c.loop-at-test.false in let rows = c.jobs-at-end.ensures.value in omega (arith, t, rows)) in
    all_placed (program_of c.args.self.now.image) g.O.Opening.opening c.args.self.now.history c.loop-at.at c.loop-at.list.items past c.loop-at.invariant
