use Rattle.std.proofs.Common.{◌≡◌, ◌∙◌, false, sym, ap, subst}
use Rattle.mj_dev.specs.Told.{IsToldBy}
use Rattle.mj_load.specs.Image.{Loaded, program_of}
use Rattle.mj_core.specs.Runs.{IsRun}
use Rattle.mj_core.specs.Shown.{Shown}
use Rattle.mj_serial.specs.Laws.{IsAsAlone, AllMustClash}
use Rattle.mj_run.proofs.Stepping.{steps_image}
use Rattle.mj_live.specs.Shows.{Living}
use Rattle.mj_live.proofs.Ending.{core_of, contents_of, closed_of, starts, gives, written, ran}
use Rattle.mj_live.proofs.running.run_live.Goals as goal

pub new-live-requires : goal.new-live-requires
new-live-requires g c = ap (λ (s : Shown). s.history) c.in_ok-jobs.ensures.begun

pub returns-clause-image : goal.returns-clause-image
returns-clause-image g c =
    let tells = IsToldBy g.D.Device.inside g.D.Device.failures g.D.Device.taken g.D.Device.given g.D.Device.IsTold in
    let opening = g.O.Opening.opening in
    let before = g.W.Write.contents c.args.out in
    let begins = starts c.args.image c.in_ok-jobs.jobs before c.new-live.result c.in_ok-jobs.ensures.begun c.new-live.ensures in
    let is : c.jobs.inside.core ≡ c.go-ending.new.self.core = c.jobs.view_is ∙ ap core_of c.live.view_is in
    steps_image tells opening _ c.jobs.inside.core
    (gives tells opening c.args.image before c.new-live.result c.go-ending.new.self begins c.jobs.inside.core is c.go-ending.ensures.run)

pub returns-clause-live : goal.returns-clause-live
returns-clause-live g c =
    let tells = IsToldBy g.D.Device.inside g.D.Device.failures g.D.Device.taken g.D.Device.given g.D.Device.IsTold in
    let before = g.W.Write.contents c.args.out in
    let i = c.live.inside in
    let begins = starts c.args.image c.in_ok-jobs.jobs before c.new-live.result c.in_ok-jobs.ensures.begun c.new-live.ensures in
    let P : Shown → Living = λ core. record { core = core; contents = g.W.Write.contents i.out; session = i.session; closed = i.is_closed } in
    ran tells g.O.Opening.opening c.args.image before c.new-live.result c.go-ending.new.self begins _ c.go-ending.result c.jobs.inside.core (g.W.Write.contents i.out)
    i.session i.is_closed (ap P c.jobs.view_is ∙ c.live.view_is) c.go-ending.ensures.live

pub returns-clause-written : goal.returns-clause-written
returns-clause-written g c =
    let tells = IsToldBy g.D.Device.inside g.D.Device.failures g.D.Device.taken g.D.Device.given g.D.Device.IsTold in
    let before = g.W.Write.contents c.args.out in
    let i = c.live.inside in
    let begins = starts c.args.image c.in_ok-jobs.jobs before c.new-live.result c.in_ok-jobs.ensures.begun c.new-live.ensures in
    written tells g.O.Opening.opening c.args.image before c.new-live.result c.go-ending.new.self begins c.jobs.inside.core (g.W.Write.contents i.out) i.is_closed
    (c.jobs.view_is ∙ ap core_of c.live.view_is) (ap contents_of c.live.view_is) (ap closed_of c.live.view_is) c.go-ending.ensures.shows

pub returns-clause-gives : goal.returns-clause-gives
returns-clause-gives g c =
    let tells = IsToldBy g.D.Device.inside g.D.Device.failures g.D.Device.taken g.D.Device.given g.D.Device.IsTold in
    let before = g.W.Write.contents c.args.out in
    let begins = starts c.args.image c.in_ok-jobs.jobs before c.new-live.result c.in_ok-jobs.ensures.begun c.new-live.ensures in
    gives tells g.O.Opening.opening c.args.image before c.new-live.result c.go-ending.new.self begins c.jobs.inside.core
    (c.jobs.view_is ∙ ap core_of c.live.view_is) c.go-ending.ensures.run

pub returns-clause-run : goal.returns-clause-run
returns-clause-run g c =
    let P : Loaded → Type 0 = λ image. IsRun (program_of image) g.O.Opening.opening c.jobs.inside.core.history in
    subst P (returns-clause-image g c) c.len-run.ensures.run

pub returns-clause-serial : goal.returns-clause-serial
returns-clause-serial g c =
    let P : Loaded → Type 0 = λ image. IsAsAlone (program_of image) g.O.Opening.opening c.jobs.inside.core.history in
    subst P (returns-clause-image g c) c.holds.ensures.serial

pub returns-clause-clashes : goal.returns-clause-clashes
returns-clause-clashes g c =
    let P : Loaded → Type 0 = λ image. AllMustClash (program_of image) g.O.Opening.opening c.jobs.inside.core.history in
    subst P (returns-clause-image g c) c.holds.ensures.clashes
