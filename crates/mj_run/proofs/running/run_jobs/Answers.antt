use Rattle.std.proofs.Common.{◌≡◌, ◌∙◌, sym, ap, subst, IfSome, IfNone}
use Rattle.mj_dev.specs.Told.{IsToldBy}
use Rattle.mj_load.specs.Image.{Loaded, program_of}
use Rattle.mj_sys.specs.Shared.{Shared}
use Rattle.mj_core.specs.Runs.{IsRun}
use Rattle.mj_core.specs.Shown.{Shown}
use Rattle.mj_steps.specs.Driven.{ByList}
use Rattle.mj_fit.specs.Laws.{NoneIsHeld}
use Rattle.mj_serial.specs.Laws.{IsAsAlone, AllMustClash}
use Rattle.mj_run.specs.Stepping.{StepsAs, IsInTurn, in_turn_limit, AreSteps}
use Rattle.mj_run.proofs.Stepping.{image_of, steps_image}
use Rattle.mj_run.proofs.running.run_jobs.Goals as goal

pub invariant_of-jobs : goal.invariant_of-jobs
invariant_of-jobs g c =
    let N : Shared → Type 0 = λ opening. NoneIsHeld opening in
    subst N c.requires.opening (c.none_is_held.ensures c.args.globals.content c.args.pool c.args.starts.items)

pub returns-clause-image : goal.returns-clause-image
returns-clause-image g c =
    let tells = IsToldBy g.D.Device.inside g.D.Device.failures g.D.Device.taken g.D.Device.given g.D.Device.IsTold in
    ap image_of c.jobs.view_is
    ∙ steps_image tells g.O.Opening.opening c.in_ok-core.core c.go-ending.new.self c.go-ending.ensures.run
    ∙ ap image_of c.in_ok-core.ensures.ok

pub returns-clause-listed : goal.returns-clause-listed
returns-clause-listed g c =
    let tells = IsToldBy g.D.Device.inside g.D.Device.failures g.D.Device.taken g.D.Device.given g.D.Device.IsTold in
    let opening = g.O.Opening.opening in
    let P : Shown → Type 0 = λ old. IfSome c.args.steps (λ list. ByList (StepsAs tells opening) 0 list.now old c.go-ending.result c.jobs.inside.core) in
    let Q : Shown → Type 0 = λ new. IfSome c.args.steps (λ list. ByList (StepsAs tells opening) 0 list.now c.in_ok-core.core c.go-ending.result new) in
    subst P c.in_ok-core.ensures.ok (subst Q (sym c.jobs.view_is) c.go-ending.ensures.listed)

pub returns-clause-in_turn : goal.returns-clause-in_turn
returns-clause-in_turn g c =
    let tells = IsToldBy g.D.Device.inside g.D.Device.failures g.D.Device.taken g.D.Device.given g.D.Device.IsTold in
    let opening = g.O.Opening.opening in
    let P : Shown → Type 0 = λ old. IfNone c.args.steps (IsInTurn tells opening in_turn_limit old c.go-ending.result c.jobs.inside.core) in
    let Q : Shown → Type 0 = λ new. IfNone c.args.steps (IsInTurn tells opening in_turn_limit c.in_ok-core.core c.go-ending.result new) in
    subst P c.in_ok-core.ensures.ok (subst Q (sym c.jobs.view_is) c.go-ending.ensures.in_turn)

pub returns-clause-gives : goal.returns-clause-gives
returns-clause-gives g c =
    let tells = IsToldBy g.D.Device.inside g.D.Device.failures g.D.Device.taken g.D.Device.given g.D.Device.IsTold in
    let opening = g.O.Opening.opening in
    let P : Shown → Type 0 = λ old. AreSteps tells opening old c.jobs.inside.core in
    let Q : Shown → Type 0 = λ new. AreSteps tells opening c.in_ok-core.core new in
    subst P c.in_ok-core.ensures.ok (subst Q (sym c.jobs.view_is) c.go-ending.ensures.run)

pub returns-clause-run : goal.returns-clause-run
returns-clause-run g c =
    let tells = IsToldBy g.D.Device.inside g.D.Device.failures g.D.Device.taken g.D.Device.given g.D.Device.IsTold in
    let same : c.jobs.inside.core.image ≡ c.args.image =
    ap image_of c.jobs.view_is
    ∙ steps_image tells g.O.Opening.opening c.in_ok-core.core c.go-ending.new.self c.go-ending.ensures.run
    ∙ ap image_of c.in_ok-core.ensures.ok in
    let P : Loaded → Type 0 = λ image. IsRun (program_of image) g.O.Opening.opening c.jobs.inside.core.history in
    subst P same c.len-run.ensures.run

pub returns-clause-serial : goal.returns-clause-serial
returns-clause-serial g c =
    let tells = IsToldBy g.D.Device.inside g.D.Device.failures g.D.Device.taken g.D.Device.given g.D.Device.IsTold in
    let same : c.jobs.inside.core.image ≡ c.args.image =
    ap image_of c.jobs.view_is
    ∙ steps_image tells g.O.Opening.opening c.in_ok-core.core c.go-ending.new.self c.go-ending.ensures.run
    ∙ ap image_of c.in_ok-core.ensures.ok in
    let P : Loaded → Type 0 = λ image. IsAsAlone (program_of image) g.O.Opening.opening c.jobs.inside.core.history in
    subst P same c.holds.ensures.serial

pub returns-clause-clashes : goal.returns-clause-clashes
returns-clause-clashes g c =
    let tells = IsToldBy g.D.Device.inside g.D.Device.failures g.D.Device.taken g.D.Device.given g.D.Device.IsTold in
    let same : c.jobs.inside.core.image ≡ c.args.image =
    ap image_of c.jobs.view_is
    ∙ steps_image tells g.O.Opening.opening c.in_ok-core.core c.go-ending.new.self c.go-ending.ensures.run
    ∙ ap image_of c.in_ok-core.ensures.ok in
    let P : Loaded → Type 0 = λ image. AllMustClash (program_of image) g.O.Opening.opening c.jobs.inside.core.history in
    subst P same c.holds.ensures.clashes
