use Rattle.std.proofs.Common.{ℕ, Bool, false, List, refl, sym, subst}
use Rattle.mj_dialogue.specs.declared.command.Command.{Command}
use Rattle.mj_dialogue.specs.declared.command.Command.TheVariants as commands
use Rattle.mj_dialogue.specs.declared.answering.Unanswered.TheVariants as unanswered
use Rattle.mj_dialogue.specs.Fails.{unanswered_of}
use Rattle.mj_dialogue.specs.Says.{Says}
use Rattle.mj_dialogue.proofs.Failing.{hidden, untold, unwritten}
use Rattle.mj_dialogue.proofs.Giving.{gives}
use Rattle.mj_dialogue.proofs.answering.answer.Goals as goal

pub returns-in_ok-told-in-Step-clause-ok : goal.returns-in_ok-told-in-Step-clause-ok
returns-in_ok-told-in-Step-clause-ok g c =
    let now = c.step.new.debugger in
    let told = c.in_ok-told-in-Step.told in
    let P : List ℕ → Bool → Type 0 = λ bytes full. Says g.O.Opening.opening c.args.debugger.now c.args.command.now bytes full now in
    let C : Command → Type 0 = λ command. Says g.O.Opening.opening c.args.debugger.now command c.deref.result.now told.full now in
    let B : List ℕ → Type 0 = λ bytes. Says g.O.Opening.opening c.args.debugger.now (commands.Step c.in-Step.given) bytes told.full now in
    let says = subst C (sym c.in-Step.is) (subst B (sym c.deref.ensures.value) c.in_ok-told-in-Step.ensures.ok) in
    gives c.give.result P (g.W.Write.contents c.args.out.now) (g.W.Write.contents c.give.new.out) c.deref.result.now told.full says c.give.ensures.ok

pub returns-in_ok-frames-in-Frames-clause-ok : goal.returns-in_ok-frames-in-Frames-clause-ok
returns-in_ok-frames-in-Frames-clause-ok g c =
    let now = c.frames.new.debugger in
    let P : List ℕ → Bool → Type 0 = λ bytes full. Says g.O.Opening.opening c.args.debugger.now c.args.command.now bytes full now in
    let C : Command → Type 0 = λ command. Says g.O.Opening.opening c.args.debugger.now command c.deref-in-Frames.result.now false now in
    let B : List ℕ → Type 0 = λ bytes. Says g.O.Opening.opening c.args.debugger.now (commands.Frames c.in-Frames.job) bytes false now in
    let says = subst C (sym c.in-Frames.is) (subst B (sym c.deref-in-Frames.ensures.value) c.in_ok-frames-in-Frames.ensures.ok) in
    gives c.give-in-Frames.result P (g.W.Write.contents c.args.out.now) (g.W.Write.contents c.give-in-Frames.new.out) c.deref-in-Frames.result.now false says c.give-in-Frames.ensures.ok

pub returns-in_ok-locals-in-Locals-clause-ok : goal.returns-in_ok-locals-in-Locals-clause-ok
returns-in_ok-locals-in-Locals-clause-ok g c =
    let now = c.locals.new.debugger in
    let P : List ℕ → Bool → Type 0 = λ bytes full. Says g.O.Opening.opening c.args.debugger.now c.args.command.now bytes full now in
    let C : Command → Type 0 = λ command. Says g.O.Opening.opening c.args.debugger.now command c.deref-in-Locals.result.now false now in
    let B : List ℕ → Type 0 = λ bytes. Says g.O.Opening.opening c.args.debugger.now (commands.Locals c.in-Locals.job) bytes false now in
    let says = subst C (sym c.in-Locals.is) (subst B (sym c.deref-in-Locals.ensures.value) c.in_ok-locals-in-Locals.ensures.ok) in
    gives c.give-in-Locals.result P (g.W.Write.contents c.args.out.now) (g.W.Write.contents c.give-in-Locals.new.out) c.deref-in-Locals.result.now false says c.give-in-Locals.ensures.ok

-- ---- what isn't told

pub returns-in_err-told-in-Step-clause-err : goal.returns-in_err-told-in-Step-clause-err
returns-in_err-told-in-Step-clause-err g c =
    untold g.O.Opening.opening c.args.debugger.now c.step.new.debugger c.args.command.now (commands.Step c.in-Step.given) unanswered.Memory c.from_residual.result (g.W.Write.contents c.args.out.now)
    c.in-Step.is (refl, c.in_err-told-in-Step.ensures.err) c.from_residual.ensures.1

pub returns-in_err-set-in-Set-clause-err : goal.returns-in_err-set-in-Set-clause-err
returns-in_err-set-in-Set-clause-err g c =
    untold g.O.Opening.opening c.args.debugger.now c.set.new.debugger c.args.command.now (commands.Set c.in-Set.routine c.in-Set.line) unanswered.Memory c.from_residual-in_err-set-in-Set.result
    (g.W.Write.contents c.args.out.now)
    c.in-Set.is (refl, c.in_err-set-in-Set.ensures.err) c.from_residual-in_err-set-in-Set.ensures.1

pub returns-in_err-clear-in-Clear-clause-err : goal.returns-in_err-clear-in-Clear-clause-err
returns-in_err-clear-in-Clear-clause-err g c =
    untold g.O.Opening.opening c.args.debugger.now c.clear.new.debugger c.args.command.now (commands.Clear c.in-Clear.routine c.in-Clear.line) unanswered.Memory
    c.from_residual-in_err-clear-in-Clear.result (g.W.Write.contents c.args.out.now)
    c.in-Clear.is (refl, c.in_err-clear-in-Clear.ensures.err) c.from_residual-in_err-clear-in-Clear.ensures.1

pub returns-in_err-back-in-Back-clause-err : goal.returns-in_err-back-in-Back-clause-err
returns-in_err-back-in-Back-clause-err g c =
    untold g.O.Opening.opening c.args.debugger.now c.back.new.debugger c.args.command.now commands.Back unanswered.Memory c.from_residual-in_err-back-in-Back.result (g.W.Write.contents c.args.out.now)
    c.in-Back.is (refl, c.in_err-back-in-Back.ensures.err) c.from_residual-in_err-back-in-Back.ensures.1

pub returns-in_err-forward-in-Forward-clause-err : goal.returns-in_err-forward-in-Forward-clause-err
returns-in_err-forward-in-Forward-clause-err g c =
    untold g.O.Opening.opening c.args.debugger.now c.forward.new.debugger c.args.command.now commands.Forward unanswered.Memory c.from_residual-in_err-forward-in-Forward.result
    (g.W.Write.contents c.args.out.now)
    c.in-Forward.is (refl, c.in_err-forward-in-Forward.ensures.err) c.from_residual-in_err-forward-in-Forward.ensures.1

pub returns-in_err-frames-in-Frames-clause-err : goal.returns-in_err-frames-in-Frames-clause-err
returns-in_err-frames-in-Frames-clause-err g c =
    let hides = c.in_err-frames-in-Frames.ensures.err in
    let none = hidden g.O.Opening.opening c.args.debugger.now c.frames.new.debugger (commands.Frames c.in-Frames.job) c.in_err-frames-in-Frames.field-0.0 refl hides.0 hides in
    untold g.O.Opening.opening c.args.debugger.now c.frames.new.debugger c.args.command.now (commands.Frames c.in-Frames.job) (unanswered_of c.in_err-frames-in-Frames.field-0.0)
    c.from_residual-in_err-frames-in-Frames.result (g.W.Write.contents c.args.out.now)
    c.in-Frames.is (refl, none) c.from_residual-in_err-frames-in-Frames.ensures.1

pub returns-in_err-locals-in-Locals-clause-err : goal.returns-in_err-locals-in-Locals-clause-err
returns-in_err-locals-in-Locals-clause-err g c =
    let hides = c.in_err-locals-in-Locals.ensures.err in
    let none = hidden g.O.Opening.opening c.args.debugger.now c.locals.new.debugger (commands.Locals c.in-Locals.job) c.in_err-locals-in-Locals.field-0.0 refl hides.0 hides in
    untold g.O.Opening.opening c.args.debugger.now c.locals.new.debugger c.args.command.now (commands.Locals c.in-Locals.job) (unanswered_of c.in_err-locals-in-Locals.field-0.0)
    c.from_residual-in_err-locals-in-Locals.result (g.W.Write.contents c.args.out.now)
    c.in-Locals.is (refl, none) c.from_residual-in_err-locals-in-Locals.ensures.1

pub returns-in_err-locks-in-Locks-clause-err : goal.returns-in_err-locks-in-Locks-clause-err
returns-in_err-locks-in-Locks-clause-err g c =
    let hides = c.in_err-locks-in-Locks.ensures.err in
    let none = hidden g.O.Opening.opening c.args.debugger.now c.locks.new.debugger commands.Locks c.in_err-locks-in-Locks.field-0.0 refl hides.0 hides in
    untold g.O.Opening.opening c.args.debugger.now c.locks.new.debugger c.args.command.now commands.Locks (unanswered_of c.in_err-locks-in-Locks.field-0.0)
    c.from_residual-in_err-locks-in-Locks.result (g.W.Write.contents c.args.out.now)
    c.in-Locks.is (refl, none) c.from_residual-in_err-locks-in-Locks.ensures.1

pub returns-in_err-globals-in-Globals-clause-err : goal.returns-in_err-globals-in-Globals-clause-err
returns-in_err-globals-in-Globals-clause-err g c =
    let hides = c.in_err-globals-in-Globals.ensures.err in
    let none = hidden g.O.Opening.opening c.args.debugger.now c.globals.new.debugger commands.Globals c.in_err-globals-in-Globals.field-0.0 refl hides.0 hides in
    untold g.O.Opening.opening c.args.debugger.now c.globals.new.debugger c.args.command.now commands.Globals (unanswered_of c.in_err-globals-in-Globals.field-0.0)
    c.from_residual-in_err-globals-in-Globals.result (g.W.Write.contents c.args.out.now)
    c.in-Globals.is (refl, none) c.from_residual-in_err-globals-in-Globals.ensures.1

-- ---- what isn't written

pub returns-in_ok-told-in-Step-clause-err : goal.returns-in_ok-told-in-Step-clause-err
returns-in_ok-told-in-Step-clause-err g c =
    unwritten g.O.Opening.opening c.args.debugger.now c.step.new.debugger c.args.command.now (commands.Step c.in-Step.given) c.give.result (g.W.Write.contents c.args.out.now)
    (g.W.Write.contents c.give.new.out)
    c.in-Step.is (refl, (c.in_ok-told-in-Step.told.bytes.items, c.in_ok-told-in-Step.told.full, c.in_ok-told-in-Step.ensures.ok)) c.give.ensures.err

pub returns-in_ok-set-in-Set-clause-err : goal.returns-in_ok-set-in-Set-clause-err
returns-in_ok-set-in-Set-clause-err g c =
    unwritten g.O.Opening.opening c.args.debugger.now c.set.new.debugger c.args.command.now (commands.Set c.in-Set.routine c.in-Set.line) c.give-in-Set.result
    (g.W.Write.contents c.args.out.now) (g.W.Write.contents c.give-in-Set.new.out)
    c.in-Set.is (refl, (c.in_ok-set-in-Set.field-0.items, false, c.in_ok-set-in-Set.ensures.ok)) c.give-in-Set.ensures.err

pub returns-in_ok-clear-in-Clear-clause-err : goal.returns-in_ok-clear-in-Clear-clause-err
returns-in_ok-clear-in-Clear-clause-err g c =
    unwritten g.O.Opening.opening c.args.debugger.now c.clear.new.debugger c.args.command.now (commands.Clear c.in-Clear.routine c.in-Clear.line) c.give-in-Clear.result
    (g.W.Write.contents c.args.out.now) (g.W.Write.contents c.give-in-Clear.new.out)
    c.in-Clear.is (refl, (c.in_ok-clear-in-Clear.field-0.items, false, c.in_ok-clear-in-Clear.ensures.ok)) c.give-in-Clear.ensures.err

pub returns-in_ok-back-in-Back-clause-err : goal.returns-in_ok-back-in-Back-clause-err
returns-in_ok-back-in-Back-clause-err g c =
    unwritten g.O.Opening.opening c.args.debugger.now c.back.new.debugger c.args.command.now commands.Back c.give-in-Back.result (g.W.Write.contents c.args.out.now)
    (g.W.Write.contents c.give-in-Back.new.out)
    c.in-Back.is (refl, (c.in_ok-back-in-Back.field-0.items, false, c.in_ok-back-in-Back.ensures.ok)) c.give-in-Back.ensures.err

pub returns-in_ok-forward-in-Forward-clause-err : goal.returns-in_ok-forward-in-Forward-clause-err
returns-in_ok-forward-in-Forward-clause-err g c =
    unwritten g.O.Opening.opening c.args.debugger.now c.forward.new.debugger c.args.command.now commands.Forward c.give-in-Forward.result (g.W.Write.contents c.args.out.now)
    (g.W.Write.contents c.give-in-Forward.new.out)
    c.in-Forward.is (refl, (c.in_ok-forward-in-Forward.field-0.items, false, c.in_ok-forward-in-Forward.ensures.ok)) c.give-in-Forward.ensures.err

pub returns-in_ok-frames-in-Frames-clause-err : goal.returns-in_ok-frames-in-Frames-clause-err
returns-in_ok-frames-in-Frames-clause-err g c =
    unwritten g.O.Opening.opening c.args.debugger.now c.frames.new.debugger c.args.command.now (commands.Frames c.in-Frames.job) c.give-in-Frames.result (g.W.Write.contents c.args.out.now)
    (g.W.Write.contents c.give-in-Frames.new.out)
    c.in-Frames.is (refl, (c.in_ok-frames-in-Frames.field-0.items, false, c.in_ok-frames-in-Frames.ensures.ok)) c.give-in-Frames.ensures.err

pub returns-in_ok-locals-in-Locals-clause-err : goal.returns-in_ok-locals-in-Locals-clause-err
returns-in_ok-locals-in-Locals-clause-err g c =
    unwritten g.O.Opening.opening c.args.debugger.now c.locals.new.debugger c.args.command.now (commands.Locals c.in-Locals.job) c.give-in-Locals.result (g.W.Write.contents c.args.out.now)
    (g.W.Write.contents c.give-in-Locals.new.out)
    c.in-Locals.is (refl, (c.in_ok-locals-in-Locals.field-0.items, false, c.in_ok-locals-in-Locals.ensures.ok)) c.give-in-Locals.ensures.err

pub returns-in_ok-locks-in-Locks-clause-err : goal.returns-in_ok-locks-in-Locks-clause-err
returns-in_ok-locks-in-Locks-clause-err g c =
    unwritten g.O.Opening.opening c.args.debugger.now c.locks.new.debugger c.args.command.now commands.Locks c.give-in-Locks.result (g.W.Write.contents c.args.out.now)
    (g.W.Write.contents c.give-in-Locks.new.out)
    c.in-Locks.is (refl, (c.in_ok-locks-in-Locks.field-0.items, false, c.in_ok-locks-in-Locks.ensures.ok)) c.give-in-Locks.ensures.err

pub returns-in_ok-globals-in-Globals-clause-err : goal.returns-in_ok-globals-in-Globals-clause-err
returns-in_ok-globals-in-Globals-clause-err g c =
    unwritten g.O.Opening.opening c.args.debugger.now c.globals.new.debugger c.args.command.now commands.Globals c.give-in-Globals.result (g.W.Write.contents c.args.out.now)
    (g.W.Write.contents c.give-in-Globals.new.out)
    c.in-Globals.is (refl, (c.in_ok-globals-in-Globals.field-0.items, false, c.in_ok-globals-in-Globals.ensures.ok)) c.give-in-Globals.ensures.err
