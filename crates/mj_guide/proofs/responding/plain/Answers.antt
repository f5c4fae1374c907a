use Rattle.std.proofs.Common.{refl}
use Rattle.mj_dialogue.specs.declared.command.Command.TheVariants as commands
use Rattle.mj_guide.specs.Notes.{situation}
use Rattle.mj_guide.proofs.Answered.{plain_so, quits, sets, others}
use Rattle.mj_guide.proofs.responding.plain.Goals as goal

pub returns-in-Quit : goal.returns-in-Quit
returns-in-Quit g c =
    let old = situation c.args.debugger.now c.args.notes.now (g.W.Write.contents c.args.out.now) in
    let new = situation c.args.debugger.now c.args.notes.now (g.W.Write.contents c.give.new.out) in
    plain_so g.O.Opening.opening old new commands.Quit c.args.command.now c.give.result c.in-Quit.is
    (quits g.O.Opening.opening old new _ c.give.result refl refl refl refl refl c.give.ensures)

pub returns-in-Step : goal.returns-in-Step
returns-in-Step g c =
    let old = situation c.args.debugger.now c.args.notes.now (g.W.Write.contents c.args.out.now) in
    let new = situation c.make.new.debugger c.make.new.notes (g.W.Write.contents c.make.new.out) in
    plain_so g.O.Opening.opening old new (commands.Step c.in-Step.step) c.args.command.now c.make.result c.in-Step.is c.make.ensures

pub returns-in-Go : goal.returns-in-Go
returns-in-Go g c =
    let old = situation c.args.debugger.now c.args.notes.now (g.W.Write.contents c.args.out.now) in
    let new = situation c.go.new.debugger c.go.new.notes (g.W.Write.contents c.go.new.out) in
    plain_so g.O.Opening.opening old new (commands.Go c.in-Go.count) c.args.command.now c.go.result c.in-Go.is c.go.ensures

pub returns-in_ok-set-in-Set : goal.returns-in_ok-set-in-Set
returns-in_ok-set-in-Set g c =
    let bytes = c.in_ok-set-in-Set.field-0.items in
    let says = c.in_ok-set-in-Set.ensures in
    let old = situation c.args.debugger.now c.args.notes.now (g.W.Write.contents c.args.out.now) in
    let new = situation c.set.new.debugger c.args.notes.now (g.W.Write.contents c.give-in-Set.new.out) in
    plain_so g.O.Opening.opening old new (commands.Set c.in-Set.routine c.in-Set.line) c.args.command.now c.give-in-Set.result c.in-Set.is
    (sets g.O.Opening.opening old new c.in-Set.routine c.in-Set.line bytes c.deref.result.now c.give-in-Set.result c.deref.ensures.value
    (says.0, says.1, refl) refl refl refl c.give-in-Set.ensures)

pub returns-in_default : goal.returns-in_default
returns-in_default g c =
    let old = situation c.args.debugger.now c.args.notes.now (g.W.Write.contents c.args.out.now) in
    let new = situation c.answer.new.debugger c.args.notes.now (g.W.Write.contents c.answer.new.out) in
    others g.O.Opening.opening old new c.args.command.now c.answer.result c.in_default.not-Step c.in_default.not-Go c.in_default.not-Set refl refl refl
    c.answer.ensures.ok
