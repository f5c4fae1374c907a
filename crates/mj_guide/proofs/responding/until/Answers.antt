use Rattle.std.proofs.Common.{sym, subst}
use Rattle.std.proofs.lemmas.Result.{IfOk-weaker}
use Rattle.mj_guide.specs.declared.request.Goal.{Goal}
use Rattle.mj_guide.specs.Goes.{GoesUntil}
use Rattle.mj_guide.specs.Notes.{situation}
use Rattle.mj_guide.proofs.Answered.{until_other}
use Rattle.mj_guide.proofs.responding.until.Goals as goal

pub returns-in-Line : goal.returns-in-Line
returns-in-Line g c =
    let old = situation c.args.debugger.now c.args.notes.now (g.W.Write.contents c.args.out.now) in
    let new = situation c.until_line.new.debugger c.until_line.new.notes (g.W.Write.contents c.until_line.new.out) in
    IfOk-weaker c.until_line.result _ _
    (λ full so. (let P : Goal → Type 0 = λ goal. GoesUntil g.O.Opening.opening goal old full new in subst P (sym c.in-Line.is) so)) c.until_line.ensures

pub returns-in_default : goal.returns-in_default
returns-in_default g c =
    let old = situation c.args.debugger.now c.args.notes.now (g.W.Write.contents c.args.out.now) in
    let new = situation c.go.new.debugger c.go.new.notes (g.W.Write.contents c.go.new.out) in
    until_other g.O.Opening.opening old new c.args.goal.now c.go.result c.in_default.not-Line c.go.ensures
