use Rattle.std.proofs.Common.{◌∙◌, refl, sym, inl, inr}
use Rattle.std.proofs.lemmas.Result.{IfOk-weaker}
use Rattle.mj_guide.specs.Notes.{situation}
use Rattle.mj_guide.proofs.responding.until_line.Goals as goal

pub returns-then-is_breakpoint : goal.returns-then-is_breakpoint
returns-then-is_breakpoint g c = IfOk-weaker c.go.result _ _ (λ full goes. inl (sym c.is_breakpoint.ensures ∙ c.if-is_breakpoint.true, goes)) c.go.ensures

pub returns : goal.returns
returns g c =
    let off = sym c.is_breakpoint.ensures ∙ c.if-is_breakpoint.false in
    let marked = situation c.set.new.self c.args.notes.now (g.W.Write.contents c.args.out.now) in
    let gone = situation c.go-told.new.debugger c.go-told.new.notes (g.W.Write.contents c.go-told.new.out) in
    IfOk-weaker c.go-told.result _ _
    (λ full goes. inr (
      off,
      (marked, gone, ((c.in_ok-set.ensures.ok, c.set.ensures.rest), refl), goes, ((c.in_ok-clear.ensures.ok, c.clear.ensures.rest), refl)),
    ))
    c.go-told.ensures
