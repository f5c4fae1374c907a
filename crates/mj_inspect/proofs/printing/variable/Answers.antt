use Rattle.std.proofs.Common.{◌≡◌, ◌∙◌, Bool, true, false, sym, subst}
use Rattle.std.proofs.lemmas.Result.{IfOk-weaker}
use Rattle.mj_inspect.specs.Shows.{ShowsOf}
use Rattle.mj_inspect.proofs.printing.variable.Goals as goal

pub returns-then-is_global : goal.returns-then-is_global
returns-then-is_global g c =
    let on : c.args.name.now.global ≡ true = sym c.is_global.ensures ∙ c.if-is_global.true in
    IfOk-weaker c.global_lines.result _ _
    (λ bytes shows.
    (let P : Bool → Type 0 = λ global. ShowsOf global g.O.Opening.opening c.args.debugger.now c.args.job c.args.name.now bytes.items in
    subst P (sym on) shows)) c.global_lines.ensures

pub returns : goal.returns
returns g c =
    let off : c.args.name.now.global ≡ false = sym c.is_global.ensures ∙ c.if-is_global.false in
    IfOk-weaker c.local_lines.result _ _
    (λ bytes shows.
    (let P : Bool → Type 0 = λ global. ShowsOf global g.O.Opening.opening c.args.debugger.now c.args.job c.args.name.now bytes.items in
    subst P (sym off) shows)) c.local_lines.ensures
