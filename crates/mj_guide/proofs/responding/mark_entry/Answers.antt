use Rattle.std.proofs.Common.{◌≡◌, ◌∙◌, ℕ, Option, refl, sym, ap, subst}
use Rattle.std.proofs.lemmas.Result.{IfOk-weaker}
use Rattle.mj_load.specs.Image.{Loaded}
use Rattle.mj_core.specs.Shown.{Shown}
use Rattle.mj_guide.specs.Marks.{MarksAt}
use Rattle.mj_inspect.specs.Spots.{entry_line}
use Rattle.mj_guide.proofs.responding.mark_entry.Goals as goal

pub returns-in-None : goal.returns-in-None
returns-in-None g c =
    let old = c.args.debugger.now in
    let entry = c.args.entry.now in
    let image = c.image.ensures ∙ ap (λ (core : Shown). core.image) c.core.ensures in
    let found = c.line_of_entry.ensures ∙ ap (λ (image : Loaded). entry_line image.routines entry) image in
    IfOk-weaker c.said.result _ _
    (λ bytes is.
    (let P : Option ℕ → Type 0 = λ at. MarksAt c.args.on old entry.routine at bytes.items old in
    subst P (sym c.in-None.is ∙ found) (is, refl))) c.said.ensures

pub returns-in-Some : goal.returns-in-Some
returns-in-Some g c =
    let old = c.args.debugger.now in
    let entry = c.args.entry.now in
    let image = c.image.ensures ∙ ap (λ (core : Shown). core.image) c.core.ensures in
    let found = c.line_of_entry.ensures ∙ ap (λ (image : Loaded). entry_line image.routines entry) image in
    IfOk-weaker c.mark_line.result _ _
    (λ bytes marks.
    (let P : Option ℕ → Type 0 = λ at. MarksAt c.args.on old entry.routine at bytes.items c.mark_line.new.debugger in
    subst P (sym c.in-Some.is ∙ found) marks)) c.mark_line.ensures
