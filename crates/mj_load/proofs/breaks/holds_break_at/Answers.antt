use Rattle.std.proofs.Common.{◌≡◌, ◌-◌, ◌<◌, Some, sym, ap, ◌∙◌, arith}
use Rattle.std.specs.Prelude.{slice_get}
use Rattle.std.proofs.lemmas.Option.{slice_get-get_or}
use Rattle.mj_load.proofs.Held.{at_line}
use Rattle.mj_load.proofs.breaks.holds_break_at.Goals as goal

pub returns-in-Some : goal.returns-in-Some
returns-in-Some c =
    let some : 0 < c.args.number = omega arith in
    let found = c.in-Some.ensures.lookup in
    let there : slice_get c.args.lines.now (c.args.number - 1) ≡ Some c.in-Some.line.now =
    slice_get-get_or c.args.lines.now (c.args.number - 1) c.in-Some.line.now found.3.0 ∙ ap Some (sym found.1) in
    c.holds_break.ensures ∙ sym (at_line c.args.lines.now c.args.number c.in-Some.line.now some there)
