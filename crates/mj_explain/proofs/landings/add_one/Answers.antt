use Rattle.std.proofs.Common.{◌≡◌, false, ap, sym, ◌∙◌}
use Rattle.std.specs.Prelude.{slice_get}
use Rattle.mj_explain.specs.Events.{is_change_of}
use Rattle.mj_explain.proofs.Begun.{got}
use Rattle.mj_explain.proofs.Counting.{landed_not}
use Rattle.mj_explain.proofs.landings.add_one.Goals as goal

pub returns-else-is_change_of : goal.returns-else-is_change_of
returns-else-is_change_of c =
    let es = c.args.events.now in
    let no : is_change_of c.args.job (slice_get es c.args.write) ≡ false =
    ap (is_change_of c.args.job) (sym (got es c.args.write c.get.result c.get.ensures.lookup)) ∙ sym c.is_change_of.ensures ∙ c.if-is_change_of.false in
    landed_not es c.args.job c.args.made c.args.write c.args.landings.now.items no
