use Rattle.std.proofs.Common.{◌∙◌, ap, refl, sym}
use Rattle.std.specs.Result.{result_ok}
use Rattle.mj_num.proofs.Laws.{reading-canonic}
use Rattle.mj_oper.proofs.apply.canonic_number.Goals as goal

pub returns-then-is_canonic : goal.returns-then-is_canonic
returns-then-is_canonic c =
    let canonic = sym c.if-is_canonic.ensures in
    rw (c.ok.ensures.value ∙ ap result_ok (c.read.ensures ∙ reading-canonic c.args.text.now canonic)) (canonic, refl)
