use Rattle.std.proofs.Common.{sym, ap, ◌∙◌, Ok, w64, arith}
use Rattle.std.proofs.lemmas.Int.{to_z-of_z, fits_signed_from_abs}
use Rattle.mj_num.proofs.Laws.{reading-kept, IsInRange-whole}
use Rattle.mj_num.proofs.num.Num.at_hand.Goals as goal

pub returns-in-Some-clause-reads : goal.returns-in-Some-clause-reads
returns-in-Some-clause-reads c =
    let kept = c.in-Some.ensures in
    let small = IsInRange-whole c.in-Some.value kept.0 in
    reading-kept c.args.text.now c.in-Some.value kept ∙ sym (ap Ok (to_z-of_z w64 c.in-Some.value (fits_signed_from_abs w64 c.in-Some.value (omega arith))))
