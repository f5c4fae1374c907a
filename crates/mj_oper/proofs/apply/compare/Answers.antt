use Rattle.std.proofs.Common.{◌∙◌, sym}
use Rattle.mj_oper.proofs.Texts.{other_texts}
use Rattle.mj_oper.proofs.apply.compare.Goals as goal

pub returns-in-None-None : goal.returns-in-None-None
returns-in-None-None c =
    let none = c.in-None-None in
    c.cmp_bytes.ensures ∙ sym (other_texts c.args.left.now c.args.right.now (rw none.is-0 at c.canonic_number.ensures) none.ensures)
