-- A canonic text reads as its number.
use Rattle.std.proofs.Common.{◌≡◌, true, sym, refl, ◌∙◌}
use Rattle.mj_num.specs.Number.{is_canonic}
use Rattle.mj_num.proofs.Laws.{reading-canonic}
use Rattle.mj_subs.proofs.sub.tag.Goals as goal

pub returns-then-is_canonic : goal.returns-then-is_canonic
returns-then-is_canonic c =
    let canonic : is_canonic c.args.text.now ≡ true = sym c.is_canonic.ensures ∙ c.if-is_canonic.true in
    rw (c.ok.ensures.value, c.read.ensures, reading-canonic c.args.text.now canonic) (canonic, refl)
