use Rattle.std.proofs.Common.{◌≡◌, Bool, true, false, sym, ap, ◌∙◌, subst}
use Rattle.std.specs.Fmt.{signed_decimal}
use Rattle.mj_text.specs.Kept.{IsWhole, IsTextWithin, bytes_of}
use Rattle.mj_text.proofs.NumberLemmas.{not_empty}
use Rattle.mj_text.proofs.text.Text.is_empty.Goals as goal

pub returns-in-Number : goal.returns-in-Number
returns-in-Number c =
    let spelled : c.args.self.now ≡ signed_decimal c.in-Number.field-0 = sym c.self.view_is ∙ ap bytes_of c.in-Number.is in
    let whole : IsWhole c.in-Number.field-0 = subst IsTextWithin c.in-Number.is c.self.invariant in
    (λ t. let no : ◌≡◌ {A = Bool} false true = t in cc, λ e. absurd (not_empty c.in-Number.field-0 whole (sym spelled ∙ e)))
