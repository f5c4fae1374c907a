use Rattle.std.proofs.Common.{◌∙◌, sym}
use Rattle.std.specs.Option.{option_copied}
use Rattle.mj_strfn.proofs.ByteLaws.{ascii_none, ascii_some}
use Rattle.mj_strfn.proofs.bytes.ascii.Goals as goal

pub returns-then-at-eq0 : goal.returns-then-at-eq0
returns-then-at-eq0 c =
    let is = sym c.number_or.ensures ∙ c.in_ok-number_or.was in
    ascii_none c.args.text.now _ (option_copied c.args.at) _ _ _ _ c.bytes-bytes.ensures.value c.from_truth.ensures is c.place-at.ensures.value c.then-at-eq0.either c.from_number.ensures

pub returns : goal.returns
returns c =
    let is = sym c.number_or.ensures ∙ c.in_ok-number_or.was in
    ascii_some c.args.text.now _ (option_copied c.args.at) _ _ _ _ _ c.bytes-bytes.ensures.value c.from_truth.ensures is c.place-at.ensures.value c.if-at-eq0.false c.if-at-bytes.false c.from.ensures
    c.count_text.ensures
