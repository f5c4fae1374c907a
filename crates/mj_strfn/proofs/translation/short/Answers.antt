use Rattle.std.proofs.Common.{◌≤◌, arith, length}
use Rattle.mj_strfn.specs.Table.{translated_by}
use Rattle.mj_strfn.proofs.ByteLaws.{made_answers, length-translated_by}
use Rattle.mj_strfn.proofs.translation.short.Goals as goal

pub returns : goal.returns
returns c =
    let no_more = length-translated_by c.args.table.now c.args.bytes.now in
    let limit = c.requires in
    let room : length (translated_by c.args.table.now c.args.bytes.now) ≤ 1048576 = omega arith in
    made_answers _ _ _ c.write-kept.ensures.value room c.from.ensures.ok c.from.ensures.within
