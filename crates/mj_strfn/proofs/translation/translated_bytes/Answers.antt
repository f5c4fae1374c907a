use Rattle.std.proofs.Common.{arith}
use Rattle.mj_strfn.proofs.ByteLaws.{translated_answers}
use Rattle.mj_strfn.proofs.translation.translated_bytes.Goals as goal

pub returns-then-bytes-le-ROOM : goal.returns-then-bytes-le-ROOM
returns-then-bytes-le-ROOM c = translated_answers c.args.from.now c.args.to.now c.args.bytes.now _ _ c.table-table.ensures (λ i l. let fits = c.type_inv.bytes i in omega arith) c.short.ensures

pub returns : goal.returns
returns c = translated_answers c.args.from.now c.args.to.now c.args.bytes.now _ _ c.table-table.ensures (λ i l. let fits = c.type_inv.bytes i in omega arith) c.long.ensures
