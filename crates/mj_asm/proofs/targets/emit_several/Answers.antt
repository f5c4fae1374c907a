use Rattle.std.proofs.Common.{length, map, ap, arith, length-append}
use Rattle.mj_ast.specs.Trees.{destination_of}
use Rattle.mj_asm.specs.Code as code
use Rattle.mj_asm.proofs.Counted.{sizes_below}
use Rattle.mj_asm.proofs.targets.emit_several.Goals as goal

pub sizes-above-requires : goal.sizes-above-requires
sizes-above-requires c =
    let base = c.args.code.now.items in
    let list = map destination_of c.args.list.now in
    let made = c.emit_destinations.new.code in
    let cd = code.destinations_code (length base) list in
    omega (arith, ap length c.in_ok-emit_destinations.ensures, length-append base cd, sizes_below (length base) list, made.ok.0, made.ok.1, made.small)

pub emit_stores-requires-clause-few : goal.emit_stores-requires-clause-few
emit_stores-requires-clause-few c =
    let base = c.args.code.now.items in
    let list = map destination_of c.args.list.now in
    let made = c.emit_destinations.new.code in
    let cd = code.destinations_code (length base) list in
    omega (arith, c.sizes-above.ensures, ap length c.in_ok-emit_destinations.ensures, length-append base cd, sizes_below (length base) list, made.ok.0, made.ok.1, made.small)

pub overflow_add-above : goal.overflow_add-above
overflow_add-above c =
    let base = c.args.code.now.items in
    let list = map destination_of c.args.list.now in
    let made = c.emit_destinations.new.code in
    let cd = code.destinations_code (length base) list in
    omega (arith, c.sizes-above.ensures, ap length c.in_ok-emit_destinations.ensures, length-append base cd, sizes_below (length base) list, made.ok.0, made.ok.1, made.small)
