use Rattle.std.proofs.Common.{length, ap, arith, length-append}
use Rattle.mj_ast.specs.Trees.{destination_of}
use Rattle.mj_asm.specs.Code as code
use Rattle.mj_asm.proofs.Counted.{size_below}
use Rattle.mj_asm.proofs.targets.emit_one.Goals as goal

pub size-taken-requires : goal.size-taken-requires
size-taken-requires c =
    let base = c.args.code.now.items in
    let d = destination_of c.args.destination.now in
    let made = c.emit_destination.new.code in
    let cd = code.destination_code (length base) d in
    omega (arith, ap length c.in_ok-emit_destination.ensures, length-append base cd, size_below (length base) d, made.ok.0, made.ok.1, made.small)

pub overflow_add-taken : goal.overflow_add-taken
overflow_add-taken c =
    let base = c.args.code.now.items in
    let d = destination_of c.args.destination.now in
    let made = c.emit_destination.new.code in
    let cd = code.destination_code (length base) d in
    omega (arith, c.size-taken.ensures, ap length c.in_ok-emit_destination.ensures, length-append base cd, size_below (length base) d, made.ok.0, made.ok.1, made.small)

pub emit_store-requires-clause-above : goal.emit_store-requires-clause-above
emit_store-requires-clause-above c =
    let base = c.args.code.now.items in
    let d = destination_of c.args.destination.now in
    let made = c.emit_destination.new.code in
    let cd = code.destination_code (length base) d in
    omega (arith, ap length c.in_ok-emit_destination.ensures, length-append base cd, size_below (length base) d, made.ok.0, made.ok.1, made.small)

pub emit_store-requires-clause-taken : goal.emit_store-requires-clause-taken
emit_store-requires-clause-taken c =
    let base = c.args.code.now.items in
    let d = destination_of c.args.destination.now in
    let made = c.emit_destination.new.code in
    let cd = code.destination_code (length base) d in
    omega (arith, c.size-taken.ensures, ap length c.in_ok-emit_destination.ensures, length-append base cd, size_below (length base) d, made.ok.0, made.ok.1, made.small)
