use Rattle.std.proofs.Common.{◌≡◌, ◌+◌, ◌∷◌, drop, ◌++◌, length, map, ap, sym, ◌∙◌, arith}
use Rattle.std.proofs.lemmas.Grind.{common_steps}
use Rattle.mj_ast.specs.Trees.{jumped_of}
use Rattle.mj_asm.specs.Code.{code_if, jump_code, jumps_code}
use Rattle.mj_asm.specs.Sites.{here_of}
use Rattle.mj_asm.proofs.Emitted.{one_more}
use Rattle.mj_asm.proofs.emit.emit_jumps.Goals as goal

pub loop-jumped-preserved : goal.loop-jumped-preserved
loop-jumped-preserved c =
    let base = c.loop-jumped.code.items in
    let here = here_of c.args.site in
    let x = c.jumped-item.result in
    let behind = drop (c.loop-jumped.jumped-index + 1) c.args.list.now in
    let at : drop c.loop-jumped.jumped-index c.args.list.now ≡ x ∷ behind = grind (arith, common_steps, c.jumped-item.is) in
    one_more base (code_if (length base) (jumped_of x).condition (jump_code here (jumped_of x)))
    (λ k. jumps_code here k (map jumped_of behind)) c.emit_jumped.new.code.items c.in_ok-emit_jumped.ensures
    ∙ ap (λ ls. base ++ jumps_code here (length base) (map jumped_of ls)) (sym at)
    ∙ c.loop-jumped.invariant
