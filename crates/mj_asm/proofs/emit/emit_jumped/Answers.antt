use Rattle.std.proofs.Common.{ℕ, ap, sym, ◌∙◌, ◌++◌, length}
use Rattle.std.specs.Prelude.{option_map}
use Rattle.mj_ast.specs.Trees.{expr_of, jumped_of}
use Rattle.mj_pcode.specs.declared.instr.Instr.TheVariants.{JumpUnless}
use Rattle.mj_asm.specs.Code.{expr_code, jump_code, code_if}
use Rattle.mj_asm.specs.Sites.{here_of}
use Rattle.mj_asm.proofs.Emitted.{tested}
use Rattle.mj_asm.proofs.emit.emit_jumped.Goals as goal

pub returns-in_ok-emit_jump-in-Some : goal.returns-in_ok-emit_jump-in-Some
returns-in_ok-emit_jump-in-Some c =
    let base = c.args.code.now.items in
    let test = expr_code (length base) (expr_of c.in-Some.condition) in
    let body = λ (k : ℕ). jump_code (here_of c.args.site) (jumped_of c.args.jumped.now) k in
    tested base test (λ n. JumpUnless n) body c.emit_expr.new.code.items c.put.new.code.items c.emit_jump-in-Some.new.code.items _ (JumpUnless 0) c.len-test.result
    c.in_ok-emit_expr-in-Some.ensures (c.len-test.ensures ∙ c.emit_expr.new.code.ok.0) c.in_ok-put-in-Some.ensures c.in_ok-emit_jump-in-Some.ensures c.aim.ensures
    ∙ ap (λ o. base ++ code_if (length base) o body) (ap (option_map expr_of) (sym c.in-Some.is))
