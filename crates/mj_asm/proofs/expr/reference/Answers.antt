use Rattle.std.proofs.Common.{ℕ, List, ap, sym, ◌∙◌}
use Rattle.mj_ast.specs.declared.expr.Variable.{out-Variable}
use Rattle.mj_pcode.specs.declared.instr.Reference.{Reference}
use Rattle.mj_asm.specs.Code as code
use Rattle.mj_asm.proofs.Rows.{variable_is, count_is}
use Rattle.mj_asm.proofs.expr.reference.Goals as goal

pub returns : goal.returns
returns c =
    let v = out-Variable c.args.variable.now in
    let n = c.len.ensures ∙ v.subscripts.ok.0 ∙ sym (count_is v.subscripts.items) in
    let made : List ℕ → ℕ → Reference = λ t k. record { scope = v.scope; word = t; count = k } in
    ap (λ t. made t c.len.result) c.in_ok-try_clone.ensures ∙ ap (made v.word) n ∙ ap code.reference (sym (variable_is c.args.variable.now))
