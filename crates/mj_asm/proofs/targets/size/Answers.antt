use Rattle.std.proofs.Common.{◌+◌, sym, ap, ◌∙◌}
use Rattle.mj_ast.specs.declared.expr.Variable.{out-Variable}
use Rattle.mj_ast.specs.Trees.{variable_of, destination_of}
use Rattle.mj_asm.specs.Code as code
use Rattle.mj_asm.proofs.Rows.{reference_count, count_is}
use Rattle.mj_asm.proofs.targets.size.Goals as goal

pub returns-in-Whole : goal.returns-in-Whole
returns-in-Whole c =
    let v = c.in-Whole.variable in
    c.len.ensures ∙ (out-Variable v).subscripts.ok.0 ∙ sym (reference_count v)
    ∙ ap (λ d. code.size (destination_of d)) (sym c.in-Whole.is)

pub returns-in-Pieces : goal.returns-in-Pieces
returns-in-Pieces c =
    let v = c.in-Pieces.variable in
    let es = c.in-Pieces.arguments in
    let first = c.len-in-Pieces.ensures ∙ (out-Variable v).subscripts.ok.0 ∙ sym (reference_count v) in
    let second = c.len-in-Pieces-2.ensures ∙ es.ok.0 ∙ sym (count_is es.items) in
    ap (λ n. n + c.len-in-Pieces-2.result) first
    ∙ ap (λ n. (code.reference (variable_of v)).count + n) second
    ∙ ap (λ d. code.size (destination_of d)) (sym c.in-Pieces.is)
