use Rattle.std.proofs.Common.{◌+◌, sym, ap, ◌∙◌}
use Rattle.mj_ast.specs.declared.expr.Variable.{out-Variable}
use Rattle.mj_asm.proofs.Rows.{reference_count}
use Rattle.mj_asm.proofs.devices.with_value.Goals as goal

pub returns : goal.returns
returns c =
    let v = c.args.variable.now in
    ap (λ n. n + 1) (c.len.ensures ∙ (out-Variable v).subscripts.ok.0 ∙ sym (reference_count v))
