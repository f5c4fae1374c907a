use Rattle.std.proofs.Common.{◌∙◌, ◌-◌, ◌<◌, ap, sym, length, arith, Some}
use Rattle.mj_ast.specs.declared.keyword.Keyword.{Keyword}
use Rattle.mj_unsupported.proofs.Ends.{last_at, not_empty}
use Rattle.mj_unsupported.proofs.last.last_keyword.Goals as goal

pub returns : goal.returns
returns c =
    let some : 0 < length c.args.steps.now = not_empty (length c.args.steps.now) c.is_empty.result c.is_empty.ensures c.if-is_empty.false in
    ap (λ (k : Keyword). Some k) c.keyword_for.ensures ∙ sym (last_at (length c.args.steps.now - 1) c.args.steps.now _ (omega arith))
