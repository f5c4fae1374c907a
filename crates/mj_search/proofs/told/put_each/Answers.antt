use Rattle.std.proofs.Common.{◌∙◌, ◌+◌, ◌++◌, List, ℕ, drop, ap, sym, append_assoc, arith}
use Rattle.std.proofs.lemmas.List.{at_drop_more}
use Rattle.mj_explore.specs.declared.ends.End.{End}
use Rattle.mj_search.specs.Told.{each_end, end_lines}
use Rattle.mj_search.proofs.told.put_each.Goals as goal

pub ends-preserved : goal.ends-preserved
ends-preserved c =
    let l = c.ends in
    let ends = c.args.ends.now in
    let e = c.end-item.result in
    let rest = drop (l.end-index + 1) ends in
    ap (λ (b : List ℕ). b ++ each_end rest) c.in_ok-put_end.ensures
    ∙ append_assoc l.bytes.items (end_lines e) (each_end rest)
    ∙ ap (λ (x : End). l.bytes.items ++ (end_lines x ++ each_end rest)) c.end-item.is
    ∙ ap (λ (t : List ℕ). l.bytes.items ++ t) (sym (at_drop_more each_end ends l.end-index e (omega arith)))
    ∙ l.invariant
