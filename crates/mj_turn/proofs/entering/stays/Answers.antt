use Rattle.std.proofs.Common.{◌≡◌, ℕ, ◌-◌, List, length, take, drop, map, min, max, ap, ◌∙◌, arith, Bool}
use Rattle.std.specs.Prelude.{not, nat_lt}
use Rattle.std.specs.List.{list_any}
use Rattle.std.proofs.lemmas.List.{take_rest}
use Rattle.mj_pcode.specs.declared.instr.Head.{Head}
use Rattle.mj_turn.proofs.Going.{part_is, map_part}
use Rattle.mj_turn.proofs.entering.stays.Goals as goal

pub returns : goal.returns
returns c =
    let xs = c.args.heads.now in
    let k = min c.args.from c.args.to - 1 in
    let m = max c.args.from c.args.to in
    let level : Head → ℕ = λ h. h.level in
    let less : List ℕ → Bool = λ ls. list_any (λ l. nat_lt l c.args.level) ls in
    let end : c.min-end.result ≡ min m (length xs) = omega arith in
    let start : c.min-start.result ≡ min k (min m (length xs)) = omega arith in
    ap not
    (c.has_less_deep.ensures
    ∙ ap (λ l. less (map level l))
    (take_rest (take c.min-end.result xs) c.min-start.result
    ∙ ap (λ j. drop j (take c.min-end.result xs)) start
    ∙ ap (λ j. drop (min k (min m (length xs))) (take j xs)) end
    ∙ part_is k m xs)
    ∙ ap less (map_part level k m xs))
