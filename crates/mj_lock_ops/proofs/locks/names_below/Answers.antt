use Rattle.std.proofs.Common.{◌≡◌, ℕ, ◌+◌, ◌-◌, ◌≤◌, List, ◌∷◌, ◌++◌, [], length, drop, ap, sym, ◌∙◌, arith, length-append}
use Rattle.std.proofs.lemmas.Grind.{common_steps}
use Rattle.std.specs.Prelude.{Ok, Err}
use Rattle.mj_text.specs.Failing.{then_value}
use Rattle.mj_semantics.specs.Evaluation.{name_of}
use Rattle.mj_pcode.specs.Machine.{counts, names_on, operands}
use Rattle.mj_machine.specs.Kept.{stack_of}
use Rattle.mj_lock_ops.specs.Wanted.{listed}
use Rattle.mj_lock_ops.proofs.Wanting.{counts_left, names_fault, names_step, names_grow}
use Rattle.mj_lock_ops.proofs.locks.names_below.Goals as goal

pub name_below-requires : goal.name_below-requires
name_below-requires c =
    let refs = c.args.references.now in
    let i = c.loop-reference.reference-index in
    let r = c.reference-item.result in
    let rest = drop (i + 1) refs in
    let at : drop i refs ≡ r ∷ rest = grind (arith, common_steps, c.reference-item.is) in
    omega (arith, c.requires, c.loop-reference.invariant.more, ap counts at, counts_left refs i)

pub returns-in-Err-clause-names : goal.returns-in-Err-clause-names
returns-in-Err-clause-names c =
    let refs = c.args.references.now in
    let i = c.loop-reference.reference-index in
    let r = c.reference-item.result in
    let rest = drop (i + 1) refs in
    let st = drop c.args.above (stack_of c.args.machine.now) in
    let at : drop i refs ≡ r ∷ rest = grind (arith, common_steps, c.reference-item.is) in
    let more : c.loop-reference.more - r.count ≡ counts rest = omega (arith, c.loop-reference.invariant.more, ap counts at) in
    let name : name_of r.scope r.word (operands r.count (drop (counts rest) st)) ≡ Err c.in-Err.fault =
    ap (λ k. name_of r.scope r.word (operands r.count (drop k st))) (sym more) ∙ sym c.in_ok-name.ensures ∙ c.in-Err.is in
    sym (ap (λ l. then_value (names_on l st) (λ xs. Ok (listed c.loop-reference.names ++ xs))) at
    ∙ ap (λ o. then_value o (λ xs. Ok (listed c.loop-reference.names ++ xs))) (names_fault r rest st c.in-Err.fault name))
    ∙ c.loop-reference.invariant.names

pub loop-reference-preserved : goal.loop-reference-preserved
loop-reference-preserved c =
    let refs = c.args.references.now in
    let i = c.loop-reference.reference-index in
    let r = c.reference-item.result in
    let rest = drop (i + 1) refs in
    let st = drop c.args.above (stack_of c.args.machine.now) in
    let x = c.in-Ok.name in
    let at : drop i refs ≡ r ∷ rest = grind (arith, common_steps, c.reference-item.is) in
    let more : c.loop-reference.more - r.count ≡ counts rest = omega (arith, c.loop-reference.invariant.more, ap counts at) in
    let name : name_of r.scope r.word (operands r.count (drop (counts rest) st)) ≡ Ok x =
    ap (λ k. name_of r.scope r.word (operands r.count (drop k st))) (sym more) ∙ sym c.in_ok-name.ensures ∙ c.in-Ok.is in
    record {
      more = more;
      names = names_grow (names_on rest st) (listed c.loop-reference.names) c.in_ok-one_more.field-0 x c.in_ok-one_more.ensures
          ∙ sym (ap (λ l. then_value (names_on l st) (λ xs. Ok (listed c.loop-reference.names ++ xs))) at
          ∙ ap (λ o. then_value o (λ xs. Ok (listed c.loop-reference.names ++ xs))) (names_step r rest st x name))
          ∙ c.loop-reference.invariant.names;
      some = omega (arith, ap length c.in_ok-one_more.ensures, length-append (listed c.loop-reference.names) (x ∷ []));
    }
