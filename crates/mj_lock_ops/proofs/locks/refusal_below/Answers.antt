use Rattle.std.proofs.Common.{◌≡◌, ℕ, ◌+◌, ◌-◌, ◌≤◌, List, ◌∷◌, drop, Some, None, refl, ap, sym, ◌∙◌, arith, reverse}
use Rattle.std.proofs.lemmas.Grind.{common_steps}
use Rattle.std.specs.Prelude.{Ok, Err}
use Rattle.mj_semantics.specs.Evaluation.{name_of}
use Rattle.mj_pcode.specs.Machine.{counts, names_on, operands}
use Rattle.mj_machine.specs.Kept.{stack_of}
use Rattle.mj_variable_ops.specs.Answers.{no_name, name_with}
use Rattle.mj_variable_ops.proofs.Named.{not_named, is_named}
use Rattle.mj_lock_ops.specs.Wanted.{refused}
use Rattle.mj_lock_ops.proofs.Wanting.{counts_left, names_fault, refused_step}
use Rattle.mj_lock_ops.proofs.locks.refusal_below.Goals as goal

pub below_both-subscripts-requires : goal.below_both-subscripts-requires
below_both-subscripts-requires c =
    let refs = c.args.references.now in
    let i = c.loop-reference.reference-index in
    let r = c.reference-item.result in
    let rest = drop (i + 1) refs in
    let at : drop i refs ≡ r ∷ rest = grind (arith, common_steps, c.reference-item.is) in
    omega (arith, c.requires, c.loop-reference.invariant.more, ap counts at, counts_left refs i)

pub returns-in-Some : goal.returns-in-Some
returns-in-Some c =
    let refs = c.args.references.now in
    let i = c.loop-reference.reference-index in
    let r = c.reference-item.result in
    let rest = drop (i + 1) refs in
    let st = drop c.args.above (stack_of c.args.machine.now) in
    let at : drop i refs ≡ r ∷ rest = grind (arith, common_steps, c.reference-item.is) in
    let more : c.loop-reference.more - r.count ≡ counts rest = omega (arith, c.loop-reference.invariant.more, ap counts at) in
    let ss : List (List ℕ) = operands r.count (drop (counts rest) st) in
    let under : c.below_both-subscripts.result.now ≡ ss =
    c.below_both-subscripts.ensures ∙ ap (λ l. operands r.count (drop (c.loop-reference.more - r.count) (drop c.args.above (reverse l)))) c.deref.ensures.value
    ∙ ap (λ k. operands r.count (drop k st)) more in
    let no : no_name ss ss ≡ Some c.in-Some.fault = sym (c.refusal.ensures ∙ ap (λ l. no_name l l) under) ∙ c.in-Some.is in
    let name : name_of r.scope r.word ss ≡ Err c.in-Some.fault = not_named r.scope r.word ss ss c.in-Some.fault no in
    sym (ap (λ l. refused (names_on l st)) at ∙ ap refused (names_fault r rest st c.in-Some.fault name)) ∙ c.loop-reference.invariant.names

pub loop-reference-preserved : goal.loop-reference-preserved
loop-reference-preserved c =
    let refs = c.args.references.now in
    let i = c.loop-reference.reference-index in
    let r = c.reference-item.result in
    let rest = drop (i + 1) refs in
    let st = drop c.args.above (stack_of c.args.machine.now) in
    let at : drop i refs ≡ r ∷ rest = grind (arith, common_steps, c.reference-item.is) in
    let more : c.loop-reference.more - r.count ≡ counts rest = omega (arith, c.loop-reference.invariant.more, ap counts at) in
    let ss : List (List ℕ) = operands r.count (drop (counts rest) st) in
    let under : c.below_both-subscripts.result.now ≡ ss =
    c.below_both-subscripts.ensures ∙ ap (λ l. operands r.count (drop (c.loop-reference.more - r.count) (drop c.args.above (reverse l)))) c.deref.ensures.value
    ∙ ap (λ k. operands r.count (drop k st)) more in
    let no : no_name ss ss ≡ None = sym (c.refusal.ensures ∙ ap (λ l. no_name l l) under) ∙ c.in_default.is in
    record {
      more = more;
      names = sym (ap (λ l. refused (names_on l st)) at ∙ refused_step r rest st (name_with r.scope r.word ss) (is_named r.scope r.word ss ss no))
          ∙ c.loop-reference.invariant.names;
    }
