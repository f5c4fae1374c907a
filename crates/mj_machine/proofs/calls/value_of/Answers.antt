use Rattle.std.proofs.Common.{ℕ, List, Result, Ok, subst, sym}
use Rattle.mj_text.specs.declared.fault.Fault.{Fault}
use Rattle.mj_text.specs.Failing.{then_value}
use Rattle.mj_num.specs.Number.{reading}
use Rattle.mj_nref.specs.Spelling.{part_at}
use Rattle.mj_strfn.specs.Functions.{AnswersOrMemory}
use Rattle.mj_ast.specs.declared.function.Function.{Function}
use Rattle.mj_semantics.specs.Functions.{call_value, spelled_name, needed as needed_of}
use Rattle.mj_machine.proofs.calls.value_of.Goals as goal

abbrev part_value : List ℕ → List ℕ → Result (List ℕ) Fault
part_value t k = then_value (spelled_name t) (λ n. then_value (reading k) (λ p. Ok (part_at n p)))

pub returns-in-QSubscript : goal.returns-in-QSubscript
returns-in-QSubscript c =
    let first : List ℕ → Type 0 = λ t. AnswersOrMemory (part_value t c.needed-second.result.now) c.name_part.result in
    let second : List ℕ → Type 0 = λ k. AnswersOrMemory (part_value (needed_of 0 c.args.arguments.now) k) c.name_part.result in
    let whole : Function → Type 0 = λ f. AnswersOrMemory (call_value c.args.limit f c.args.arguments.now) c.name_part.result in
    subst whole (sym c.in-QSubscript.is) (subst second c.needed-second.ensures (subst first c.needed-first.ensures c.name_part.ensures))
