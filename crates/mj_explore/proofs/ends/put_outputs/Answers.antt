use Rattle.std.proofs.Common.{◌≡◌, ◌∙◌, ◌+◌, ◌++◌, ℕ, List, ap, lit<}
use Rattle.std.proofs.lemmas.Fmt.{decimal_digit}
use Rattle.mj_dev.specs.Shelves.{principal}
use Rattle.mj_core.specs.Runs.{out_of}
use Rattle.mj_explore.specs.Ends.{output_text}
use Rattle.mj_explore.proofs.Ending.{outputs_on}
use Rattle.mj_explore.proofs.ends.put_outputs.Goals as goal

-- the name of the principal device is the spelling of 0
pub jobs-preserved : goal.jobs-preserved
jobs-preserved g c =
    let l = c.jobs in
    let output : ℕ → List ℕ = λ job. out_of c.args.core.now.history job principal 1 in
    let name : c.from_number-name.result ≡ principal = c.from_number-name.ensures ∙ decimal_digit 0 (lit< tt) in
    let out : c.deref.result.now ≡ output (l.done + 1) = c.deref.ensures.value ∙ c.in_ok-output.ensures ∙ ap (λ n. out_of c.args.core.now.history (l.done + 1) n 1) name in
    outputs_on output l.done c.args.text.now.items l.text.items c.put_output.new.text.items l.invariant
    (c.in_ok-put_output.ensures ∙ ap (λ (o : List ℕ). l.text.items ++ output_text (l.done + 1) o) out)
