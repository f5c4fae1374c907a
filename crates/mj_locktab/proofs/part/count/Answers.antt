use Rattle.std.proofs.Common.{ℕ, Option, sym, ap, ◌∙◌}
use Rattle.std.specs.Prelude.{unwrap_or}
use Rattle.mj_locktab.proofs.Named.{find_held}
use Rattle.mj_locktab.proofs.part.count.Goals as goal

pub returns-in-None : goal.returns-in-None
returns-in-None c = λ job. sym (ap (λ (o : Option ℕ). unwrap_or o 0) (find_held job c.args.name.now c.args.part.now.entries ∙ sym c.in-None.ensures.value))

pub returns-in-Some : goal.returns-in-Some
returns-in-Some c = λ job. sym (ap (λ (o : Option ℕ). unwrap_or o 0) (find_held job c.args.name.now c.args.part.now.entries ∙ sym c.in-Some.ensures.value))
