use Rattle.std.specs.Prelude.{option_copied}
use Rattle.std.proofs.Common.{◌≡◌, Some, sym, ap, ◌∙◌}
use Rattle.mj_jobvm.proofs.places.is_name_of.Goals as goal

pub returns-in-Some : goal.returns-in-Some
returns-in-Some c = λ same. sym c.name_in.ensures ∙ ap (λ n. option_copied n) c.in-Some.is ∙ ap Some (c.eq.ensures.same.0 same)
