-- What is read is the name that the text spells.
use Rattle.std.proofs.Common.{◌≡◌, List, ℕ, Option, Result, Ok, Err, IfOk, rules, arith}
use Rattle.std.proofs.lemmas.Grind.{common_steps}
use Rattle.mj_subs.specs.Name.{Name}
use Rattle.mj_nref.specs.Reading.{name_of, IsReading}
use Rattle.mj_nref.proofs.NameTexts.{reading}
use Rattle.mj_nref.proofs.read.read_name.Goals as goal

spelled : {E : Type 0} (bs : List ℕ) (r : Result (Option Name) E) → IfOk r (λ n. n ≡ name_of bs) → IfOk r (λ n. IsReading bs n)
spelled bs (Ok n) h = reading bs n h
spelled bs (Err e) h = tt

pub returns-in-94-clause-spelled : goal.returns-in-94-clause-spelled
returns-in-94-clause-spelled c =
    let value : IfOk c.read_name_in.result (λ n. n ≡ name_of c.args.text.now) = first_of (search rules, grind (arith, common_steps)) in
    spelled c.args.text.now c.read_name_in.result value

pub returns-in_default-clause-spelled : goal.returns-in_default-clause-spelled
returns-in_default-clause-spelled c =
    let value : IfOk c.read_name_in-in_default.result (λ n. n ≡ name_of c.args.text.now) = first_of (search rules, grind (arith, common_steps)) in
    spelled c.args.text.now c.read_name_in-in_default.result value
