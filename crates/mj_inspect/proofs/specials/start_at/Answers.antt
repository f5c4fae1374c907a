use Rattle.std.proofs.Common.{◌≡◌, ◌∙◌, ◌==◌, ◌∷◌, ℕ, List, true, false, [], eqb-true, sym, ap, subst}
use Rattle.mj_semantics.specs.Job.{Start}
use Rattle.mj_core.specs.Runs.{start_in}
use Rattle.mj_inspect.specs.Specials.{IsNowhere}
use Rattle.mj_inspect.specs.Stands.{starts_of}
use Rattle.mj_inspect.proofs.Started.{nowhere_other, nowhere_nothing}
use Rattle.mj_inspect.proofs.specials.start_at.Goals as goal

pub returns-then-is_same-clause-some : goal.returns-then-is_same-clause-some
returns-then-is_same-clause-some g c =
    let on : (c.in-Some.job == c.args.number) ≡ true = sym c.is_same.ensures ∙ c.if-is_same.true in
    sym c.job_started.ensures
    ∙ ap starts_of c.in-Some.is
    ∙ ap (λ (n : ℕ). start_in n c.in-Some.start.now ∷ []) (eqb-true c.in-Some.job c.args.number on)

pub returns-else-is_same-clause-none : goal.returns-else-is_same-clause-none
returns-else-is_same-clause-none g c =
    let off : (c.in-Some.job == c.args.number) ≡ false = sym c.is_same.ensures ∙ c.if-is_same.false in
    let P : List Start → Type 0 = λ starts. IsNowhere c.args.number starts in
    subst P (sym (ap starts_of c.in-Some.is) ∙ c.job_started.ensures) (nowhere_other c.args.number c.in-Some.job c.in-Some.start.now off)

pub returns-in-None-clause-none : goal.returns-in-None-clause-none
returns-in-None-clause-none g c =
    let P : List Start → Type 0 = λ starts. IsNowhere c.args.number starts in
    subst P (sym (ap starts_of c.in-None.is) ∙ c.job_started.ensures) (nowhere_nothing c.args.number)
