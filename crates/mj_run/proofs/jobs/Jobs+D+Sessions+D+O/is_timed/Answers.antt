use Rattle.std.proofs.Common.{◌≡◌, Bool, false, Option, Some, None, sym, ap, ◌∙◌}
use Rattle.std.specs.Option.{is_some}
use Rattle.mj_ask.specs.declared.ask.Ask.{Ask}
use Rattle.mj_ask.specs.Fits.{timeout_of}
use Rattle.mj_core.specs.Shown.{Shown, stand_at}
use Rattle.mj_run.specs.Stepping.{is_timed}
use Rattle.mj_run.proofs.Stepping.{timed_as}
use Rattle.mj_run.proofs.jobs.Jobs+D+Sessions+D+O.is_timed.Goals as goal

abbrev by : Option Ask → Bool
by pending = elim pending as (λ _. Bool) [ None ↦ false | Some a ↦ is_some (timeout_of a) ]

pub returns-in_default : goal.returns-in_default
returns-in_default g c =
    let at : stand_at c.self.inside.core.stands c.args.job ≡ stand_at c.args.self.now.stands c.args.job =
    ap (λ (core : Shown). stand_at core.stands c.args.job) c.self.view_is in
    sym (ap is_timed (sym at ∙ c.in_default.ensures.none))

pub returns-in-None : goal.returns-in-None
returns-in-None g c =
    let at : stand_at c.self.inside.core.stands c.args.job ≡ stand_at c.args.self.now.stands c.args.job =
    ap (λ (core : Shown). stand_at core.stands c.args.job) c.self.view_is in
    let shown = c.in-Some.ensures.shown in
    sym (ap is_timed (sym at ∙ shown.1) ∙ timed_as c.in-Some.found.now.run.pending shown.0 shown.2.2 ∙ ap by (sym c.in-None.ensures))

pub returns-in-Some-ask : goal.returns-in-Some-ask
returns-in-Some-ask g c =
    let at : stand_at c.self.inside.core.stands c.args.job ≡ stand_at c.args.self.now.stands c.args.job =
    ap (λ (core : Shown). stand_at core.stands c.args.job) c.self.view_is in
    let shown = c.in-Some.ensures.shown in
    c.is_some.ensures ∙ ap is_some c.timeout.ensures
    ∙ sym (ap is_timed (sym at ∙ shown.1) ∙ timed_as c.in-Some.found.now.run.pending shown.0 shown.2.2 ∙ ap by (sym c.in-Some-ask.ensures))
