use Rattle.std.specs.Prelude.{option_copied}
use Rattle.std.proofs.Common.{sym, ◌∙◌, ap, arith}
use Rattle.mj_faults.proofs.Entries.{started_here, started_later, started_nowhere}
use Rattle.mj_faults.proofs.history.started_in.Goals as goal

pub returns-in-Some : goal.returns-in-Some
returns-in-Some g c =
    sym (started_here c.args.job (g.H.Events.history c.args.told.now) c.events.at c.in-Some.start.now c.events.invariant
    (sym c.started_at.ensures ∙ ap option_copied c.in-Some.is))

pub events-preserved : goal.events-preserved
events-preserved g c =
    started_later c.args.job (g.H.Events.history c.args.told.now) c.events.at c.events.invariant (sym c.started_at.ensures ∙ ap option_copied c.in_default.is)

pub returns : goal.returns
returns g c =
    sym (started_nowhere c.args.job (g.H.Events.history c.args.told.now) c.events.at c.events.invariant (omega (arith, c.events-test.false, c.count-at-end.ensures)))
