-- A trace can open a run, and what is told of its opening and of the events that were made is told of those of the trace.
use Rattle.std.proofs.Common.{◌≤◌, List, length, sym, subst}
use Rattle.std.specs.Prelude.{IfOk, IfSome}
use Rattle.mj_ask.specs.declared.noted.Noted.{Noted}
use Rattle.mj_load.specs.Image.{program_of}
use Rattle.mj_sys.specs.Shared.{Shared}
use Rattle.mj_replica.specs.Replays.{history_of}
use Rattle.mj_replay.specs.Traces.{opening_in}
use Rattle.mj_replay.proofs.Beginning as opened
use Rattle.mj_retrace.specs.Instead.{IsInstead}
use Rattle.mj_retrace.proofs.doing.does_instead.Goals as goal

pub instead_over-requires-clause-some : goal.instead_over-requires-clause-some
instead_over-requires-clause-some c = opened.some c.args.trace.now c.requires.written c.in-Ok.pool c.in-Ok.starts.items c.in-Ok.ensures.pool c.in-Ok.ensures.starts

pub instead_over-requires-clause-few : goal.instead_over-requires-clause-few
instead_over-requires-clause-few c = opened.few c.args.trace.now c.requires.written c.in-Ok.pool c.in-Ok.starts.items c.in-Ok.ensures.pool c.in-Ok.ensures.starts

pub instead_over-requires-clause-fits : goal.instead_over-requires-clause-fits
instead_over-requires-clause-fits c = opened.fits c.args.trace.now c.requires.written c.in-Ok.pool c.in-Ok.starts.items c.in-Ok.ensures.pool c.in-Ok.ensures.starts

pub instead_over-requires-clause-bare : goal.instead_over-requires-clause-bare
instead_over-requires-clause-bare c = opened.bare c.args.trace.now c.requires.written c.in-Ok.pool c.in-Ok.starts.items c.in-Ok.ensures.pool c.in-Ok.ensures.starts

pub instead_over-requires-clause-room : goal.instead_over-requires-clause-room
instead_over-requires-clause-room c = subst (λ (events : List Noted). length events ≤ c.args.image.bounds.events) (sym c.events.ensures) c.requires.room

pub returns-in-Ok : goal.returns-in-Ok
returns-in-Ok c =
    let image = program_of c.args.image in
    let result = c.instead_over.result in
    let opening = opening_in c.args.globals.content c.args.trace.now in
    let P : Shared → Type 0 = λ o. IfOk result (λ found. IfSome found (λ it.
    IsInstead image o (history_of c.events.result.now) c.args.at it.job it.ask it.spot it.told)) in
    let Q : List Noted → Type 0 = λ events. IfOk result (λ found. IfSome found (λ it.
    IsInstead image opening (history_of events) c.args.at it.job it.ask it.spot it.told)) in
    let same = opened.opens c.args.trace.now c.requires.written c.in-Ok.pool c.in-Ok.starts.items c.in-Ok.ensures.pool c.in-Ok.ensures.starts c.args.globals.content in
    subst Q c.events.ensures (subst P same c.instead_over.ensures)
