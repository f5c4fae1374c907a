-- A trace can open a run, and what is told of its opening and of the events that were made is told of those of the trace.
use Rattle.std.proofs.Common.{◌≤◌, List, length, sym, subst}
use Rattle.std.specs.Prelude.{IfOk, IfErr}
use Rattle.mj_ask.specs.declared.noted.Noted.{Noted}
use Rattle.mj_load.specs.Image.{program_of}
use Rattle.mj_sys.specs.Shared.{Shared}
use Rattle.mj_replica.specs.Replays.{history_of}
use Rattle.mj_replay.specs.Traces.{opening_in}
use Rattle.mj_replay.proofs.Beginning as opened
use Rattle.mj_retrace.specs.Retraced.{IsRetraced, IsUntraced}
use Rattle.mj_retrace.proofs.retracing.retrace.Goals as goal

pub retrace_over-requires-clause-some : goal.retrace_over-requires-clause-some
retrace_over-requires-clause-some c = opened.some c.args.trace.now c.requires.written c.in-Ok.pool c.in-Ok.starts.items c.in-Ok.ensures.pool c.in-Ok.ensures.starts

pub retrace_over-requires-clause-few : goal.retrace_over-requires-clause-few
retrace_over-requires-clause-few c = opened.few c.args.trace.now c.requires.written c.in-Ok.pool c.in-Ok.starts.items c.in-Ok.ensures.pool c.in-Ok.ensures.starts

pub retrace_over-requires-clause-fits : goal.retrace_over-requires-clause-fits
retrace_over-requires-clause-fits c = opened.fits c.args.trace.now c.requires.written c.in-Ok.pool c.in-Ok.starts.items c.in-Ok.ensures.pool c.in-Ok.ensures.starts

pub retrace_over-requires-clause-bare : goal.retrace_over-requires-clause-bare
retrace_over-requires-clause-bare c = opened.bare c.args.trace.now c.requires.written c.in-Ok.pool c.in-Ok.starts.items c.in-Ok.ensures.pool c.in-Ok.ensures.starts

pub retrace_over-requires-clause-room : goal.retrace_over-requires-clause-room
retrace_over-requires-clause-room c = subst (λ (events : List Noted). length events ≤ c.args.image.bounds.events) (sym c.events.ensures) c.requires.room

pub returns-in-Ok-clause-told : goal.returns-in-Ok-clause-told
returns-in-Ok-clause-told c =
    let image = program_of c.args.image in
    let result = c.retrace_over.result in
    let opening = opening_in c.args.globals.content c.args.trace.now in
    let P : Shared → Type 0 = λ o. IfOk result (λ told. IsRetraced image o (history_of c.events.result.now)
    told.spots.items told.asked.items told.stands.items told.holds.items told.past.items) in
    let Q : List Noted → Type 0 = λ events. IfOk result (λ told. IsRetraced image opening (history_of events)
    told.spots.items told.asked.items told.stands.items told.holds.items told.past.items) in
    let same = opened.opens c.args.trace.now c.requires.written c.in-Ok.pool c.in-Ok.starts.items c.in-Ok.ensures.pool c.in-Ok.ensures.starts c.args.globals.content in
    subst Q c.events.ensures (subst P same c.retrace_over.ensures.told)

pub returns-in-Ok-clause-why : goal.returns-in-Ok-clause-why
returns-in-Ok-clause-why c =
    let image = program_of c.args.image in
    let result = c.retrace_over.result in
    let opening = opening_in c.args.globals.content c.args.trace.now in
    let P : Shared → Type 0 = λ o. IfErr result (λ why. IsUntraced image o (history_of c.events.result.now) why) in
    let Q : List Noted → Type 0 = λ events. IfErr result (λ why. IsUntraced image opening (history_of events) why) in
    let same = opened.opens c.args.trace.now c.requires.written c.in-Ok.pool c.in-Ok.starts.items c.in-Ok.ensures.pool c.in-Ok.ensures.starts c.args.globals.content in
    subst Q c.events.ensures (subst P same c.retrace_over.ensures.why)
