-- A trace can open a run, and what is said of its opening and of the events that were made is said of those of the trace.
use Rattle.std.proofs.Common.{◌≤◌, List, length, sym, subst, arith}
use Rattle.std.specs.Prelude.{IfOk}
use Rattle.mj_ask.specs.declared.noted.Noted.{Noted}
use Rattle.mj_load.specs.Image.{program_of}
use Rattle.mj_sys.specs.Shared.{Shared}
use Rattle.mj_sys.specs.System.{history_limit}
use Rattle.mj_trace.specs.declared.form.Form.{Form}
use Rattle.mj_replay.specs.Traces.{opening_in, SaysBy}
use Rattle.mj_replay.proofs.Beginning as opened
use Rattle.mj_replay.proofs.replaying.replay_trace.Goals as goal

pub replay_over-requires-clause-some : goal.replay_over-requires-clause-some
replay_over-requires-clause-some c = opened.some c.args.trace.now c.requires.written c.in-Ok.pool c.in-Ok.starts.items c.in-Ok.ensures.pool c.in-Ok.ensures.starts

pub replay_over-requires-clause-few : goal.replay_over-requires-clause-few
replay_over-requires-clause-few c = opened.few c.args.trace.now c.requires.written c.in-Ok.pool c.in-Ok.starts.items c.in-Ok.ensures.pool c.in-Ok.ensures.starts

pub replay_over-requires-clause-fits : goal.replay_over-requires-clause-fits
replay_over-requires-clause-fits c = opened.fits c.args.trace.now c.requires.written c.in-Ok.pool c.in-Ok.starts.items c.in-Ok.ensures.pool c.in-Ok.ensures.starts

pub replay_over-requires-clause-bare : goal.replay_over-requires-clause-bare
replay_over-requires-clause-bare c = opened.bare c.args.trace.now c.requires.written c.in-Ok.pool c.in-Ok.starts.items c.in-Ok.ensures.pool c.in-Ok.ensures.starts

pub replay_over-requires-clause-short : goal.replay_over-requires-clause-short
replay_over-requires-clause-short c =
    let few = c.requires.written.events_few in
    subst (λ (events : List Noted). length events ≤ history_limit) (sym c.events.ensures)
    (let le : length c.args.trace.now.events ≤ history_limit = omega (arith, few) in le)

pub returns-in-Ok : goal.returns-in-Ok
returns-in-Ok c =
    let image = program_of c.args.image.now in
    let result = c.replay_over.result in
    let opening = opening_in c.args.globals.content c.args.trace.now in
    let P : Shared → Type 0 = λ o. IfOk result (λ verdict. SaysBy c.form.result image o c.events.result.now verdict) in
    let Q : List Noted → Type 0 = λ events. IfOk result (λ verdict. SaysBy c.form.result image opening events verdict) in
    let F : Form → Type 0 = λ form. IfOk result (λ verdict. SaysBy form image opening c.args.trace.now.events verdict) in
    let same = opened.opens c.args.trace.now c.requires.written c.in-Ok.pool c.in-Ok.starts.items c.in-Ok.ensures.pool c.in-Ok.ensures.starts c.args.globals.content in
    subst F c.form.ensures (subst Q c.events.ensures (subst P same c.replay_over.ensures))
