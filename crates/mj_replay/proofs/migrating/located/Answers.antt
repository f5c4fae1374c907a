-- What is found of the events of a trace is a trace of the same run.
use Rattle.std.proofs.Common.{◌≡◌, ℕ, ◌≤◌, [], List, length, refl, sym, ap, ◌∙◌, subst, arith}
use Rattle.mj_text.specs.declared.limit.Limit.{Limit}
use Rattle.mj_ask.specs.declared.noted.Noted.{Noted}
use Rattle.mj_load.specs.Image.{program_of}
use Rattle.mj_sys.specs.Opening.{opening_of}
use Rattle.mj_sys.specs.Shared.{Shared}
use Rattle.mj_sys.specs.System.{history_limit}
use Rattle.mj_replica.specs.declared.placing.Located.{Located}
use Rattle.mj_replica.specs.declared.placing.Located.TheVariants as found
use Rattle.mj_replica.specs.Replays.{history_of}
use Rattle.mj_replica.specs.Placed.{Locates}
use Rattle.mj_trace.specs.declared.form.Form.{Form}
use Rattle.mj_replay.specs.Traces.{opening_in, IsUnmigrated}
use Rattle.mj_replay.proofs.Beginning as opened
use Rattle.mj_replay.proofs.Renewing.{first_migrated}
use Rattle.mj_replay.proofs.migrating.located.Goals as goal

pub locate_over-requires-clause-some : goal.locate_over-requires-clause-some
locate_over-requires-clause-some c = opened.some c.args.trace.now c.requires.written c.in-Ok.pool c.in-Ok.starts.items c.in-Ok.ensures.pool c.in-Ok.ensures.starts

pub locate_over-requires-clause-few : goal.locate_over-requires-clause-few
locate_over-requires-clause-few c = opened.few c.args.trace.now c.requires.written c.in-Ok.pool c.in-Ok.starts.items c.in-Ok.ensures.pool c.in-Ok.ensures.starts

pub locate_over-requires-clause-fits : goal.locate_over-requires-clause-fits
locate_over-requires-clause-fits c = opened.fits c.args.trace.now c.requires.written c.in-Ok.pool c.in-Ok.starts.items c.in-Ok.ensures.pool c.in-Ok.ensures.starts

pub locate_over-requires-clause-bare : goal.locate_over-requires-clause-bare
locate_over-requires-clause-bare c = opened.bare c.args.trace.now c.requires.written c.in-Ok.pool c.in-Ok.starts.items c.in-Ok.ensures.pool c.in-Ok.ensures.starts

pub locate_over-requires-clause-short : goal.locate_over-requires-clause-short
locate_over-requires-clause-short c =
    let few = c.requires.written.events_few in
    subst (λ (events : List Noted). length events ≤ history_limit) (sym c.events.ensures)
    (let le : length c.args.trace.now.events ≤ history_limit = omega (arith, few) in le)

pub returns-in_ok-rewritten-in-To : goal.returns-in_ok-rewritten-in-To
returns-in_ok-rewritten-in-To c =
    let program = program_of c.args.image.now in
    let opening = opening_in c.args.globals.content c.args.trace.now in
    let same = opened.opens c.args.trace.now c.requires.written c.in-Ok.pool c.in-Ok.starts.items c.in-Ok.ensures.pool c.in-Ok.ensures.starts c.args.globals.content in
    let begun = opening_of c.args.globals.content c.in-Ok.pool c.in-Ok.starts.items in
    let L : Located → Type 0 = λ l. Locates program begun c.events.result.now l in
    let P : Shared → Type 0 = λ o. Locates program o c.events.result.now (found.To c.in-To.events) in
    let Q : List Noted → Type 0 = λ events. Locates program opening events (found.To c.in-To.events) in
    first_migrated program c.args.globals.content c.args.trace.now _ c.in-To.events.items c.requires.first
    (subst Q c.events.ensures (subst P same (subst L c.in-To.is c.in_ok-found-in-Ok.ensures))) c.in_ok-rewritten-in-To.ensures

pub returns-in-Differs : goal.returns-in-Differs
returns-in-Differs c =
    let program = program_of c.args.image.now in
    let opening = opening_in c.args.globals.content c.args.trace.now in
    let same = opened.opens c.args.trace.now c.requires.written c.in-Ok.pool c.in-Ok.starts.items c.in-Ok.ensures.pool c.in-Ok.ensures.starts c.args.globals.content in
    let begun = opening_of c.args.globals.content c.in-Ok.pool c.in-Ok.starts.items in
    let L : Located → Type 0 = λ l. Locates program begun c.events.result.now l in
    let P : Shared → Type 0 = λ o. Locates program o c.events.result.now (found.Differs c.in-Differs.at) in
    let Q : List Noted → Type 0 = λ events. Locates program opening events (found.Differs c.in-Differs.at) in
    let F : Form → Type 0 = λ form. IsUnmigrated form program opening c.args.trace.now.events c.in-Differs.at in
    subst F (sym c.requires.first) (subst Q c.events.ensures (subst P same (subst L c.in-Differs.is c.in_ok-found-in-Ok.ensures)))
