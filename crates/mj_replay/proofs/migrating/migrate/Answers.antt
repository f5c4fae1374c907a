use Rattle.std.proofs.Common.{◌≡◌, List, sym, ap, ◌∙◌, subst}
use Rattle.mj_ask.specs.declared.noted.Noted.{Noted}
use Rattle.mj_load.specs.Image.{program_of}
use Rattle.mj_replica.specs.declared.replaying.Verdict.{Verdict}
use Rattle.mj_replica.specs.declared.replaying.Verdict.TheVariants as verdicts
use Rattle.mj_trace.specs.declared.form.Form.{Form}
use Rattle.mj_trace.specs.declared.form.Form.TheVariants.{Second}
use Rattle.mj_trace.specs.Trace.{Traced, limit_of}
use Rattle.mj_replay.specs.Traces.{opening_in, SaysBy, IsUnmigrated}
use Rattle.mj_replay.proofs.Renewing.{again_migrated}
use Rattle.mj_replay.proofs.migrating.migrate.Goals as goal

pub located-requires-clause-first : goal.located-requires-clause-first
located-requires-clause-first c = sym c.form.ensures ∙ c.in-First.is

pub returns-in_ok-rewritten-in-Same : goal.returns-in_ok-rewritten-in-Same
returns-in_ok-rewritten-in-Same c =
    let form : c.args.trace.now.form ≡ Second c.in-Second.field-0 = sym c.form.ensures ∙ c.in-Second.is in
    let V : Verdict → Type 0 = λ v. SaysBy c.args.trace.now.form (program_of c.args.image.now) (opening_in c.args.globals.content c.args.trace.now) c.args.trace.now.events v in
    again_migrated (program_of c.args.image.now) c.args.globals.content c.args.trace.now _ c.in-Second.field-0 c.in_ok-events-in-Same.events.items form
    (subst V c.in-Same.is c.in_ok-replay_trace-in-Second.ensures) (c.in_ok-events-in-Same.ensures ∙ c.events.ensures) c.in_ok-rewritten-in-Same.ensures

pub returns-in-Differs : goal.returns-in-Differs
returns-in-Differs c =
    let form : c.args.trace.now.form ≡ Second c.in-Second.field-0 = sym c.form.ensures ∙ c.in-Second.is in
    let program = program_of c.args.image.now in
    let opening = opening_in c.args.globals.content c.args.trace.now in
    let V : Verdict → Type 0 = λ v. SaysBy c.args.trace.now.form program opening c.args.trace.now.events v in
    let F : Form → Type 0 = λ f. SaysBy f program opening c.args.trace.now.events (verdicts.Differs c.in-Differs.at) in
    let G : Form → Type 0 = λ f. IsUnmigrated f program opening c.args.trace.now.events c.in-Differs.at in
    subst G (sym form) (subst F form (subst V c.in-Differs.is c.in_ok-replay_trace-in-Second.ensures))
