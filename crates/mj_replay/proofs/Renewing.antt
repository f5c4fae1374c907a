-- A trace that is brought to today's form tells of the same run.
use Rattle.std.proofs.Common.{◌≡◌, [], List, refl, sym, ap, ◌∙◌, subst}
use Rattle.mj_store.specs.Questions.{Content}
use Rattle.mj_text.specs.declared.limit.Limit.{Limit}
use Rattle.mj_text.specs.declared.limit.Limit.TheVariants.{V1}
use Rattle.mj_ask.specs.declared.noted.Noted.{Noted}
use Rattle.mj_semantics.specs.Program.{Program}
use Rattle.mj_sys.specs.Shared.{Shared}
use Rattle.mj_core.specs.Runs.{IsRun}
use Rattle.mj_replica.specs.declared.replaying.Verdict.TheVariants as verdicts
use Rattle.mj_replica.specs.Replays.{history_of}
use Rattle.mj_replica.specs.Placed.{AllCameFrom, AreLocated}
use Rattle.mj_trace.specs.declared.form.Form.{Form}
use Rattle.mj_trace.specs.declared.form.Form.TheVariants.{First, Second}
use Rattle.mj_trace.specs.Trace.{Traced, limit_of}
use Rattle.mj_replay.specs.Traces.{opening_in, SaysBy, IsMigrated}

-- the trace with these events in today's form
abbrev pub rewritten : Traced → List Noted → Traced
rewritten trace events = record trace { form = Second (limit_of trace.form); events = events }

first_or_second : (limit : Limit) → First ≡ Second limit → ⊥
first_or_second limit e = cc

-- from the older form
pub first_migrated : (program : Program) (globals : Content) (trace new : Traced) (events : List Noted) → trace.form ≡ First
    → AreLocated program (opening_in globals trace) trace.events events → new ≡ rewritten trace events → IsMigrated program globals trace new
first_migrated program globals trace new events first are is =
    subst (IsMigrated program globals trace) (sym is) (record {
      form = refl;
      pool = refl;
      starts = refl;
      events = are.same;
      run = are.run;
      from = are.from;
      equal = λ limit e. absurd (first_or_second limit (sym first ∙ e));
    })

same_form : (form : Form) (limit : Limit) → form ≡ Second limit → Second (limit_of form) ≡ form
same_form form limit e = ap (λ f. Second (limit_of f)) e ∙ sym e

-- from today's
pub again_migrated : (program : Program) (globals : Content) (trace new : Traced) (limit : Limit) (events : List Noted) → trace.form ≡ Second limit
    → SaysBy trace.form program (opening_in globals trace) trace.events verdicts.Same → events ≡ trace.events → new ≡ rewritten trace events
    → IsMigrated program globals trace new
again_migrated program globals trace new limit events form says same is =
    let all : IsRun program (opening_in globals trace) (history_of trace.events) × AllCameFrom program (opening_in globals trace) [] trace.events =
    subst (λ f. SaysBy f program (opening_in globals trace) trace.events verdicts.Same) form says in
    let equal : new ≡ trace = is ∙ (λ i. record trace { form = same_form trace.form limit form i; events = same i }) in
    subst (IsMigrated program globals trace) (sym equal) (record {
      form = sym (same_form trace.form limit form);
      pool = refl;
      starts = refl;
      events = refl;
      run = all.0;
      from = all.1;
      equal = λ l e. refl;
    })
