use Rattle.std.proofs.Common.{◌∙◌, List, ◌++◌, ◌∷◌, [], take, take_all, sym, ap, subst, arith}
use Rattle.std.proofs.lemmas.List.Elements.{All-push}
use Rattle.std.specs.Prelude.{All}
use Rattle.mj_ask.specs.declared.bounds.Bounds.{Bounds}
use Rattle.mj_ast.specs.declared.routine.Routine.{Routine}
use Rattle.mj_load.specs.Image.{Loaded, IsWithinLimits}
use Rattle.mj_rou.proofs.Routines.{ok_if}
use Rattle.mj_begin.specs.Names.{name_at}
use Rattle.mj_begin.specs.Words.{WasRead, WereRead}
use Rattle.mj_begin.proofs.Worded.{are_worded}
use Rattle.mj_begin.proofs.Loading.{one_named}
use Rattle.mj_begin.proofs.routines.loaded.Goals as goal

pub loop-file-preserved : goal.loop-file-preserved
loop-file-preserved g c =
    let l = c.loop-file in
    let old = l.routines.items in
    let routine = c.in_ok-routine.routine in
    let said = c.in_ok-routine.ensures in
    let pushed = ok_if c.push.result c.is_err.result (old ++ routine ∷ []) old c.push.new.self.items c.push.ensures.items c.is_err.ensures.value c.if-is_err.false in
    record {
      within = subst (All IsWithinLimits) (sym pushed) (All-push IsWithinLimits old routine l.invariant.within said.within);
      were = subst (WereRead _) (sym pushed) (record {
        named = one_named (λ path. name_at path.now) (λ r. r.name) c.args.files.now old l.file-index _ routine c.loop-file-test.true l.invariant.were.named said.named;
        read = All-push WasRead old routine l.invariant.were.read said.read;
      });
      up = omega (arith, c.loop-file-test.true);
    }

pub returns-in-Ok-clause-read : goal.returns-in-Ok-clause-read
returns-in-Ok-clause-read g c =
    let P : List Routine → Type 0 = λ rs. WereRead c.args.files.now rs in
    let l = c.loop-file in
    subst P (sym (ap (λ (i : Loaded). i.routines) c.with_events.ensures ∙ c.in-Ok.ensures.ok))
    (subst (λ files. WereRead files l.routines.items) (take_all l.file-index c.args.files.now (omega (arith, c.loop-file-test.false))) l.invariant.were)

pub returns-in-Ok-clause-limit : goal.returns-in-Ok-clause-limit
returns-in-Ok-clause-limit g c = ap (λ (i : Loaded). i.bounds.limit) c.with_events.ensures ∙ ap (λ (b : Bounds). b.limit) c.in-Ok.ensures.bounds

pub returns-in-Ok-clause-events : goal.returns-in-Ok-clause-events
returns-in-Ok-clause-events g c = ap (λ (i : Loaded). i.bounds.events) c.with_events.ensures

pub returns-in-Ok-clause-worded : goal.returns-in-Ok-clause-worded
returns-in-Ok-clause-worded g c =
    let P : List Routine → Type 0 = λ rs. All WasRead rs in
    let same = ap (λ (i : Loaded). i.routines) c.with_events.ensures ∙ c.in-Ok.ensures.ok in
    are_worded c.has_words.ensures c.with_events.result.routines (subst P (sym same) c.loop-file.invariant.were.read)
