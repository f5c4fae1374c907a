use Rattle.std.proofs.Common.{◌≡◌, List, ◌++◌, ◌∷◌, [], take, ℕ, Some, Result, Ok, Err, sym, ap, ◌∙◌, subst, arith}
use Rattle.std.specs.Prelude.{All}
use Rattle.std.specs.List.{AllZip}
use Rattle.std.proofs.lemmas.List.{take_all}
use Rattle.std.proofs.lemmas.List.Elements.{All-push}
use Rattle.mj_ask.specs.declared.bounds.Bounds.{Bounds}
use Rattle.mj_ast.specs.declared.routine.Routine.{Routine}
use Rattle.mj_load.specs.Image.{IsWithinLimits, names_of, repeated}
use Rattle.mj_rou.proofs.Routines.{ok_if}
use Rattle.mj_script.specs.declared.script.Source.{Source}
use Rattle.mj_script.specs.Scripts.{IsReadFrom, source_of, sources_of}
use Rattle.mj_script.proofs.Loading.{one_more, of_each, there, names_same, unread_at, unread_told, none_twice}
use Rattle.mj_script.proofs.script.loaded.Goals as goal

abbrev IsOf : Source → Routine → Type 0
IsOf source routine = IsReadFrom (source_of source) routine

pub sources-preserved : goal.sources-preserved
sources-preserved c =
    let l = c.sources in
    let old = l.routines.items in
    let routine = c.in_ok-routine.routine in
    let said = c.in_ok-routine.ensures in
    let pushed = ok_if c.push.result c.is_err.result (old ++ routine ∷ []) old c.push.new.self.items c.push.ensures.items c.is_err.ensures.value c.if-is_err.false in
    record {
      within = subst (All IsWithinLimits) (sym pushed) (All-push IsWithinLimits old routine l.invariant.within said.within);
      read = one_more IsOf c.args.sources.now old c.push.new.self.items l.source-index c.source-item.result routine c.sources-test.true l.invariant.read
          (subst (λ s. IsOf s routine) c.source-item.is said.read) pushed;
      up = omega (arith, c.sources-test.true);
    }

zipped : (sources : List Source) (routines : List Routine) (k : ℕ) → take k sources ≡ sources → AllZip IsOf (take k sources) routines
    → AllZip IsReadFrom (sources_of sources) routines
zipped sources routines k all read = of_each source_of IsReadFrom sources routines (subst (λ ss. AllZip IsOf ss routines) all read)

pub returns-in_err-routine-clause-unread : goal.returns-in_err-routine-clause-unread
returns-in_err-routine-clause-unread c =
    let l = c.sources in
    let sources = c.args.sources.now in
    let item = c.source-item.result in
    let at = there source_of sources l.source-index item c.sources-test.true ∙ ap (λ (s : Source). Some (source_of s)) (sym c.source-item.is) in
    unread_told (sources_of sources) c.from_residual.result c.in_err-routine.field-0.0 c.from_residual.ensures.1
    (unread_at (sources_of sources) l.source-index (source_of item) c.in_err-routine.field-0.0 at c.in_err-routine.ensures.unread)

pub returns-in-Ok-clause-ok : goal.returns-in-Ok-clause-ok
returns-in-Ok-clause-ok c =
    let l = c.sources in
    let sources = c.args.sources.now in
    let read = zipped sources l.routines.items l.source-index (take_all l.source-index sources c.sources-test.false) l.invariant.read in
    (subst (AllZip IsReadFrom (sources_of sources)) (sym c.in-Ok.ensures.ok) read, c.in-Ok.ensures.bounds)

pub returns-in-Ok-clause-long : goal.returns-in-Ok-clause-long
returns-in-Ok-clause-long c = ap (λ (b : Bounds). b.limit) c.in-Ok.ensures.bounds

pub returns-in-Ok-clause-apart : goal.returns-in-Ok-clause-apart
returns-in-Ok-clause-apart c =
    let l = c.sources in
    let sources = c.args.sources.now in
    let routines = l.routines.items in
    let read = zipped sources routines l.source-index (take_all l.source-index sources c.sources-test.false) l.invariant.read in (
      (routines, read),
      sym (ap (repeated []) (names_same (sources_of sources) routines read))
          ∙ none_twice (repeated [] (names_of routines)) (λ name e. ok_or_err _ _ _ c.in-Ok.is ((c.load.ensures.twice name).1 e)),
    )
  where
    ok_or_err : {A B : Type 0} (r : Result A B) (a : A) (b : B) → r ≡ Ok a → r ≡ Err b → ⊥
    ok_or_err r a b e f = let no : Ok a ≡ Err b = sym e ∙ f in cc

pub returns-clause-unread : goal.returns-clause-unread
returns-clause-unread c =
    let l = c.sources in
    let sources = c.args.sources.now in
    let read = zipped sources l.routines.items l.source-index (take_all l.source-index sources c.sources-test.false) l.invariant.read in
    sym (ap (repeated []) (names_same (sources_of sources) l.routines.items read)) ∙ (c.load.ensures.twice c.in-Err-Twice.name).0 (c.in-Err-Twice.is ∙ ap Err c.in-Err-Twice.field-0-is)
