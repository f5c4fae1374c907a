use Rattle.std.proofs.Common.{◌≡◌, ℕ, Bool, List, sym, ap, ◌∙◌, subst}
use Rattle.std.specs.Prelude.{IsTrue, IfErr, if◌then◌else◌}
use Rattle.std.proofs.lemmas.Result.{on_ok_weaker, on_err_weaker}
use Rattle.mj_store.specs.Changes.{after_put}
use Rattle.mj_tree.specs.Nest.{is_too_long}
use Rattle.mj_store.specs.Questions.{Content}
use Rattle.mj_globs.specs.Words.{Words, spelled, name, of_kind, of_both}
use Rattle.mj_globs.proofs.Both.{put_globals, put_locals, rises_put, rises_either}
use Rattle.mj_text.specs.declared.fault.Failure.TheVariants as failure
use Rattle.mj_text.specs.declared.fault.Fault.TheVariants as fault
use Rattle.mj_globs.proofs.texts.TextsStore.put.Goals as goal

pub invariant_of-self : goal.invariant_of-self
invariant_of-self c = (
  c.put.ensures.rises,
  c.self.invariant.1,
  rises_either c.put.result (of_both (spelled c.self.inside.globals.entries) (spelled c.self.inside.locals.entries))
      (of_both (spelled c.put.new.words.entries) (spelled c.self.inside.locals.entries))
      (after_put (of_both (spelled c.self.inside.globals.entries) (spelled c.self.inside.locals.entries)) c.args.name.now c.args.nodes.now)
      (on_ok_weaker c.put.result (λ (changed : (g : Bool) → of_kind g (spelled c.put.new.words.entries)
      ≡ after_put (of_kind g (spelled c.self.inside.globals.entries)) (name g c.word.result.now c.subscripts.result.now) c.args.nodes.now).
      put_globals (spelled c.self.inside.globals.entries) (spelled c.self.inside.locals.entries) c.args.name.now c.args.nodes.now (spelled c.put.new.words.entries) c.if-is_global.ensures
      (λ g. changed g ∙ (λ i. after_put (of_kind g (spelled c.self.inside.globals.entries)) (name g (c.word.ensures i) (c.subscripts.ensures i)) c.args.nodes.now))) c.put.ensures.ok)
      (on_err_weaker c.put.result (λ same. ap (λ (ws : Words). of_both ws (spelled c.self.inside.locals.entries)) same) c.put.ensures.err) c.self.invariant.2
      (rises_put (of_both (spelled c.self.inside.globals.entries) (spelled c.self.inside.locals.entries)) c.args.name.now c.args.nodes.now c.self.invariant.2),
)

pub returns-then-is_global-clause-ok : goal.returns-then-is_global-clause-ok
returns-then-is_global-clause-ok c =
    on_ok_weaker c.put.result (λ e. e ∙ ap (λ (v : Content). after_put v c.args.name.now c.args.nodes.now) c.self.view_is)
    (on_ok_weaker c.put.result (λ (changed : (g : Bool) → of_kind g (spelled c.put.new.words.entries)
    ≡ after_put (of_kind g (spelled c.self.inside.globals.entries)) (name g c.word.result.now c.subscripts.result.now) c.args.nodes.now).
    put_globals (spelled c.self.inside.globals.entries) (spelled c.self.inside.locals.entries) c.args.name.now c.args.nodes.now (spelled c.put.new.words.entries) c.if-is_global.ensures
    (λ g. changed g ∙ (λ i. after_put (of_kind g (spelled c.self.inside.globals.entries)) (name g (c.word.ensures i) (c.subscripts.ensures i)) c.args.nodes.now))) c.put.ensures.ok)

pub returns-then-is_global-clause-limit : goal.returns-then-is_global-clause-limit
returns-then-is_global-clause-limit c = (
  λ e. subst (λ (p : List (List ℕ)). IsTrue (is_too_long p c.args.nodes.now)) c.subscripts.ensures (c.put.ensures.limit.0 e),
  λ h. c.put.ensures.limit.1 (subst (λ (p : List (List ℕ)). IsTrue (is_too_long p c.args.nodes.now)) (sym c.subscripts.ensures) h),
)

pub invariant_of-self-2 : goal.invariant_of-self-2
invariant_of-self-2 c = (
  c.self.invariant.0,
  c.put-2.ensures.rises,
  rises_either c.put-2.result (of_both (spelled c.self.inside.globals.entries) (spelled c.self.inside.locals.entries))
      (of_both (spelled c.self.inside.globals.entries) (spelled c.put-2.new.words.entries))
      (after_put (of_both (spelled c.self.inside.globals.entries) (spelled c.self.inside.locals.entries)) c.args.name.now c.args.nodes.now)
      (on_ok_weaker c.put-2.result (λ (changed : (g : Bool) → of_kind g (spelled c.put-2.new.words.entries)
      ≡ after_put (of_kind g (spelled c.self.inside.locals.entries)) (name g c.word-2.result.now c.subscripts-2.result.now) c.args.nodes.now).
      put_locals (spelled c.self.inside.globals.entries) (spelled c.self.inside.locals.entries) c.args.name.now c.args.nodes.now (spelled c.put-2.new.words.entries) c.if-is_global.ensures
      (λ g. changed g ∙ (λ i. after_put (of_kind g (spelled c.self.inside.locals.entries)) (name g (c.word-2.ensures i) (c.subscripts-2.ensures i)) c.args.nodes.now))) c.put-2.ensures.ok)
      (on_err_weaker c.put-2.result (λ same. ap (λ (ws : Words). of_both (spelled c.self.inside.globals.entries) ws) same) c.put-2.ensures.err) c.self.invariant.2
      (rises_put (of_both (spelled c.self.inside.globals.entries) (spelled c.self.inside.locals.entries)) c.args.name.now c.args.nodes.now c.self.invariant.2),
)

pub returns-clause-ok : goal.returns-clause-ok
returns-clause-ok c =
    on_ok_weaker c.put-2.result (λ e. e ∙ ap (λ (v : Content). after_put v c.args.name.now c.args.nodes.now) c.self.view_is)
    (on_ok_weaker c.put-2.result (λ (changed : (g : Bool) → of_kind g (spelled c.put-2.new.words.entries)
    ≡ after_put (of_kind g (spelled c.self.inside.locals.entries)) (name g c.word-2.result.now c.subscripts-2.result.now) c.args.nodes.now).
    put_locals (spelled c.self.inside.globals.entries) (spelled c.self.inside.locals.entries) c.args.name.now c.args.nodes.now (spelled c.put-2.new.words.entries) c.if-is_global.ensures
    (λ g. changed g ∙ (λ i. after_put (of_kind g (spelled c.self.inside.locals.entries)) (name g (c.word-2.ensures i) (c.subscripts-2.ensures i)) c.args.nodes.now))) c.put-2.ensures.ok)

pub returns-clause-limit : goal.returns-clause-limit
returns-clause-limit c = (
  λ e. subst (λ (p : List (List ℕ)). IsTrue (is_too_long p c.args.nodes.now)) c.subscripts-2.ensures (c.put-2.ensures.limit.0 e),
  λ h. c.put-2.ensures.limit.1 (subst (λ (p : List (List ℕ)). IsTrue (is_too_long p c.args.nodes.now)) (sym c.subscripts-2.ensures) h),
)

pub returns-then-is_global-clause-error : goal.returns-then-is_global-clause-error
returns-then-is_global-clause-error c =
    subst (λ (p : List (List ℕ)). IfErr c.put.result (λ e. e ≡ (if is_too_long p c.args.nodes.now then failure.Fault fault.Limit else failure.Memory))) c.subscripts.ensures c.put.ensures.error

pub returns-clause-error : goal.returns-clause-error
returns-clause-error c =
    subst (λ (p : List (List ℕ)). IfErr c.put-2.result (λ e. e ≡ (if is_too_long p c.args.nodes.now then failure.Fault fault.Limit else failure.Memory))) c.subscripts-2.ensures c.put-2.ensures.error
