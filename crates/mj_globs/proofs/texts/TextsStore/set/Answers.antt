use Rattle.std.proofs.Common.{◌≡◌, Bool, ap, ◌∙◌}
use Rattle.std.proofs.lemmas.Result.{on_ok_weaker, on_err_weaker}
use Rattle.mj_store.specs.Changes.{after_set}
use Rattle.mj_store.specs.Questions.{Content}
use Rattle.mj_globs.specs.Words.{Words, spelled, name, of_kind, of_both}
use Rattle.mj_globs.proofs.Both.{set_globals, set_locals, rises_set, rises_either}
use Rattle.mj_globs.proofs.texts.TextsStore.set.Goals as goal

pub invariant_of-self : goal.invariant_of-self
invariant_of-self c = (
  c.set.ensures.rises,
  c.self.invariant.1,
  rises_either c.set.result (of_both (spelled c.self.inside.globals.entries) (spelled c.self.inside.locals.entries))
      (of_both (spelled c.set.new.words.entries) (spelled c.self.inside.locals.entries))
      (after_set (of_both (spelled c.self.inside.globals.entries) (spelled c.self.inside.locals.entries)) c.args.name.now c.args.text.now)
      (on_ok_weaker c.set.result (λ (changed : (g : Bool) → of_kind g (spelled c.set.new.words.entries)
      ≡ after_set (of_kind g (spelled c.self.inside.globals.entries)) (name g c.word.result.now c.subscripts.result.now) c.args.text.now).
      set_globals (spelled c.self.inside.globals.entries) (spelled c.self.inside.locals.entries) c.args.name.now c.args.text.now (spelled c.set.new.words.entries) c.if-is_global.ensures
      (λ g. changed g ∙ (λ i. after_set (of_kind g (spelled c.self.inside.globals.entries)) (name g (c.word.ensures i) (c.subscripts.ensures i)) c.args.text.now))) c.set.ensures.ok)
      (on_err_weaker c.set.result (λ same. ap (λ (ws : Words). of_both ws (spelled c.self.inside.locals.entries)) same) c.set.ensures.err) c.self.invariant.2
      (rises_set (of_both (spelled c.self.inside.globals.entries) (spelled c.self.inside.locals.entries)) c.args.name.now c.args.text.now c.self.invariant.2),
)

pub returns-then-is_global-clause-ok : goal.returns-then-is_global-clause-ok
returns-then-is_global-clause-ok c =
    on_ok_weaker c.set.result (λ e. e ∙ ap (λ (v : Content). after_set v c.args.name.now c.args.text.now) c.self.view_is)
    (on_ok_weaker c.set.result (λ (changed : (g : Bool) → of_kind g (spelled c.set.new.words.entries)
    ≡ after_set (of_kind g (spelled c.self.inside.globals.entries)) (name g c.word.result.now c.subscripts.result.now) c.args.text.now).
    set_globals (spelled c.self.inside.globals.entries) (spelled c.self.inside.locals.entries) c.args.name.now c.args.text.now (spelled c.set.new.words.entries) c.if-is_global.ensures
    (λ g. changed g ∙ (λ i. after_set (of_kind g (spelled c.self.inside.globals.entries)) (name g (c.word.ensures i) (c.subscripts.ensures i)) c.args.text.now))) c.set.ensures.ok)

pub invariant_of-self-2 : goal.invariant_of-self-2
invariant_of-self-2 c = (
  c.self.invariant.0,
  c.set-2.ensures.rises,
  rises_either c.set-2.result (of_both (spelled c.self.inside.globals.entries) (spelled c.self.inside.locals.entries))
      (of_both (spelled c.self.inside.globals.entries) (spelled c.set-2.new.words.entries))
      (after_set (of_both (spelled c.self.inside.globals.entries) (spelled c.self.inside.locals.entries)) c.args.name.now c.args.text.now)
      (on_ok_weaker c.set-2.result (λ (changed : (g : Bool) → of_kind g (spelled c.set-2.new.words.entries)
      ≡ after_set (of_kind g (spelled c.self.inside.locals.entries)) (name g c.word-2.result.now c.subscripts-2.result.now) c.args.text.now).
      set_locals (spelled c.self.inside.globals.entries) (spelled c.self.inside.locals.entries) c.args.name.now c.args.text.now (spelled c.set-2.new.words.entries) c.if-is_global.ensures
      (λ g. changed g ∙ (λ i. after_set (of_kind g (spelled c.self.inside.locals.entries)) (name g (c.word-2.ensures i) (c.subscripts-2.ensures i)) c.args.text.now))) c.set-2.ensures.ok)
      (on_err_weaker c.set-2.result (λ same. ap (λ (ws : Words). of_both (spelled c.self.inside.globals.entries) ws) same) c.set-2.ensures.err) c.self.invariant.2
      (rises_set (of_both (spelled c.self.inside.globals.entries) (spelled c.self.inside.locals.entries)) c.args.name.now c.args.text.now c.self.invariant.2),
)

pub returns-clause-ok : goal.returns-clause-ok
returns-clause-ok c =
    on_ok_weaker c.set-2.result (λ e. e ∙ ap (λ (v : Content). after_set v c.args.name.now c.args.text.now) c.self.view_is)
    (on_ok_weaker c.set-2.result (λ (changed : (g : Bool) → of_kind g (spelled c.set-2.new.words.entries)
    ≡ after_set (of_kind g (spelled c.self.inside.locals.entries)) (name g c.word-2.result.now c.subscripts-2.result.now) c.args.text.now).
    set_locals (spelled c.self.inside.globals.entries) (spelled c.self.inside.locals.entries) c.args.name.now c.args.text.now (spelled c.set-2.new.words.entries) c.if-is_global.ensures
    (λ g. changed g ∙ (λ i. after_set (of_kind g (spelled c.self.inside.locals.entries)) (name g (c.word-2.ensures i) (c.subscripts-2.ensures i)) c.args.text.now))) c.set-2.ensures.ok)
