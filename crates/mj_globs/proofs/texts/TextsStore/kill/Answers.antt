use Rattle.std.proofs.Common.{sym, ap, ◌∙◌, subst}
use Rattle.std.specs.Prelude.{T}
use Rattle.std.specs.FinMap.{is_sorted}
use Rattle.mj_subs.specs.Collation.{name_cmp}
use Rattle.mj_store.specs.Questions.{Content}
use Rattle.mj_store.specs.Changes.{after_kill}
use Rattle.mj_globs.specs.Words.{spelled, name, of_kind, of_both}
use Rattle.mj_globs.proofs.Both.{kill_globals, kill_locals, rises_kill}
use Rattle.mj_globs.proofs.texts.TextsStore.kill.Goals as goal

pub invariant_of-self : goal.invariant_of-self
invariant_of-self c = (
  c.kill.ensures.rises,
  c.self.invariant.1,
  subst (λ (es : Content). T (is_sorted name_cmp es))
      (sym (kill_globals (spelled c.self.inside.globals.entries) (spelled c.self.inside.locals.entries) c.args.name.now (spelled c.kill.new.words.entries) c.if-is_global.ensures
      (λ g. c.kill.ensures.content g ∙ (λ i. after_kill (of_kind g (spelled c.self.inside.globals.entries)) (name g (c.word.ensures i) (c.subscripts.ensures i))))))
      (rises_kill (of_both (spelled c.self.inside.globals.entries) (spelled c.self.inside.locals.entries)) c.args.name.now c.self.invariant.2),
)

pub returns-then-is_global : goal.returns-then-is_global
returns-then-is_global c =
    (kill_globals (spelled c.self.inside.globals.entries) (spelled c.self.inside.locals.entries) c.args.name.now (spelled c.kill.new.words.entries) c.if-is_global.ensures
    (λ g. c.kill.ensures.content g ∙ (λ i. after_kill (of_kind g (spelled c.self.inside.globals.entries)) (name g (c.word.ensures i) (c.subscripts.ensures i)))))
    ∙ ap (λ (v : Content). after_kill v c.args.name.now) c.self.view_is

pub invariant_of-self-2 : goal.invariant_of-self-2
invariant_of-self-2 c = (
  c.self.invariant.0,
  c.kill-2.ensures.rises,
  subst (λ (es : Content). T (is_sorted name_cmp es))
      (sym (kill_locals (spelled c.self.inside.globals.entries) (spelled c.self.inside.locals.entries) c.args.name.now (spelled c.kill-2.new.words.entries) c.if-is_global.ensures
      (λ g. c.kill-2.ensures.content g ∙ (λ i. after_kill (of_kind g (spelled c.self.inside.locals.entries)) (name g (c.word-2.ensures i) (c.subscripts-2.ensures i))))))
      (rises_kill (of_both (spelled c.self.inside.globals.entries) (spelled c.self.inside.locals.entries)) c.args.name.now c.self.invariant.2),
)

pub returns : goal.returns
returns c =
    (kill_locals (spelled c.self.inside.globals.entries) (spelled c.self.inside.locals.entries) c.args.name.now (spelled c.kill-2.new.words.entries) c.if-is_global.ensures
    (λ g. c.kill-2.ensures.content g ∙ (λ i. after_kill (of_kind g (spelled c.self.inside.locals.entries)) (name g (c.word-2.ensures i) (c.subscripts-2.ensures i)))))
    ∙ ap (λ (v : Content). after_kill v c.args.name.now) c.self.view_is
