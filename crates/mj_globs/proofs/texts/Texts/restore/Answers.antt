use Rattle.std.proofs.Common.{sym, ap, ◌∙◌, subst}
use Rattle.std.specs.Prelude.{T}
use Rattle.std.specs.FinMap.{is_sorted}
use Rattle.mj_subs.specs.Collation.{name_cmp}
use Rattle.mj_store.specs.Questions.{Content}
use Rattle.mj_tree.specs.Undo.{restored}
use Rattle.mj_tree.proofs.Undo.{sorted_restored}
use Rattle.mj_globs.specs.Words.{spelled, name, of_kind, of_both}
use Rattle.mj_globs.proofs.Restores.{restore_globals, restore_locals}
use Rattle.mj_globs.proofs.texts.Texts.restore.Goals as goal

pub invariant_of-self : goal.invariant_of-self
invariant_of-self c = (
  c.restore.ensures.rises,
  c.self.invariant.1,
  subst (λ (es : Content). T (is_sorted name_cmp es))
      (sym (restore_globals (spelled c.self.inside.globals.entries) (spelled c.self.inside.locals.entries) c.args.name.now c.args.text (spelled c.restore.new.words.entries) c.if-is_global.ensures
      (λ g. c.restore.ensures.content g ∙ (λ i. restored name_cmp (name g (c.word.ensures i) (c.subscripts.ensures i)) c.args.text (of_kind g (spelled c.self.inside.globals.entries))))))
      (sorted_restored name_cmp c.args.name.now c.args.text (of_both (spelled c.self.inside.globals.entries) (spelled c.self.inside.locals.entries)) c.self.invariant.2),
)

pub returns-then-is_global : goal.returns-then-is_global
returns-then-is_global c =
    (restore_globals (spelled c.self.inside.globals.entries) (spelled c.self.inside.locals.entries) c.args.name.now c.args.text (spelled c.restore.new.words.entries) c.if-is_global.ensures
    (λ g. c.restore.ensures.content g ∙ (λ i. restored name_cmp (name g (c.word.ensures i) (c.subscripts.ensures i)) c.args.text (of_kind g (spelled c.self.inside.globals.entries)))))
    ∙ ap (λ (v : Content). restored name_cmp c.args.name.now c.args.text v) c.self.view_is

pub invariant_of-self-2 : goal.invariant_of-self-2
invariant_of-self-2 c = (
  c.self.invariant.0,
  c.restore-2.ensures.rises,
  subst (λ (es : Content). T (is_sorted name_cmp es))
      (sym (restore_locals (spelled c.self.inside.globals.entries) (spelled c.self.inside.locals.entries) c.args.name.now c.args.text (spelled c.restore-2.new.words.entries) c.if-is_global.ensures
      (λ g. c.restore-2.ensures.content g ∙ (λ i. restored name_cmp (name g (c.word-2.ensures i) (c.subscripts-2.ensures i)) c.args.text (of_kind g (spelled c.self.inside.locals.entries))))))
      (sorted_restored name_cmp c.args.name.now c.args.text (of_both (spelled c.self.inside.globals.entries) (spelled c.self.inside.locals.entries)) c.self.invariant.2),
)

pub returns : goal.returns
returns c =
    (restore_locals (spelled c.self.inside.globals.entries) (spelled c.self.inside.locals.entries) c.args.name.now c.args.text (spelled c.restore-2.new.words.entries) c.if-is_global.ensures
    (λ g. c.restore-2.ensures.content g ∙ (λ i. restored name_cmp (name g (c.word-2.ensures i) (c.subscripts-2.ensures i)) c.args.text (of_kind g (spelled c.self.inside.locals.entries)))))
    ∙ ap (λ (v : Content). restored name_cmp c.args.name.now c.args.text v) c.self.view_is
