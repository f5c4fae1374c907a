use Rattle.std.proofs.Common.{List, Option, refl, sym, ap, ◌∙◌, ℕ}
use Rattle.mj_subs.specs.Name.{Name}
use Rattle.mj_subs.specs.Collation.{name_cmp}
use Rattle.mj_tree.specs.Undo.{undone}
use Rattle.mj_tree.proofs.Undo.{undone-append}
use Rattle.mj_globs.proofs.Stamping.{rises_then}
use Rattle.mj_globs.proofs.Lists.{rises_itself}
use Rattle.mj_globs.proofs.all.undo.Goals as goal

pub loop-name-init : goal.loop-name-init
loop-name-init c = record { content = refl; stamps = rises_itself c.args.globals.now }

pub loop-name-preserved-in-Some : goal.loop-name-preserved-in-Some
loop-name-preserved-in-Some c = record {
  content =
      ap (undone name_cmp c.pop.new.self.items) c.restore.ensures.content
      ∙ sym (undone-append name_cmp c.pop.new.self.items c.in-Some.name c.in-Some.before c.loop-name.globals.content)
      ∙ ap (λ (ws : List (Name × Option (List ℕ))). undone name_cmp ws c.loop-name.globals.content) (sym c.in-Some.ensures.items)
      ∙ c.loop-name.invariant.content;
  stamps = rises_then _ _ _ c.loop-name.invariant.stamps c.restore.ensures.stamps;
}

pub loop-name-preserved : goal.loop-name-preserved
loop-name-preserved c = record {
  content =
      ap (undone name_cmp c.pop.new.self.items) c.restore.ensures.content
      ∙ sym (undone-append name_cmp c.pop.new.self.items c.in-Some.name c.in-Some.before c.loop-name.globals.content)
      ∙ ap (λ (ws : List (Name × Option (List ℕ))). undone name_cmp ws c.loop-name.globals.content) (sym c.in-Some.ensures.items)
      ∙ c.loop-name.invariant.content;
  stamps = rises_then _ _ _ c.loop-name.invariant.stamps c.restore.ensures.stamps;
}
