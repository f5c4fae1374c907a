use Rattle.std.proofs.Common.{sym, ◌∙◌, subst}
use Rattle.mj_locktab.specs.Trees.{Kinds, spelled, is_at_or_above, HasOneLess}
use Rattle.mj_subs.specs.Name.{names_eq}
use Rattle.mj_locktab.specs.Told.{stands_of}
use Rattle.mj_locktab.proofs.Spelled.{less_global, less_local}
use Rattle.mj_locktab.proofs.index.Index.unmark.Goals as goal

pub returns-then-is_global : goal.returns-then-is_global
returns-then-is_global c =
    subst (λ (k : Kinds). HasOneLess (stands_of k) (stands_of (record { globals = spelled c.unmark.new.words.entries; locals = spelled c.self.inside.locals.entries }))
    (λ m. names_eq m c.args.name.now) (λ m. is_at_or_above m c.args.name.now) c.args.job) c.self.view_is
    (less_global (spelled c.self.inside.globals.entries) (spelled c.self.inside.locals.entries) c.args.name.now c.args.job (spelled c.unmark.new.words.entries)
    (sym c.is_global.ensures ∙ c.if-is_global.true) c.unmark.ensures)

pub returns-else-is_global : goal.returns-else-is_global
returns-else-is_global c =
    subst (λ (k : Kinds). HasOneLess (stands_of k) (stands_of (record { globals = spelled c.self.inside.globals.entries; locals = spelled c.unmark-else-is_global.new.words.entries }))
    (λ m. names_eq m c.args.name.now) (λ m. is_at_or_above m c.args.name.now) c.args.job) c.self.view_is
    (less_local (spelled c.self.inside.globals.entries) (spelled c.self.inside.locals.entries) c.args.name.now c.args.job (spelled c.unmark-else-is_global.new.words.entries)
    (sym c.is_global.ensures ∙ c.if-is_global.false) c.unmark-else-is_global.ensures)
