use Rattle.std.proofs.Common.{◌<◌, Bool, cond, sym, ◌∙◌, subst}
use Rattle.std.proofs.lemmas.Result.{on_ok_weaker, on_err_weaker}
use Rattle.mj_locktab.specs.declared.held.TheConstants.{HOLDS_LIMIT}
use Rattle.mj_locktab.specs.Trees.{Kinds, word_cmp, spelled, kid_at, along, tally_of, is_at_or_above, AreAlike, HasOneMore}
use Rattle.mj_subs.specs.Name.{names_eq}
use Rattle.mj_locktab.specs.Told.{stands_of}
use Rattle.mj_locktab.proofs.Spelled.{more_global, more_local, alike_kinds, alike_words}
use Rattle.mj_locktab.proofs.index.Index.mark.Goals as goal

pub mark-requires : goal.mark-requires
mark-requires c = λ p.
    subst (λ (b : Bool). tally_of (kid_at word_cmp (cond b (spelled c.self.inside.globals.entries) (spelled c.self.inside.locals.entries)) c.args.name.now.word p) c.args.job < HOLDS_LIMIT)
    (sym c.is_global.ensures ∙ c.if-is_global.true) (subst (λ (k : Kinds). tally_of (along (stands_of k) c.args.name.now p) c.args.job < HOLDS_LIMIT) (sym c.self.view_is) (c.requires p))

pub mark-requires-else-is_global : goal.mark-requires-else-is_global
mark-requires-else-is_global c = λ p.
    subst (λ (b : Bool). tally_of (kid_at word_cmp (cond b (spelled c.self.inside.globals.entries) (spelled c.self.inside.locals.entries)) c.args.name.now.word p) c.args.job < HOLDS_LIMIT)
    (sym c.is_global.ensures ∙ c.if-is_global.false) (subst (λ (k : Kinds). tally_of (along (stands_of k) c.args.name.now p) c.args.job < HOLDS_LIMIT) (sym c.self.view_is) (c.requires p))

pub returns-then-is_global-clause-ok : goal.returns-then-is_global-clause-ok
returns-then-is_global-clause-ok c =
    on_ok_weaker c.mark.result (λ more.
    subst (λ (k : Kinds). HasOneMore (stands_of k) (stands_of (record { globals = spelled c.mark.new.words.entries; locals = spelled c.self.inside.locals.entries }))
    (λ m. names_eq m c.args.name.now) (λ m. is_at_or_above m c.args.name.now) c.args.job) c.self.view_is
    (more_global (spelled c.self.inside.globals.entries) (spelled c.self.inside.locals.entries) c.args.name.now c.args.job (spelled c.mark.new.words.entries)
    (sym c.is_global.ensures ∙ c.if-is_global.true) more)) c.mark.ensures.ok

pub returns-then-is_global-clause-err : goal.returns-then-is_global-clause-err
returns-then-is_global-clause-err c =
    let g = spelled c.self.inside.globals.entries in
    let l = spelled c.self.inside.locals.entries in
    on_err_weaker c.mark.result (λ alike.
    subst (λ (k : Kinds). AreAlike (stands_of k) (stands_of (record { globals = spelled c.mark.new.words.entries; locals = spelled c.self.inside.locals.entries }))) c.self.view_is
    (alike_kinds g l (spelled c.mark.new.words.entries) l alike (alike_words l))) c.mark.ensures.err

pub returns-else-is_global-clause-ok : goal.returns-else-is_global-clause-ok
returns-else-is_global-clause-ok c =
    on_ok_weaker c.mark-else-is_global.result (λ more.
    subst (λ (k : Kinds). HasOneMore (stands_of k) (stands_of (record { globals = spelled c.self.inside.globals.entries; locals = spelled c.mark-else-is_global.new.words.entries }))
    (λ m. names_eq m c.args.name.now) (λ m. is_at_or_above m c.args.name.now) c.args.job) c.self.view_is
    (more_local (spelled c.self.inside.globals.entries) (spelled c.self.inside.locals.entries) c.args.name.now c.args.job (spelled c.mark-else-is_global.new.words.entries)
    (sym c.is_global.ensures ∙ c.if-is_global.false) more)) c.mark-else-is_global.ensures.ok

pub returns-else-is_global-clause-err : goal.returns-else-is_global-clause-err
returns-else-is_global-clause-err c =
    let g = spelled c.self.inside.globals.entries in
    let l = spelled c.self.inside.locals.entries in
    on_err_weaker c.mark-else-is_global.result (λ alike.
    subst (λ (k : Kinds). AreAlike (stands_of k) (stands_of (record { globals = spelled c.self.inside.globals.entries; locals = spelled c.mark-else-is_global.new.words.entries }))) c.self.view_is
    (alike_kinds g l g (spelled c.mark-else-is_global.new.words.entries) (alike_words g) alike)) c.mark-else-is_global.ensures.err
