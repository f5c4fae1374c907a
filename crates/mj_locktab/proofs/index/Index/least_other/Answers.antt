use Rattle.std.proofs.Common.{Bool, cond, sym, ◌∙◌, subst}
use Rattle.std.specs.Prelude.{MatchOption}
use Rattle.mj_locktab.specs.Trees.{Kinds, word_cmp, spelled, kid_at, along, is_in_way, NoOther, IsLeastOther}
use Rattle.mj_locktab.specs.Told.{stands_of}
use Rattle.mj_locktab.proofs.index.Index.least_other.Goals as goal

pub returns-then-is_global-clause-least : goal.returns-then-is_global-clause-least
returns-then-is_global-clause-least c =
    let g = spelled c.self.inside.globals.entries in
    let l = spelled c.self.inside.locals.entries in
    let n = c.args.name.now in
    subst (λ (k : Kinds). MatchOption c.least_other.result (NoOther (is_in_way (along (stands_of k) n) n.subscripts) c.args.job)
    (IsLeastOther (is_in_way (along (stands_of k) n) n.subscripts) c.args.job)) c.self.view_is
    (subst (λ (b : Bool). MatchOption c.least_other.result (NoOther (is_in_way (λ p. kid_at word_cmp (cond b g l) n.word p) n.subscripts) c.args.job)
    (IsLeastOther (is_in_way (λ p. kid_at word_cmp (cond b g l) n.word p) n.subscripts) c.args.job)) (sym (sym c.is_global.ensures ∙ c.if-is_global.true)) c.least_other.ensures.least)

pub returns-else-is_global-clause-least : goal.returns-else-is_global-clause-least
returns-else-is_global-clause-least c =
    let g = spelled c.self.inside.globals.entries in
    let l = spelled c.self.inside.locals.entries in
    let n = c.args.name.now in
    subst (λ (k : Kinds). MatchOption c.least_other-else-is_global.result (NoOther (is_in_way (along (stands_of k) n) n.subscripts) c.args.job)
    (IsLeastOther (is_in_way (along (stands_of k) n) n.subscripts) c.args.job)) c.self.view_is
    (subst (λ (b : Bool). MatchOption c.least_other-else-is_global.result (NoOther (is_in_way (λ p. kid_at word_cmp (cond b g l) n.word p) n.subscripts) c.args.job)
    (IsLeastOther (is_in_way (λ p. kid_at word_cmp (cond b g l) n.word p) n.subscripts) c.args.job)) (sym (sym c.is_global.ensures ∙ c.if-is_global.false)) c.least_other-else-is_global.ensures.least)
