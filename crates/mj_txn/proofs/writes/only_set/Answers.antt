use Rattle.std.proofs.Common.{◌≡◌, ◌+◌, ◌-◌, ◌<◌, List, [], ◌∷◌, ◌++◌, length, take, refl, sym, ap, ◌∙◌, arith}
use Rattle.std.proofs.lemmas.List.{take_all}
use Rattle.mj_store.specs.declared.access.Access.{Access}
use Rattle.mj_store.specs.declared.access.Access.TheVariants as access
use Rattle.mj_subs.specs.Name.{Name}
use Rattle.mj_globs.specs.declared.change.Change.{Change}
use Rattle.mj_globs.specs.declared.change.Change.TheVariants as change
use Rattle.mj_txlog.specs.Accesses.{Accesses}
use Rattle.mj_txlog.specs.declared.entry.Entry.{Entry}
use Rattle.mj_txlog.specs.declared.entry.Entry.TheVariants as entry
use Rattle.mj_txn.specs.Commits.{changes_of}
use Rattle.mj_txn.proofs.Replies.{changes_next}
use Rattle.mj_txn.proofs.writes.only_set.Goals as goal

pub returns : goal.returns
returns c =
    let es : Accesses = c.args.entries.now in
    let set = c.in-Access-Set-default in
    let e : Entry = c.last-item.result in
    let lt : length es - 1 < length es = omega (arith, c.in-len1-up.len_at_least) in
    let inner : set.field-0 ≡ access.Set set.name set.text = rw set.is at set.field-0-is in
    let earlier : changes_of (take (length es - 1) es) ≡ [] = c.if-not-change_nothing.ensures refl in
    ap changes_of (sym (take_all (length es - 1 + 1) es (omega arith)))
    ∙ changes_next es (length es - 1) e lt c.last-item.is
    ∙ ap (λ (cs : List Change). cs ++ changes_of (e ∷ [])) earlier
    ∙ ap (λ (x : Entry). changes_of (x ∷ [])) (set.is ∙ ap (λ (a : Access). entry.Access a set.field-1) inner)
    ∙ ap (λ (n : Name). change.Set n set.text ∷ []) (sym c.get.ensures)
