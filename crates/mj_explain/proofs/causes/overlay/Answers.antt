use Rattle.std.proofs.Common.{ap, sym, ◌∙◌, subst, take, ◌++◌, ◌∷◌, []}
use Rattle.std.proofs.lemmas.List.{take_more, take_all}
use Rattle.mj_txlog.specs.declared.entry.Entry.{Entry}
use Rattle.mj_txlog.specs.Accesses.{Accesses}
use Rattle.mj_txlog.specs.Laid.{IsLaid}
use Rattle.mj_explain.proofs.causes.overlay.Goals as goal

pub loop-entry-init : goal.loop-entry-init
loop-entry-init c = c.new-over.ensures.laid

pub loop-entry-preserved : goal.loop-entry-preserved
loop-entry-preserved c =
    let own = c.args.own.now in
    let i = c.loop-entry.entry-index in
    let e = c.entry-item.result in
    subst (λ (es : Accesses). IsLaid c.add.new.self es)
    (ap (λ (x : Entry). take i own ++ x ∷ []) c.entry-item.is ∙ sym (take_more own i e c.loop-entry-test.true))
    (c.in_ok-add.ensures.laid (take i own) c.loop-entry.invariant)

pub returns : goal.returns
returns c =
    subst (λ (es : Accesses). IsLaid c.loop-entry.over es) (take_all c.loop-entry.entry-index c.args.own.now c.loop-entry-test.false) c.loop-entry.invariant
