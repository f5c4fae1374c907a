use Rattle.std.proofs.Common.{[], ◌∷◌, ◌++◌, take, sym, ap, ◌∙◌, subst}
use Rattle.std.proofs.lemmas.List.{take_more}
use Rattle.mj_txlog.specs.declared.entry.Entry.{Entry}
use Rattle.mj_txlog.specs.Accesses.{Accesses}
use Rattle.mj_txlog.specs.Laid.{IsLaid}
use Rattle.mj_txlog.proofs.Goes.{laid_skips}
use Rattle.mj_txlog.proofs.Following.{following_at}
use Rattle.mj_txn.specs.declared.changed.Changed.{Changed}
use Rattle.mj_txn.specs.Commits.{HoldsNow, DiffersNow}
use Rattle.mj_txn.proofs.Replies.{told_some, told_none, hold_next, differs_at}
use Rattle.mj_txn.proofs.changed.first_over.Goals as goal

pub changed_now-requires-clause-follows : goal.changed_now-requires-clause-follows
changed_now-requires-clause-follows c =
    following_at c.args.globals.now c.args.entries.now c.args.stamps.now c.loop-i.i c.index-entries-i.result 0 c.requires.each c.loop-i-test.true c.index-entries-i.is c.requires.follow

pub returns-in-Ok-Some : goal.returns-in-Ok-Some
returns-in-Ok-Some c =
    let g = c.args.globals.now.content in
    let es = c.args.entries.now in
    let i = c.loop-i.i in
    let e = c.index-entries-i.result in
    differs_at g es i e c.in-Ok-Some.changed.place c.in-Ok-Some.changed.then c.in-Ok-Some.changed.now c.loop-i-test.true c.index-entries-i.is c.loop-i.invariant.0
    (told_some (HoldsNow g (take i es) e) (λ (d : Changed). DiffersNow g (take i es) e d.place d.then d.now) c.in-Ok-Some.field-0
    c.in-Ok-Some.changed c.in-Ok-Some.ensures.changed c.in-Ok-Some.field-0-is)

pub loop-i-preserved : goal.loop-i-preserved
loop-i-preserved c =
    let g = c.args.globals.now.content in
    let es = c.args.entries.now in
    let i = c.loop-i.i in
    let e = c.index-entries-i.result in (
      hold_next g es i e c.loop-i-test.true c.index-entries-i.is c.loop-i.invariant.0
          (told_none (HoldsNow g (take i es) e) (λ (d : Changed). DiffersNow g (take i es) e d.place d.then d.now) c.in-Ok-None.field-0 c.in-Ok-None.ensures.changed c.in-Ok-None.field-0-is),
      subst (λ (es : Accesses). IsLaid c.add.new.self es)
          (ap (λ (e : Entry). take i es ++ e ∷ []) c.index-entries-i.is ∙ sym (take_more es i e c.loop-i-test.true))
          (c.in_ok-add-in-Ok-None.ensures.laid (take i es) c.loop-i.invariant.1),
      laid_skips g c.changed_now.new.skips c.loop-i.own c.add.new.self e c.changed_now.ensures.skips c.in_ok-add-in-Ok-None.ensures.ok,
    )
