use Rattle.std.proofs.Common.{◌≡◌, true, [], ◌∷◌, ◌++◌, take, refl, sym, ap, ◌∙◌, subst}
use Rattle.std.proofs.lemmas.List.{take_more}
use Rattle.mj_txlog.specs.declared.entry.Entry.{Entry}
use Rattle.mj_txlog.specs.Accesses.{Accesses}
use Rattle.mj_txlog.specs.Laid.{IsLaid}
use Rattle.mj_txlog.proofs.Goes.{laid_skips}
use Rattle.mj_txlog.proofs.Following.{none_following, following_at, following_next, following_whole}
use Rattle.mj_txlog.proofs.follows.follow_over.Goals as goal

pub returns-in-Ok-false : goal.returns-in-Ok-false
returns-in-Ok-false c = (
  λ t. absurd (let no : ⊥ = cc in no),
  λ all.
      let g = c.args.globals.now in
      let es = c.args.entries.now in
      let is : c.in-Ok-false.field-0 ≡ true =
      c.in-Ok-false.ensures.follows.1 (following_at g es c.args.stamps.now c.loop-i.i c.index-entries-i.result 0 c.requires.each c.loop-i-test.true c.index-entries-i.is all) in
      absurd (let no : ⊥ = cc (is, c.in-Ok-false.field-0-test) in no),
)

pub loop-i-init : goal.loop-i-init
loop-i-init c = (none_following c.args.globals.now (take 0 c.args.stamps.now), c.requires.none, c.requires.skips)

pub loop-i-preserved : goal.loop-i-preserved
loop-i-preserved c =
    let g = c.args.globals.now in
    let es = c.args.entries.now in
    let i = c.loop-i.i in
    let e = c.index-entries-i.result in (
      following_next g es c.args.stamps.now i e 0 c.requires.each c.loop-i-test.true c.index-entries-i.is c.loop-i.invariant.0 (c.in-Ok-true.ensures.follows.0 c.in-Ok-true.field-0-test),
      subst (λ (es : Accesses). IsLaid c.add.new.self es)
          (ap (λ (e : Entry). take i es ++ e ∷ []) c.index-entries-i.is ∙ sym (take_more es i e c.loop-i-test.true))
          (c.in_ok-add-in-Ok-true.ensures.laid (take i es) c.loop-i.invariant.1),
      laid_skips g.content c.follows_now.new.skips c.loop-i.own c.add.new.self e c.follows_now.ensures.skips c.in_ok-add-in-Ok-true.ensures.ok,
    )

pub returns : goal.returns
returns c = (
  λ t. following_whole c.args.globals.now c.args.entries.now c.args.stamps.now c.loop-i.i c.requires.each c.loop-i-test.false c.loop-i.invariant.0,
  λ all. refl,
)
