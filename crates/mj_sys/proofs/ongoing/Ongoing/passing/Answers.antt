use Rattle.std.proofs.Common.{List, Vec, ℕ, Global, sym, ap, subst}
use Rattle.std.specs.BTreeMap.{BTreeMap}
use Rattle.std.specs.Map.{values_of}
use Rattle.mj_txlog.specs.Skips.{gone_by}
use Rattle.mj_sys.specs.Passed.{IsPassed, ArePassed}
use Rattle.mj_sys.specs.declared.passed.PassedWord.{PassedWord}
use Rattle.mj_sys.proofs.Passing.{word_passed, open_told, set_passed, passed_none}
use Rattle.mj_sys.proofs.ongoing.Ongoing.passing.Goals as goal

pub access-requires : goal.access-requires
access-requires c =
    let i = c.self.inside in
    word_passed c.args.globals.now c.args.self.now i.log _ i.passed.entries c.in-Some.word.now c.self.view_is (sym c.in-Some.ensures.value) c.requires

pub access-told-requires : goal.access-told-requires
access-told-requires c =
    subst (λ (p : PassedWord). IsPassed c.args.globals.now (gone_by c.self.inside.log.transaction.accesses) p) (sym c.new-word.ensures)
    (passed_none c.args.globals.now (gone_by c.self.inside.log.transaction.accesses) 0)

pub returns-in-Some-clause-open : goal.returns-in-Some-clause-open
returns-in-Some-clause-open c =
    let i = c.self.inside in
    let g = c.args.globals.now in
    let made = c.access in
    let gone = gone_by made.new.log.transaction.accesses in
    let left = c.get_mut.follows.lender made.new.self in
    open_told made.result g c.args.self.now i.log made.new.log (values_of i.passed.entries) (values_of left.entries) c.args.access.now c.self.view_is
    made.ensures.log made.ensures.unchanged made.ensures.follows
    (λ were. subst (λ (es : List (Vec ℕ Global × PassedWord)). ArePassed g gone (values_of es)) (sym (c.get_mut.follows.holds made.new.self).0)
    (set_passed g gone _ i.passed.entries made.new.self made.ensures.passed were))
    c.requires

pub returns-then-may_be_any-clause-open : goal.returns-then-may_be_any-clause-open
returns-then-may_be_any-clause-open c =
    let i = c.self.inside in
    let g = c.args.globals.now in
    let made = c.access-told in
    let gone = gone_by made.new.log.transaction.accesses in
    let there = ap (λ (m : BTreeMap (Vec ℕ Global) PassedWord). values_of m.entries) c.get_mut.follows.holds-at-none in
    open_told made.result g c.args.self.now i.log made.new.log (values_of i.passed.entries) (values_of c.keep.new.passed.entries) c.args.access.now c.self.view_is
    made.ensures.log made.ensures.unchanged made.ensures.follows
    (λ were. c.keep.ensures g gone made.ensures.passed (subst (λ (ps : List PassedWord). ArePassed g gone ps) (sym there) were))
    c.requires

pub returns-else-may_be_any-clause-open : goal.returns-else-may_be_any-clause-open
returns-else-may_be_any-clause-open c =
    let i = c.self.inside in
    let g = c.args.globals.now in
    let made = c.access-told in
    let gone = gone_by made.new.log.transaction.accesses in
    let there = ap (λ (m : BTreeMap (Vec ℕ Global) PassedWord). values_of m.entries) c.get_mut.follows.holds-at-none in
    open_told made.result g c.args.self.now i.log made.new.log (values_of i.passed.entries) (values_of c.get_mut.follows.lender-at-none.entries) c.args.access.now c.self.view_is
    made.ensures.log made.ensures.unchanged made.ensures.follows
    (λ were. subst (λ (ps : List PassedWord). ArePassed g gone ps) (sym there) were)
    c.requires
