use Rattle.std.proofs.Common.{rules, ◌≡◌, ℕ, true, false, nat_lt, Option, Some, List, [], ◌∷◌, sym, ap, ◌∙◌, subst}
use Rattle.std.specs.Option.{is_some, IfSome}
use Rattle.mj_subs.specs.Collation.{subscript_cmp}
use Rattle.mj_store.specs.declared.store.Direction.TheVariants as way
use Rattle.mj_store.specs.Nodes.{along}
use Rattle.mj_store.specs.Questions.{Content, value_at, order_at, data_at}
use Rattle.mj_store.specs.Changes.{followed_by}
use Rattle.mj_txlog.specs.Accesses.{Accesses, seen}
use Rattle.mj_txlog.specs.Laid.{IsLaid, is_before}
use Rattle.mj_txlog.specs.Steps.{IsStep}
use Rattle.mj_txlog.specs.declared.next.StepOutcome.{StepOutcome}
use Rattle.mj_txlog.specs.Skips.{AreSkips, IsJump, IsFar}
use Rattle.mj_txlog.proofs.Passing.{killed}
use Rattle.mj_txlog.proofs.Bare.{end_bare, far_jump, one_jump, unseen_bare, bare_order}
use Rattle.mj_txlog.proofs.Laid.{none_gone}
use Rattle.mj_txlog.proofs.Stands.{stands, data_stands, own_stands, gone_stands, clear_stands, text_stands, no_text, below_stands, leaf_order, gone_order}
use Rattle.mj_txlog.proofs.Nexts.{none_passed, found_next, run_passed, joins_on, said, told}
use Rattle.mj_txlog.proofs.next.+ahead.Goals as goal
use Rattle.mj_txlog.proofs.next.+ahead.Goals.{next_of_both-then-branch-via-then-branch, next_of_both-then-branch-via-else-branch+in_ok-is_covered+then-branch-2}

pub next_of_both-returns-then-branch-clause-found : goal.next_of_both-returns-then-branch-clause-found
next_of_both-returns-then-branch-clause-found t c es laid =
    c.requires.mine
    ∙ elim c.then-branch.branch [
      | next_of_both-then-branch-via-then-branch w ↦ gone_order c.args.own.now es laid c.args.globals.now c.args.front.now c.args.from.now c.args.way (sym c.in_ok-went.ensures ∙ w.if-branch.true)
      | next_of_both-then-branch-via-else-branch+in_ok-is_covered+then-branch-2 w ↦ bare_order c.args.own.now es laid c.args.globals.now c.args.front.now c.args.from.now c.args.way
          (w.in_ok-is_covered.ensures w.if-branch-2.true c.args.globals.now c.args.own.now.gone (c.requires.skips es laid))
    ]

pub pass_over-loop-init : goal.pass_over-loop-init
pass_over-loop-init t c = record {
  passed = λ es laid. none_passed c.args.own.now.over c.args.globals.now (seen c.args.globals.now es) c.args.front.now c.args.way c.args.at.now;
  bare = λ es laid e. absurd cc;
  skips = c.requires.skips;
}

pub pass_over-returns-in_default : goal.pass_over-returns-in_default
pass_over-returns-in_default t c = record {
  found =
      found_next c.args.own.now c.args.globals.now c.args.front.now c.args.way c.args.at.now c.loop.at c.loop.invariant.passed c.args.mine.now c.requires.mine c.in_ok-found.found c.take_step.new.at
      c.in_ok-found.ensures.step;
  skips = c.in_ok-found.ensures.skips;
}

pub pass_over-loop-preserved : goal.pass_over-loop-preserved
pass_over-loop-preserved t c =
    let g = c.args.globals.now in
    let o = c.args.own.now in
    let f = c.args.front.now in
    let way = c.args.way in
    let far = c.take_step.new.at in
    let passed = subst (λ (x : StepOutcome). IsStep g o f way c.args.mine.now c.loop.at x far) c.in-Passed.is c.in_ok-found.ensures.step in
    record {
      passed = λ es laid. run_passed o es laid g f way c.args.at.now c.loop.at (c.loop.invariant.passed es laid) passed.0 far (sym passed.1) passed.2 (passed.3 es laid);
      bare = λ es laid e. end_bare g o.gone f way passed.0 far (passed.3 es laid);
      skips = c.in_ok-found.ensures.skips;
    }

pub take_step-returns-in-Ok-Some-clause-skips : goal.take_step-returns-in-Ok-Some-clause-skips
take_step-returns-in-Ok-Some-clause-skips t c es laid =
    let g = c.args.globals.now in
    let o = c.args.own.now in
    let f = c.args.front.now in
    let way = c.args.way in
    let next = c.in-Some.next in
    let far = c.in-Ok-Some.far in
    let jump : IsJump g o.gone f way next far =
    subst (λ (r : Option (List ℕ)). IfSome r (λ far. (es : Accesses) → IsLaid o es → IsJump g o.gone f way next far)) c.in-Ok-Some.field-0-is c.in-Ok-Some.ensures.passed es laid
    in
    let before =
    subst (λ (r : Option (List ℕ)). IfSome r (λ u. (order_at g (followed_by f (c.args.at.now ∷ [])) way ≡ Some u) × (is_before (along way subscript_cmp) u c.args.mine.now ≡ true))) c.in-Some.is
    c.in_ok-next_before.ensures.before in
    c.pass_on-step.ensures.skips g o.gone (c.in-Ok-Some.ensures.skips es laid)
    (λ e. joins_on o es laid g f way c.args.at.now next far (sym before.0) (c.requires.bare es laid e) jump)
    jump.bare

pub far_from-returns-in-Some-clause-passed : goal.far_from-returns-in-Some-clause-passed
far_from-returns-in-Some-clause-passed t c es laid =
    far_jump c.args.globals.now c.args.own.now.gone c.args.skips.now c.args.front.now c.args.way c.args.next.now c.in-Some.far (c.requires.skips es laid)
    (subst (λ (r : Option (List ℕ)). IfSome r (λ far. IsFar c.args.skips.now c.args.front.now c.args.next.now c.args.way far)) c.in-Some.is c.in_ok-far.ensures)

pub far_from-returns-in_err-try_clone-in-Ok-false-clause-skips : goal.far_from-returns-in_err-try_clone-in-Ok-false-clause-skips
far_from-returns-in_err-try_clone-in-Ok-false-clause-skips t c es laid =
    subst (λ (runs : Content). AreSkips c.args.globals.now c.args.own.now.gone runs) (sym c.forget.ensures)
    (killed c.args.globals.now c.args.own.now.gone c.stands.new.skips c.in_ok-child.child (c.in-Ok-false.ensures.skips es laid))

pub far_from-returns-in_ok-try_clone-in-Ok-false-clause-skips : goal.far_from-returns-in_ok-try_clone-in-Ok-false-clause-skips
far_from-returns-in_ok-try_clone-in-Ok-false-clause-skips t c es laid =
    subst (λ (runs : Content). AreSkips c.args.globals.now c.args.own.now.gone runs) (sym c.forget.ensures)
    (killed c.args.globals.now c.args.own.now.gone c.stands.new.skips c.in_ok-child.child (c.in-Ok-false.ensures.skips es laid))

pub far_from-returns-in_ok-try_clone-in-Ok-false-clause-passed : goal.far_from-returns-in_ok-try_clone-in-Ok-false-clause-passed
far_from-returns-in_ok-try_clone-in-Ok-false-clause-passed t c es laid =
    let g = c.args.globals.now in
    let gone = c.args.own.now.gone in
    let f = c.args.front.now in
    let sees = seen g es in
    let none : stands sees (followed_by f (c.args.next.now ∷ [])) ≡ false =
    ap (stands sees) (sym c.in_ok-child.ensures.value) ∙ told sees c.in_ok-child.child false c.in-Ok-false.field-0 (c.in-Ok-false.ensures.there es laid) c.in-Ok-false.field-0-test
    in
    subst (λ (x : List ℕ). IsJump g gone f c.args.way c.args.next.now x) (sym c.in_ok-try_clone-in-Ok-false.ensures)
    (one_jump g gone f c.args.way c.args.next.now (unseen_bare c.args.own.now es laid g f c.args.next.now none))

pub next_below-returns-then-is_leaf-2 : goal.next_below-returns-then-is_leaf-2
next_below-returns-then-is_leaf-2 t c = record {
  next = λ es laid.
      leaf_order c.args.own.now es laid c.args.globals.now c.args.front.now c.args.from.now c.args.way
      (ap (λ (x : Content). nat_lt (data_at x c.args.front.now) 10) (sym c.over-2.ensures.which) ∙ sym c.if-is_leaf.ensures)
      (sym c.if-is_leaf-2.ensures);
  skips = c.requires;
}

pub stands-returns-then-is_any : goal.stands-returns-then-is_any
stands-returns-then-is_any t c = record {
  there = λ es laid.
      let own : stands c.args.own.now.over c.args.name.now ≡ true =
      ap (λ (x : Content). stands x c.args.name.now) (sym c.over.ensures.which) ∙ sym (data_stands c.over.result.now c.args.name.now) ∙ sym c.if-is_any.ensures in
      said (seen c.args.globals.now es) c.args.name.now true (own_stands c.args.own.now es laid c.args.globals.now c.args.name.now own);
  skips = c.requires;
}

pub stands-returns-then-branch : goal.stands-returns-then-branch
stands-returns-then-branch t c = record {
  there = λ es laid.
      let own : stands c.args.own.now.over c.args.name.now ≡ false =
      ap (λ (x : Content). stands x c.args.name.now) (sym c.over.ensures.which) ∙ sym (data_stands c.over.result.now c.args.name.now) ∙ sym c.if-is_any.ensures in
      said (seen c.args.globals.now es) c.args.name.now false (gone_stands c.args.own.now es laid c.args.globals.now c.args.name.now (sym c.in_ok-went.ensures ∙ c.if-branch.true) ∙ own);
  skips = c.requires;
}

pub stands-returns-then-not-is_any_gone : goal.stands-returns-then-not-is_any_gone
stands-returns-then-not-is_any_gone t c = record {
  there = λ es laid.
      let own : stands c.args.own.now.over c.args.name.now ≡ false =
      ap (λ (x : Content). stands x c.args.name.now) (sym c.over.ensures.which) ∙ sym (data_stands c.over.result.now c.args.name.now) ∙ sym c.if-is_any.ensures in
      let none : data_at c.args.own.now.gone c.args.name.now ≡ 0 = none_gone (data_at c.args.own.now.gone c.args.name.now) (sym c.if-not-is_any_gone.ensures) in
      c.is_any-then-not-is_any_gone.ensures
      ∙ data_stands c.args.globals.now c.args.name.now
      ∙ sym (clear_stands c.args.own.now es laid c.args.globals.now c.args.name.now own (sym c.in_ok-went.ensures ∙ c.if-branch.false) none)
      ∙ sym (data_stands (seen c.args.globals.now es) c.args.name.now);
  skips = c.requires;
}

pub stands-returns-then-is_some : goal.stands-returns-then-is_some
stands-returns-then-is_some t c = record {
  there = λ es laid.
      let text : is_some (value_at c.args.globals.now c.args.name.now) ≡ true = search rules in
      said (seen c.args.globals.now es) c.args.name.now true (text_stands c.args.own.now es laid c.args.globals.now c.args.name.now (sym c.in_ok-went.ensures ∙ c.if-branch.false) text);
  skips = c.requires;
}

pub stands-returns : goal.stands-returns
stands-returns t c = record {
  there = λ es laid.
      let sees = seen c.args.globals.now es in
      let own : stands c.args.own.now.over c.args.name.now ≡ false =
      ap (λ (x : Content). stands x c.args.name.now) (sym c.over.ensures.which) ∙ sym (data_stands c.over.result.now c.args.name.now) ∙ sym c.if-is_any.ensures in
      let text : is_some (value_at c.args.globals.now c.args.name.now) ≡ false = search rules in
      let none : is_some (value_at sees c.args.name.now) ≡ false = no_text c.args.own.now es laid c.args.globals.now c.args.name.now own (sym c.in_ok-went.ensures ∙ c.if-branch.false) text in
      c.is_some-2.ensures
      ∙ ap is_some (c.in_ok-next.ensures.next es laid)
      ∙ ap (λ (b : List ℕ). is_some (order_at sees (followed_by c.args.name.now (b ∷ [])) way.Forward)) (c.from_text-blank.ensures ∙ c.new.ensures)
      ∙ sym (below_stands sees c.args.name.now way.Forward none)
      ∙ sym (data_stands sees c.args.name.now);
  skips = c.in_ok-next.ensures.skips;
}
