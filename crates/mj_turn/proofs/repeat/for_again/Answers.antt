use Rattle.std.proofs.Common.{◌≡◌, List, Some, Ok, sym, ap, ◌∙◌}
use Rattle.std.specs.Prelude.{if◌then◌else◌}
use Rattle.mj_ask.specs.declared.ask.Reply.{Reply}
use Rattle.mj_semantics.specs.State.{State}
use Rattle.mj_semantics.specs.Outcome.{Timed, given}
use Rattle.mj_pcode.specs.Context.{Loop}
use Rattle.mj_pcode.specs.Machine as machines
use Rattle.mj_machine.specs.Contexts.{loop_of, loops_of}
use Rattle.mj_turn.specs.Loops.{innermost}
use Rattle.mj_machine.specs.Kept.{restart_of, state_of, context_of, stack_of, in_locals}
use Rattle.mj_machine.specs.Standing.{given_first}
use Rattle.mj_turn.proofs.Ranges.{loops_by}
use Rattle.mj_turn.proofs.repeat.for_again.Goals as goal

pub returns-in-Ok-true-clause-ok : goal.returns-in-Ok-true-clause-ok
returns-in-Ok-true-clause-ok c = λ reply all u. (
  tt,
  λ next n handle replies.
      let m = c.args.machine.now in
      let ctx = context_of m in
      let l : Loop = loop_of c.in-Some.current.now in
      let ls : List Loop = loops_of m.loops.items in
      let rs : List Reply = given_first reply replies in
      let s : State = in_locals c.pass_on.new.locals (state_of m) in
      let after : Timed = next ctx l.resume (stack_of m) in
      let pass : Timed = next ctx l.body (stack_of m) in
      let is : innermost ls ≡ Some l = sym (c.in-Some.ensures ∙ ap (λ k. innermost (loops_of k)) c.deref.ensures.value) in
      ap (λ k. machines.for_passes k next ctx c.args.pc (stack_of m) n (handle (restart_of m)) (state_of m) rs) (loops_by ls l is)
      ∙ c.in_ok-pass_on.ensures.ok after pass n (handle (restart_of m)) (state_of m) rs
      ∙ ap (λ w. given w (λ b. if b then pass else after) n (handle (restart_of m)) s rs) (c.in-Ok-true.is ∙ ap Ok c.in-Ok-true.field-0-test),
)

pub returns-in-Ok-false-clause-ok : goal.returns-in-Ok-false-clause-ok
returns-in-Ok-false-clause-ok c = λ reply all u. (
  tt,
  λ next n handle replies.
      let m = c.args.machine.now in
      let ctx = context_of m in
      let l : Loop = loop_of c.in-Some.current.now in
      let ls : List Loop = loops_of m.loops.items in
      let rs : List Reply = given_first reply replies in
      let s : State = in_locals c.pass_on.new.locals (state_of m) in
      let after : Timed = next ctx l.resume (stack_of m) in
      let pass : Timed = next ctx l.body (stack_of m) in
      let is : innermost ls ≡ Some l = sym (c.in-Some.ensures ∙ ap (λ k. innermost (loops_of k)) c.deref.ensures.value) in
      ap (λ k. machines.for_passes k next ctx c.args.pc (stack_of m) n (handle (restart_of m)) (state_of m) rs) (loops_by ls l is)
      ∙ c.in_ok-pass_on.ensures.ok after pass n (handle (restart_of m)) (state_of m) rs
      ∙ ap (λ w. given w (λ b. if b then pass else after) n (handle (restart_of m)) s rs) (c.in-Ok-false.is ∙ ap Ok c.in-Ok-false.field-0-test),
)

pub returns-in-Err-clause-ok : goal.returns-in-Err-clause-ok
returns-in-Err-clause-ok c = λ reply all u. (
  tt,
  λ next n handle replies.
      let m = c.args.machine.now in
      let ctx = context_of m in
      let l : Loop = loop_of c.in-Some.current.now in
      let ls : List Loop = loops_of m.loops.items in
      let rs : List Reply = given_first reply replies in
      let s : State = in_locals c.pass_on.new.locals (state_of m) in
      let after : Timed = next ctx l.resume (stack_of m) in
      let pass : Timed = next ctx l.body (stack_of m) in
      let is : innermost ls ≡ Some l = sym (c.in-Some.ensures ∙ ap (λ k. innermost (loops_of k)) c.deref.ensures.value) in
      ap (λ k. machines.for_passes k next ctx c.args.pc (stack_of m) n (handle (restart_of m)) (state_of m) rs) (loops_by ls l is)
      ∙ c.in_ok-pass_on.ensures.ok after pass n (handle (restart_of m)) (state_of m) rs
      ∙ ap (λ w. given w (λ b. if b then pass else after) n (handle (restart_of m)) s rs) c.in-Err.is,
)
