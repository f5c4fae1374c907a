use Rattle.std.proofs.Common.{false, ◌≡◌, List, [], Option, Ok, Err, length, sym, ap, ◌∙◌, arith}
use Rattle.mj_ask.specs.declared.ask.Reply.{Reply}
use Rattle.mj_semantics.specs.Outcome.{Outcome, given}
use Rattle.mj_pcode.specs.Found.{Found, found}
use Rattle.mj_pcode.specs.Context.{at_unit}
use Rattle.mj_pcode.specs.Machine.{Stack, tallies}
use Rattle.mj_frames.specs.declared.loops.Call as kept
use Rattle.mj_frames.specs.declared.loops.Loop as kept_loop
use Rattle.mj_machine.specs.Contexts.{loops_of, calls_of}
use Rattle.mj_turn.specs.Enters.{found_of, found_at, entered, opened_at}
use Rattle.mj_machine.specs.Standing.{Standing, given_first}
use Rattle.mj_machine.specs.Kept.{restart_of, standing, in_state, state_of}
use Rattle.mj_turn.proofs.Opened.{opens, called}
use Rattle.mj_turn.proofs.calling.enter_first.Goals as goal

pub returns-in-Err-clause-ok : goal.returns-in-Err-clause-ok
returns-in-Err-clause-ok c = λ reply. (
  tt,
  λ next n handle replies.
      let old = c.args.machine.now in
      let vs = c.args.start.now.values.items in
      let to : Option Found = found c.args.units.now c.args.start.now.entry in
      let e : entered to (length vs) (length (state_of old).frames) ≡ Err c.in-Err.fault =
      ap (λ o. entered o (length vs) (length (state_of old).frames)) (sym c.find_line-to.ensures.which)
      ∙ ap (λ k. entered (found_at c.find_line-to.result) k (length (state_of old).frames)) (let many : length vs ≡ c.len.result = omega (arith, c.len.ensures, c.args.start.now.values.ok.0) in many)
      ∙ ap (entered (found_at c.find_line-to.result) c.len.result) (sym c.len-2.ensures)
      ∙ c.in-Err.ensures.err in
      called false vs [] next to n (handle (restart_of old)) (state_of old) (given_first reply replies)
      ∙ ap (λ r. given r (opens false vs [] next) n (handle (restart_of old)) (state_of old) (given_first reply replies)) e,
)

pub returns-clause-ok : goal.returns-clause-ok
returns-clause-ok c = λ reply. (
  tt,
  λ next n handle replies.
      let old = c.args.machine.now in
      let vs = c.args.start.now.values.items in
      let to : Option Found = found c.args.units.now c.args.start.now.entry in
      let f : Found = found_of c.in-Ok.to in
      let rs : List Reply = given_first reply replies in
      let e : entered to (length vs) (length (state_of old).frames) ≡ Ok f =
      ap (λ o. entered o (length vs) (length (state_of old).frames)) (sym c.find_line-to.ensures.which)
      ∙ ap (λ k. entered (found_at c.find_line-to.result) k (length (state_of old).frames)) (let many : length vs ≡ c.len.result = omega (arith, c.len.ensures, c.args.start.now.values.ok.0) in many)
      ∙ ap (entered (found_at c.find_line-to.result) c.len.result) (sym c.len-2.ensures)
      ∙ c.in-Ok.ensures.ok.0 in
      let tallied : Stack = tallies (length f.head.formals) in
      let goes : Standing → Outcome = λ st. next (at_unit f.at []) f.head.start tallied n (handle st.restart) st.state rs in
      let there : List kept_loop.Loop → List kept.Call → Stack → Outcome = λ ls ks st.
      next (record { unit = f.at; loops = loops_of ls; calls = calls_of ks }) f.head.start st n (handle (restart_of c.open_frame.new.machine)) (state_of c.open_frame.new.machine) rs in
      called false vs [] next to n (handle (restart_of old)) (state_of old) rs
      ∙ ap (λ r. given r (opens false vs [] next) n (handle (restart_of old)) (state_of old) rs) e
      ∙ ap (λ l. goes (in_state (opened_at false f l (state_of old)) (standing old reply))) (sym (c.as_mut_slice.ensures.value ∙ c.in_ok-values.ensures ∙ c.deref.ensures.value))
      ∙ ap goes (sym (c.in_ok-open_frame.ensures.ok reply))
      ∙ ap (λ ls. there ls [] tallied) (sym c.clear.ensures.items)
      ∙ ap (λ ks. there c.clear.new.self.items ks tallied) (sym c.clear-2.ensures.items)
      ∙ ap (λ st. there c.clear.new.self.items c.clear-2.new.self.items st) (sym c.put_tallies.ensures.items),
)
