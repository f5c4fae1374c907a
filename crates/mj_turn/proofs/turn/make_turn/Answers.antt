use Rattle.std.proofs.Common.{◌≡◌, suc, length, None, Some, refl, sym, ap, ◌∙◌, subst}
use Rattle.std.specs.Prelude.{slice_get}
use Rattle.std.proofs.lemmas.Option.{slice_get-get_or, slice_get_past}
use Rattle.std.proofs.lemmas.Bool.{ltb-false}
use Rattle.std.proofs.lemmas.Result.{IfOk-weaker}
use Rattle.mj_turn.specs.Starts.{start_of}
use Rattle.mj_turn.specs.Faults.{telling, closing}
use Rattle.mj_pcode.specs.Machine.{act, act_in, exec}
use Rattle.mj_machine.specs.declared.control.Control.TheVariants as controls
use Rattle.mj_pcode.specs.declared.instr.Instr.TheVariants.{MarkRestart, BeginRestart}
use Rattle.mj_machine.specs.Standing.{Code, left, from, begin}
use Rattle.mj_machine.specs.Kept.{stack_of, state_of, context_of, restart_of, replied}
use Rattle.mj_pcode.specs.Checked.{footing, Holds, footings_in}
use Rattle.mj_pcode.specs.Sound.{IsPlaceIn, instr_at, operands_at, IsPlace}
use Rattle.mj_turn.specs.Sound.{MayReturn, MayStand}
use Rattle.mj_turn.proofs.Sound.{turn_sound, ending_sound, mark_sound, again_sound, is_ready, begin_keeps, act_keeps}
use Rattle.mj_turn.proofs.Ends.{ending_turn}
use Rattle.mj_turn.proofs.Turns.{steps_of, steps_among}
use Rattle.mj_turn.proofs.turn.make_turn.Goals as goal

pub returns-in-Begin-clause-ok : goal.returns-in-Begin-clause-ok
returns-in-Begin-clause-ok c =
    let old = c.args.machine.now in
    let code : Code = record { units = c.args.units.now; start = start_of c.args.start.now } in
    IfOk-weaker c.begin.result _ _
    (λ step d. steps_of code (begin code.start code.units) (λ n. from code.units) old (replied c.args.given) step _
    (λ n h replies. ap (λ k. left code k (context_of old) (stack_of old) (suc n) h (state_of old) replies) c.in-Begin.is)
    (λ n h d pc stack s replies. refl) d)
    c.begin.ensures.ok

pub returns-in-None-get-clause-ok : goal.returns-in-None-get-clause-ok
returns-in-None-get-clause-ok c =
    let old = c.args.machine.now in
    let units = c.args.units.now in
    let code : Code = record { units = units; start = start_of c.args.start.now } in
    let u = c.in-Some.unit.now in
    let pc = c.in-At.pc in
    let h = c.in-Some.ensures.lookup in
    let found : slice_get units old.unit ≡ Some u =
    slice_get-get_or units old.unit u h.3.0 ∙ ap Some (sym h.1) in
    let none : slice_get u.instrs.items pc ≡ None =
    ap (λ l. slice_get l pc) (sym c.deref.ensures.value) ∙ slice_get_past c.deref.result.now pc (ltb-false pc (length c.deref.result.now) (sym c.in-None-get.ensures.lookup.0)) in
    IfOk-weaker c.end_unit.result _ _
    (λ step d. steps_of code (λ next. act units u None next (context_of old) pc (stack_of old)) (exec units) old (replied c.args.given) step _
    (λ n h replies. ap (λ k. left code k (context_of old) (stack_of old) (suc n) h (state_of old) replies) c.in-At.is
    ∙ ap (λ o. act_in units o (exec units n) (context_of old) pc (stack_of old) n h (state_of old) replies) found
    ∙ ap (λ i. act units u i (exec units n) (context_of old) pc (stack_of old) n h (state_of old) replies) none)
    (λ n h d p stack s replies. refl)
    (d units pc (replied c.args.given)))
    c.end_unit.ensures.ok

pub returns-in_default-clause-ok : goal.returns-in_default-clause-ok
returns-in_default-clause-ok c =
    let old = c.args.machine.now in
    let units = c.args.units.now in
    let code : Code = record { units = units; start = start_of c.args.start.now } in
    let u = c.in-Some.unit.now in
    let pc = c.in-At.pc in
    let h = c.in-Some.ensures.lookup in
    let found : slice_get units old.unit ≡ Some u =
    slice_get-get_or units old.unit u h.3.0 ∙ ap Some (sym h.1) in
    let g = c.in-Some-get.ensures.lookup in
    let at : slice_get u.instrs.items pc ≡ Some c.in-Some-get.instr.now =
    ap (λ l. slice_get l pc) (sym c.deref.ensures.value) ∙ slice_get-get_or c.deref.result.now pc c.in-Some-get.instr.now g.3.0 ∙ ap Some (sym g.1) in
    IfOk-weaker c.obey.result _ _
    (λ step d. steps_of code (λ next. act units u (Some c.in-Some-get.instr.now) next (context_of old) pc (stack_of old)) (exec units) old (replied c.args.given) step _
    (λ n h replies. ap (λ k. left code k (context_of old) (stack_of old) (suc n) h (state_of old) replies) c.in-At.is
    ∙ ap (λ o. act_in units o (exec units n) (context_of old) pc (stack_of old) n h (state_of old) replies) found
    ∙ ap (λ i. act units u i (exec units n) (context_of old) pc (stack_of old) n h (state_of old) replies) at)
    (λ n h d p stack s replies. refl)
    d)
    c.obey.ensures.ok

pub returns-in-Faulted-clause-ok : goal.returns-in-Faulted-clause-ok
returns-in-Faulted-clause-ok c =
    let old = c.args.machine.now in
    let code : Code = record { units = c.args.units.now; start = start_of c.args.start.now } in
    let f = c.in-Faulted.fault in
    IfOk-weaker c.tell_fault.result _ _
    (λ step d. steps_of code (λ next. telling f) (λ n. from code.units) old (replied c.args.given) step _
    (λ n h replies. ap (λ k. left code k (context_of old) (stack_of old) (suc n) h (state_of old) replies) c.in-Faulted.is)
    (λ n h d pc stack s replies. refl) d)
    c.tell_fault.ensures.ok

pub returns-in-Closing-clause-ok : goal.returns-in-Closing-clause-ok
returns-in-Closing-clause-ok c =
    let old = c.args.machine.now in
    let code : Code = record { units = c.args.units.now; start = start_of c.args.start.now } in
    let done = c.in-Closing.done in
    let f = c.in-Closing.fault in
    IfOk-weaker c.close.result _ _
    (λ step d. steps_of code (λ next. closing done f) (λ n. from code.units) old (replied c.args.given) step _
    (λ n h replies. ap (λ k. left code k (context_of old) (stack_of old) (suc n) h (state_of old) replies) c.in-Closing.is ∙ ending_turn done f n h (state_of old) replies)
    (λ n h d pc stack s replies. refl) d)
    c.close.ensures.ok

pub returns-in-Begin-clause-sound : goal.returns-in-Begin-clause-sound
returns-in-Begin-clause-sound c =
    let units = c.args.units.now in
    let old = c.args.machine.now in
    let may : MayReturn units (restart_of old) = subst (λ k. MayStand units k (context_of old) (stack_of old) (restart_of old)) c.in-Begin.is c.requires.sound in
    turn_sound units (begin (start_of c.args.start.now) units) old (replied c.args.given) c.begin.new.machine c.begin.result
    (begin_keeps units c.requires.checked (start_of c.args.start.now)) may c.requires.sound c.begin.ensures.ok c.begin.ensures.err

pub returns-in-None-get-clause-sound : goal.returns-in-None-get-clause-sound
returns-in-None-get-clause-sound c =
    let old = c.args.machine.now in
    let units = c.args.units.now in
    let u = c.in-Some.unit.now in
    let pc = c.in-At.pc in
    let h = c.in-Some.ensures.lookup in
    let found : slice_get units old.unit ≡ Some u = slice_get-get_or units old.unit u h.3.0 ∙ ap Some (sym h.1) in
    let none : slice_get u.instrs.items pc ≡ None =
    ap (λ l. slice_get l pc) (sym c.deref.ensures.value) ∙ slice_get_past c.deref.result.now pc (ltb-false pc (length c.deref.result.now) (sym c.in-None-get.ensures.lookup.0)) in
    let stands : MayStand units (controls.At pc) (context_of old) (stack_of old) (restart_of old) =
    subst (λ k. MayStand units k (context_of old) (stack_of old) (restart_of old)) c.in-At.is c.requires.sound in
    let place : IsPlace units (context_of old) pc (stack_of old) = stands.0 in
    turn_sound units (λ next. act units u None next (context_of old) pc (stack_of old)) old (replied c.args.given) c.end_unit.new.machine c.end_unit.result
    (act_keeps units c.requires.checked u (context_of old) pc (stack_of old) found place None none) stands.1 c.requires.sound
    (IfOk-weaker c.end_unit.result _ _ (λ step d. d units pc (replied c.args.given)) c.end_unit.ensures.ok) c.end_unit.ensures.err

pub returns-in_default-clause-sound : goal.returns-in_default-clause-sound
returns-in_default-clause-sound c =
    let old = c.args.machine.now in
    let units = c.args.units.now in
    let u = c.in-Some.unit.now in
    let pc = c.in-At.pc in
    let i = c.in-Some-get.instr.now in
    let h = c.in-Some.ensures.lookup in
    let found : slice_get units old.unit ≡ Some u = slice_get-get_or units old.unit u h.3.0 ∙ ap Some (sym h.1) in
    let g = c.in-Some-get.ensures.lookup in
    let at : slice_get u.instrs.items pc ≡ Some i =
    ap (λ l. slice_get l pc) (sym c.deref.ensures.value) ∙ slice_get-get_or c.deref.result.now pc i g.3.0 ∙ ap Some (sym g.1) in
    let stands : MayStand units (controls.At pc) (context_of old) (stack_of old) (restart_of old) =
    subst (λ k. MayStand units k (context_of old) (stack_of old) (restart_of old)) c.in-At.is c.requires.sound in
    let place : IsPlace units (context_of old) pc (stack_of old) = stands.0 in
    turn_sound units (λ next. act units u (Some i) next (context_of old) pc (stack_of old)) old (replied c.args.given) c.obey.new.machine c.obey.result
    (act_keeps units c.requires.checked u (context_of old) pc (stack_of old) found place (Some i) at) stands.1 c.requires.sound c.obey.ensures.ok c.obey.ensures.err

pub returns-in-Faulted-clause-sound : goal.returns-in-Faulted-clause-sound
returns-in-Faulted-clause-sound c =
    let f = c.in-Faulted.fault in
    ending_sound c.args.units.now (telling f) c.args.machine.now (replied c.args.given) c.tell_fault.new.machine c.tell_fault.result
    c.requires.sound c.tell_fault.ensures.ok c.tell_fault.ensures.err

pub returns-in-Closing-clause-sound : goal.returns-in-Closing-clause-sound
returns-in-Closing-clause-sound c =
    ending_sound c.args.units.now (closing c.in-Closing.done c.in-Closing.fault) c.args.machine.now (replied c.args.given) c.close.new.machine c.close.result
    c.requires.sound c.close.ensures.ok c.close.ensures.err

pub obey-requires-clause-enough : goal.obey-requires-clause-enough
obey-requires-clause-enough c =
    let old = c.args.machine.now in
    let units = c.args.units.now in
    let u = c.in-Some.unit.now in
    let pc = c.in-At.pc in
    let i = c.in-Some-get.instr.now in
    let h = c.in-Some.ensures.lookup in
    let found : slice_get units old.unit ≡ Some u = slice_get-get_or units old.unit u h.3.0 ∙ ap Some (sym h.1) in
    let g = c.in-Some-get.ensures.lookup in
    let at : slice_get u.instrs.items pc ≡ Some i =
    ap (λ l. slice_get l pc) (sym c.deref.ensures.value) ∙ slice_get-get_or c.deref.result.now pc i g.3.0 ∙ ap Some (sym g.1) in
    let stands : MayStand units (controls.At pc) (context_of old) (stack_of old) (restart_of old) =
    subst (λ k. MayStand units k (context_of old) (stack_of old) (restart_of old)) c.in-At.is c.requires.sound in
    let place : IsPlace units (context_of old) pc (stack_of old) = stands.0 in
    let d = length (stack_of old) in
    let here = subst (λ o. IsPlaceIn o pc (operands_at (instr_at o pc) d) (context_of old).loops) found place.0 in
    let holds = subst (λ o. Holds (footings_in u) pc (footing (operands_at o d) (length (context_of old).loops))) at here.0 in
    is_ready i d (length (context_of old).loops) ((c.requires.checked old.unit u found).fits pc i (footing (operands_at (Some i) d) (length (context_of old).loops)) at holds).0

pub returns-in-MarkRestart-clause-ok : goal.returns-in-MarkRestart-clause-ok
returns-in-MarkRestart-clause-ok c =
    let old = c.args.machine.now in
    let units = c.args.units.now in
    let code : Code = record { units = units; start = start_of c.args.start.now } in
    let u = c.in-Some.unit.now in
    let pc = c.in-At.pc in
    let i = c.in-Some-get.instr.now in
    let h = c.in-Some.ensures.lookup in
    let found : slice_get units old.unit ≡ Some u = slice_get-get_or units old.unit u h.3.0 ∙ ap Some (sym h.1) in
    let g = c.in-Some-get.ensures.lookup in
    let at : slice_get u.instrs.items pc ≡ Some MarkRestart =
    ap (λ l. slice_get l pc) (sym c.deref.ensures.value) ∙ slice_get-get_or c.deref.result.now pc i g.3.0 ∙ ap Some (sym g.1) ∙ ap Some c.in-MarkRestart.is in
    IfOk-weaker c.mark_restart.result _ _
    (λ step d. steps_among code (λ next. act units u (Some MarkRestart) next (context_of old) pc (stack_of old)) old (replied c.args.given) step _
    (λ n h replies. ap (λ k. left code k (context_of old) (stack_of old) (suc n) h (state_of old) replies) c.in-At.is
    ∙ ap (λ o. act_in units o (exec units n) (context_of old) pc (stack_of old) n h (state_of old) replies) found
    ∙ ap (λ i. act units u i (exec units n) (context_of old) pc (stack_of old) n h (state_of old) replies) at)
    (d (replied c.args.given) units u))
    c.mark_restart.ensures.ok

pub returns-in-BeginRestart-clause-ok : goal.returns-in-BeginRestart-clause-ok
returns-in-BeginRestart-clause-ok c =
    let old = c.args.machine.now in
    let units = c.args.units.now in
    let code : Code = record { units = units; start = start_of c.args.start.now } in
    let u = c.in-Some.unit.now in
    let pc = c.in-At.pc in
    let i = c.in-Some-get.instr.now in
    let h = c.in-Some.ensures.lookup in
    let found : slice_get units old.unit ≡ Some u = slice_get-get_or units old.unit u h.3.0 ∙ ap Some (sym h.1) in
    let g = c.in-Some-get.ensures.lookup in
    let at : slice_get u.instrs.items pc ≡ Some BeginRestart =
    ap (λ l. slice_get l pc) (sym c.deref.ensures.value) ∙ slice_get-get_or c.deref.result.now pc i g.3.0 ∙ ap Some (sym g.1) ∙ ap Some c.in-BeginRestart.is in
    IfOk-weaker c.begin_restart.result _ _
    (λ step d. steps_among code (λ next. act units u (Some BeginRestart) next (context_of old) pc (stack_of old)) old (replied c.args.given) step _
    (λ n h replies. ap (λ k. left code k (context_of old) (stack_of old) (suc n) h (state_of old) replies) c.in-At.is
    ∙ ap (λ o. act_in units o (exec units n) (context_of old) pc (stack_of old) n h (state_of old) replies) found
    ∙ ap (λ i. act units u i (exec units n) (context_of old) pc (stack_of old) n h (state_of old) replies) at)
    (d pc units u))
    c.begin_restart.ensures.ok

pub returns-in-MarkRestart-clause-sound : goal.returns-in-MarkRestart-clause-sound
returns-in-MarkRestart-clause-sound c =
    let old = c.args.machine.now in
    let units = c.args.units.now in
    let u = c.in-Some.unit.now in
    let pc = c.in-At.pc in
    let i = c.in-Some-get.instr.now in
    let h = c.in-Some.ensures.lookup in
    let found : slice_get units old.unit ≡ Some u = slice_get-get_or units old.unit u h.3.0 ∙ ap Some (sym h.1) in
    let g = c.in-Some-get.ensures.lookup in
    let at : slice_get u.instrs.items pc ≡ Some MarkRestart =
    ap (λ l. slice_get l pc) (sym c.deref.ensures.value) ∙ slice_get-get_or c.deref.result.now pc i g.3.0 ∙ ap Some (sym g.1) ∙ ap Some c.in-MarkRestart.is in
    let stands : MayStand units (controls.At pc) (context_of old) (stack_of old) (restart_of old) =
    subst (λ k. MayStand units k (context_of old) (stack_of old) (restart_of old)) c.in-At.is c.requires.sound in
    mark_sound units c.requires.checked u pc old c.mark_restart.new.machine c.mark_restart.result found at stands.0 c.requires.sound c.mark_restart.ensures.goes c.mark_restart.ensures.err

pub returns-in-BeginRestart-clause-sound : goal.returns-in-BeginRestart-clause-sound
returns-in-BeginRestart-clause-sound c =
    let old = c.args.machine.now in
    let units = c.args.units.now in
    let stands : MayStand units (controls.At c.in-At.pc) (context_of old) (stack_of old) (restart_of old) =
    subst (λ k. MayStand units k (context_of old) (stack_of old) (restart_of old)) c.in-At.is c.requires.sound in
    again_sound units old (replied c.args.given) c.begin_restart.new.machine c.begin_restart.result stands.1 c.requires.sound c.begin_restart.ensures.goes c.begin_restart.ensures.err
