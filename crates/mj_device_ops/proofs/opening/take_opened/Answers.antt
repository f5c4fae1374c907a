use Rattle.std.proofs.Common.{ℕ, List, true, false, None, refl, sym, ap, ◌∙◌}
use Rattle.std.specs.Prelude.{if◌then◌else◌}
use Rattle.mj_text.specs.declared.fault.Fault.TheVariants.{NoDevice}
use Rattle.mj_semantics.specs.State.{counted, with_device}
use Rattle.mj_semantics.specs.Outcome.{Timed, change, fault}
use Rattle.mj_semantics.specs.Sharing.{in_time}
use Rattle.mj_semantics.specs.Devices.{is_got}
use Rattle.mj_machine.specs.Kept.{restart_of, state_of}
use Rattle.mj_device_ops.specs.Talked.{past, at_session_begin, named_under}
use Rattle.mj_device_ops.proofs.opening.take_opened.Goals as goal

pub returns-then-has_no_session-clause-ok : goal.returns-then-has_no_session-clause-ok
returns-then-has_no_session-clause-ok c = (
  refl,
  (
    tt,
    λ next n handle replies.
        let old = c.args.machine.now in
        let r = c.args.reply.now in
        let name : List ℕ = named_under c.args.above old in
        let late : Timed = past old c.args.pc c.args.above next in
        let got : Timed = at_session_begin old c.args.pc c.args.above next in
        let other : Timed = if is_got r then change (in_time c.args.timeout true) (change (with_device name) got) else change (in_time c.args.timeout false) late in
        ap (λ b. (if b then fault NoDevice else other) n (handle (restart_of old)) (counted (state_of old)) replies) (sym c.has_no_session.ensures ∙ c.if-has_no_session.true),
  ),
)

pub returns-then-not-is_got-clause-ok : goal.returns-then-not-is_got-clause-ok
returns-then-not-is_got-clause-ok c = (
  refl,
  (
    (c.go_past.ensures None).0,
    λ next n handle replies.
        let old = c.args.machine.now in
        let r = c.args.reply.now in
        let name : List ℕ = named_under c.args.above old in
        let late : Timed = past old c.args.pc c.args.above next in
        let got : Timed = at_session_begin old c.args.pc c.args.above next in
        let opened : Timed = change (in_time c.args.timeout true) (change (with_device name) got) in
        let missed : Timed = change (in_time c.args.timeout false) late in
        let other : Timed = if is_got r then opened else missed in
        ap (λ b. (if b then fault NoDevice else other) n (handle (restart_of old)) (counted (state_of old)) replies) (sym c.has_no_session.ensures ∙ c.if-has_no_session.false)
        ∙ ap (λ b. (if b then opened else missed) n (handle (restart_of old)) (counted (state_of old)) replies) (sym c.if-not-is_got.ensures)
        ∙ (c.go_past.ensures None).1 next n handle replies,
  ),
)
