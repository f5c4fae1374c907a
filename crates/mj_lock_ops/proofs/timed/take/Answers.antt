use Rattle.std.proofs.Common.{◌≡◌, None, Bool, refl, sym, ap, ◌∙◌}
use Rattle.std.specs.Prelude.{not, if◌then◌else◌}
use Rattle.mj_text.specs.declared.fault.Fault.TheVariants.{Limit}
use Rattle.mj_ask.specs.Fits.{is_late}
use Rattle.mj_semantics.specs.State.{counted}
use Rattle.mj_semantics.specs.Outcome.{Timed, change, fault}
use Rattle.mj_semantics.specs.Sharing.{in_time}
use Rattle.mj_pcode.specs.Machine.{Next}
use Rattle.mj_machine.specs.Kept.{restart_of, state_of, without}
use Rattle.mj_lock_ops.proofs.timed.take.Goals as goal

pub returns-then-is_limit : goal.returns-then-is_limit
returns-then-is_limit c = (
  refl,
  (
    tt,
    λ next n handle replies.
        let old = c.args.machine.now in
        let rest : Timed = without old c.args.pc c.args.count next in
        ap (λ b. (if b then fault Limit else change (in_time c.args.timeout (not (is_late c.args.reply.now))) rest) n (handle (restart_of old)) (counted (state_of old)) replies)
        (sym c.is_limit.ensures ∙ c.if-is_limit.true),
  ),
)
