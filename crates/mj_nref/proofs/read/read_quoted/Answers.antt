-- Each byte is read as the definition reads it.
use Rattle.std.proofs.Common.{ap, ◌∙◌, arith}
use Rattle.mj_nref.proofs.Joined.{first_quote, second_quote, other_byte}
use Rattle.mj_nref.proofs.read.read_quoted.Goals as goal
use Rattle.mj_nref.proofs.read.read_quoted.Goals.{in-true-true+in_ok-push-in-true-true, in-true-false, in-false-false+in_ok-push-in-false-false}

pub loop-place-preserved : goal.loop-place-preserved
loop-place-preserved c =
    elim c.if-byte-eq34.branch [
      | in-true-true+in_ok-push-in-true-true w ↦ second_quote c.args.bytes.now c.loop-place.text.items c.loop-place.place c.loop-place.after_quote _ c.loop-place.invariant (omega arith)
          w.in-true-true.is-0 w.in-true-true.is-1 _ _ (ap (λ x. x.items) w.text-is ∙ w.in_ok-push-in-true-true.ensures.items) w.after_quote-is
      | in-true-false w ↦ first_quote c.args.bytes.now c.loop-place.text.items c.loop-place.place c.loop-place.after_quote _ c.loop-place.invariant (omega arith)
          w.in-true-false.is-0 w.in-true-false.is-1 _ _ (ap (λ x. x.items) w.text-is) w.after_quote-is
      | in-false-false+in_ok-push-in-false-false w ↦ other_byte c.args.bytes.now c.loop-place.text.items c.loop-place.place c.loop-place.after_quote _ c.loop-place.invariant (omega arith)
          w.in-false-false.is-0 w.in-false-false.is-1 _ _ (ap (λ x. x.items) w.text-is ∙ w.in_ok-push-in-false-false.ensures.items) (w.after_quote-is ∙ w.in-false-false.is-1)
    ]
