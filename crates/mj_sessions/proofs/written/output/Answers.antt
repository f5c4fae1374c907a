use Rattle.std.proofs.Common.{◌<◌, ◌++◌, length, sym, ◌∙◌, ap}
use Rattle.mj_sessions.proofs.Outputs.{goes_end, goes_by, goes_write}
use Rattle.mj_sessions.proofs.written.output.Goals.{then-ends, else-ends+then-left-eq1+in_ok-extend_from_slice, else-ends+else-left-eq1}
use Rattle.mj_sessions.proofs.written.output.Goals as goal

pub loop-entry-preserved : goal.loop-entry-preserved
loop-entry-preserved c =
    let log = c.args.log.now in
    let i = c.loop-entry.entry-index in
    let left = c.loop-entry.left in
    let bytes = c.loop-entry.bytes.items in
    let below : i < length log = c.loop-entry-test.true in
    record {
      so_far = elim c.if-ends.branch [
        | then-ends w ↦
            rw (w.bytes-is)
            (goes_end log c.args.name.now c.args.session left i bytes c.entry-item.result below c.entry-item.is c.loop-entry.invariant.so_far
            (sym c.ends.ensures ∙ w.if-ends.true) c.if-ends.left (w.left-is ∙ w.saturating_sub-left.ensures))
        | else-ends+then-left-eq1+in_ok-extend_from_slice w ↦
            rw (w.left-is)
            (goes_write log c.args.name.now c.args.session left i bytes c.entry-item.result below c.entry-item.is c.loop-entry.invariant.so_far
            (sym c.ends.ensures ∙ w.if-ends.false) w.if-left-eq1.true c.if-ends.bytes.items
            (ap (λ b. b.items) w.bytes-is ∙ w.in_ok-extend_from_slice.ensures.items ∙ ap (λ r. bytes ++ r) w.written.ensures))
        | else-ends+else-left-eq1 w ↦
            rw (w.bytes-is, w.left-is)
            (goes_by log c.args.name.now c.args.session left i bytes c.entry-item.result below c.entry-item.is c.loop-entry.invariant.so_far
            (sym c.ends.ensures ∙ w.if-ends.false) w.if-left-eq1.false)
      ];
    }
