use Rattle.std.proofs.Common.{List, ℕ, Bool, Option, false, sym, subst}
use Rattle.std.specs.Io.KnownBytes.{Consumes, Keeps}
use Rattle.mj_typed.specs.Typed.{AreKept, IsOfOneLine, ahead_of}
use Rattle.mj_typed.proofs.Reading.{kept_on, none_lost, consumed, on_err}
use Rattle.mj_typed.proofs.typed.read_up.Goals.{in-Ok-Some, in-Err}
use Rattle.mj_typed.proofs.typed.read_up.Goals as goal

pub bytes-preserved : goal.bytes-preserved
bytes-preserved g c =
    let first = ahead_of c.args.begun.now.items c.args.is_whole.now (g.B.Read.remaining c.args.reader.now) in
    let old = g.B.Read.remaining c.bytes.reader in
    let new = g.B.Read.remaining c.next_byte.new.reader in
    let begun = c.bytes.begun.items in
    let before = c.bytes.invariant in
    elim c.match-next_byte.branch [
      | in-Ok-Some w ↦
          let Q : List ℕ → Type 0 = λ b. AreKept (ahead_of b false old) (ahead_of w.take_byte.new.begun.items w.take_byte.new.is_whole new) in
          let goes : AreKept (ahead_of begun c.bytes.is_whole old) (ahead_of w.take_byte.new.begun.items w.take_byte.new.is_whole new) =
          subst (λ (b : Bool). AreKept (ahead_of begun b old) (ahead_of w.take_byte.new.begun.items w.take_byte.new.is_whole new)) (sym c.if-is_whole.false)
          (subst Q c.reserve.ensures.items
          (w.take_byte.ensures.kept old new (consumed old new c.next_byte.result w.in-Ok-Some.field-0 w.in-Ok-Some.byte c.next_byte.ensures.some w.in-Ok-Some.is w.in-Ok-Some.field-0-is))) in
          rw (w.begun-is, w.is_whole-is) (record {
            line = w.take_byte.ensures.line;
            kept = kept_on first (ahead_of begun c.bytes.is_whole old) (ahead_of w.take_byte.new.begun.items w.take_byte.new.is_whole new) before.kept goes;
          })
      | in-Err w ↦
          let P : List ℕ → Type 0 = λ b. AreKept first (ahead_of b c.bytes.is_whole new) in
          rw (w.begun-is, w.is_whole-is) (record {
            line = subst IsOfOneLine (sym c.reserve.ensures.items) before.line;
            kept = subst P (sym c.reserve.ensures.items)
                (kept_on first (ahead_of begun c.bytes.is_whole old) (ahead_of begun c.bytes.is_whole new) before.kept
                (none_lost begun c.bytes.is_whole old new (on_err c.next_byte.result _ w.in-Err.is c.next_byte.ensures.err)));
          })
    ]
