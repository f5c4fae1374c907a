use Rattle.std.proofs.Common.{◌≡◌, ◌∙◌, ◌≤◌, List, ℕ, Bool, Option, true, false, [], length, sym, ap, subst, subst₂, arith}
use Rattle.std.specs.Io.Buffered.{reader_remaining}
use Rattle.mj_dev.specs.declared.device.Input.TheVariants as input
use Rattle.mj_typed.specs.Typed.{Typing, AreKept, ReadsTyped, ahead_of}
use Rattle.mj_typed.proofs.Reading.{ended, line_given, no_bytes, some_bytes}
use Rattle.mj_typed.proofs.typed.TypedDevice.read.Goals.{else-is_empty-via-then-is_empty+else-not-self, else-is_empty-via-else-is_empty}
use Rattle.mj_typed.proofs.typed.TypedDevice.read.Goals as goal

abbrev ahead_in : Typing → Option (List ℕ)
ahead_in t = t.ahead

pub returns-then-not-self-clause-ahead : goal.returns-then-not-self-clause-ahead
returns-then-not-self-clause-ahead g c =
    let now = c.read_up.new in
    let left = reader_remaining g.I.Read.remaining now.reader in
    let kept = subst (λ (o : Option (List ℕ)). AreKept o (ahead_of now.begun.items now.is_whole left)) (ap ahead_in c.self.view_is) c.in-Ok.ensures.kept in
    ended c.args.self.now.ahead left now.begun.items now.is_whole kept c.in-Ok.ensures.up
    (no_bytes now.begun.items now.begun.len (omega (arith, now.begun.ok.0)) (sym c.is_empty.ensures ∙ c.if-is_empty.true)) c.if-not-self.true

pub returns-clause-ahead : goal.returns-clause-ahead
returns-clause-ahead g c =
    let now = c.read_up.new in
    let left = reader_remaining g.I.Read.remaining now.reader in
    let old = c.args.self.now.ahead in
    let kept = subst (λ (o : Option (List ℕ)). AreKept o (ahead_of now.begun.items now.is_whole left)) (ap ahead_in c.self.view_is) c.in-Ok.ensures.kept in
    let few : length now.begun.items ≤ 1048576 = omega (arith, now.begun.ok.0, c.len.ensures, c.if-len-gt-TEXT_LIMIT.false) in
    let is : c.in-Ok-from.line ≡ now.begun.items = c.in-Ok-from.ensures.ok ∙ c.deref.ensures.value in
    let some : (now.begun.items ≡ []) → now.is_whole ≡ false → ⊥ =
    elim c.else-is_empty.branch [
      | else-is_empty-via-then-is_empty+else-not-self w ↦ λ none on. let e : true ≡ false = sym w.if-not-self.false ∙ on in cc
      | else-is_empty-via-else-is_empty w ↦ λ none on.
          some_bytes now.begun.items now.begun.len (omega (arith, now.begun.ok.0)) (sym c.is_empty.ensures ∙ w.if-is_empty.false) none
    ] in
    subst₂ (λ (line : List ℕ) (begun : List ℕ). ReadsTyped old (input.Line line) (ahead_of begun false left)) (sym is) (sym c.clear.ensures.items)
    (line_given now.begun.items c.in-Ok.ensures.line now.is_whole old left kept c.in-Ok.ensures.up few some)
