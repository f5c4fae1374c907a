use Rattle.std.proofs.Common.{◌≡◌, ◌∷◌, ◌++◌, [], List, ℕ, Option, true, false, sym, subst}
use Rattle.std.specs.Io.KnownBytes.{Consumes}
use Rattle.mj_typed.specs.Typed.{AreKept, IsOfOneLine, ahead_of}
use Rattle.mj_typed.proofs.Reading.{byte_on, end_on, one_line_on, other_byte}
use Rattle.mj_typed.proofs.typed.take_byte.Goals as goal

pub returns-then-byte-eq10-clause-kept : goal.returns-then-byte-eq10-clause-kept
returns-then-byte-eq10-clause-kept c old new h =
    end_on c.args.begun.now.items old new (subst (λ (b : ℕ). Consumes old new (b ∷ [])) c.if-byte-eq10.true h)

pub returns-clause-line : goal.returns-clause-line
returns-clause-line c =
    subst IsOfOneLine (sym c.push_reserved.ensures.items)
    (one_line_on c.args.begun.now.items c.args.byte c.requires.line (other_byte c.args.byte c.if-byte-eq10.false))

pub returns-clause-kept : goal.returns-clause-kept
returns-clause-kept c old new h =
    let P : List ℕ → Type 0 = λ begun. AreKept (ahead_of c.args.begun.now.items false old) (ahead_of begun c.args.is_whole.now new) in
    subst P (sym c.push_reserved.ensures.items)
    (subst (λ whole. AreKept (ahead_of c.args.begun.now.items false old) (ahead_of (c.args.begun.now.items ++ c.args.byte ∷ []) whole new)) (sym c.requires.unended)
    (byte_on c.args.begun.now.items c.args.byte old new h))
