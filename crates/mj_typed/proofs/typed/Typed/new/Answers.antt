use Rattle.std.proofs.Common.{List, ℕ, false, sym, subst}
use Rattle.std.specs.Io.Buffered.{reader_remaining}
use Rattle.mj_typed.specs.Typed.{AreKept, ahead_of}
use Rattle.mj_typed.proofs.Reading.{unread, none_begun}
use Rattle.mj_typed.proofs.typed.Typed.new.Goals as goal

pub returns-clause-ahead : goal.returns-clause-ahead
returns-clause-ahead g c =
    let known = g.I.Read.remaining c.args.reader in
    let left = reader_remaining g.I.Read.remaining c.in-Ok.reader in
    let said = c.in-Ok.ensures in
    subst (λ (begun : List ℕ). AreKept known (ahead_of begun false left)) (sym c.new-2.ensures.items)
    (none_begun known left (unread g.I.Read.remaining c.in-Ok.reader c.args.reader said.inner said.empty said.capacity))
