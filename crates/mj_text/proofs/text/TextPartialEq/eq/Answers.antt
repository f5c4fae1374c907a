use Rattle.std.proofs.lemmas.Bool.Decides.{same_from_decides}
use Rattle.std.proofs.lemmas.Slice.Eq.{bytes_eq-Decides}
use Rattle.mj_text.proofs.NumberLemmas.{Decides-spelled}
use Rattle.mj_text.proofs.text.TextPartialEq.eq.Goals as goal

pub returns-in-Number-Number-clause-same : goal.returns-in-Number-Number-clause-same
returns-in-Number-Number-clause-same c =
    Decides-spelled c.in-Number-Number.number c.in-Number-Number.other _ _
    (rw c.in-Number-Number.is-0 at c.self.invariant) (rw c.in-Number-Number.is-1 at c.other.invariant)
    (rw c.in-Number-Number.is-0 at c.self.view_is) (rw c.in-Number-Number.is-1 at c.other.view_is)

pub returns-in-Number-Number-clause-value : goal.returns-in-Number-Number-clause-value
returns-in-Number-Number-clause-value c = same_from_decides _ _ (returns-in-Number-Number-clause-same c) (bytes_eq-Decides _ _)
