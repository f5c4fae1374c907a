-- Two numbers are equal where the texts that they are read from are.
use Rattle.std.proofs.Common.{◌≡◌, ◌∙◌}
use Rattle.std.specs.Str.{bytes_eq}
use Rattle.std.specs.Cmp.Lexicographic.{bytes_decides}
use Rattle.std.proofs.lemmas.Bool.Decides.{Decides-at}
use Rattle.mj_subs.specs.Laws.Ties.{tags_tested}
use Rattle.mj_subs.proofs.sub.SubPartialEq.eq.Goals as goal

by_numbers : (c : goal.After-eq) → c.eq.result ≡ bytes_eq c.args.self.now c.args.other.now
by_numbers c =
    rw (← c.self.view_is, ← c.other.view_is)
    (c.eq.ensures ∙ tags_tested c.self.inside.text c.other.inside.text _ _ _ _ c.self.invariant c.other.invariant c.in-Some-Some.is-0 c.in-Some-Some.is-1)

pub returns-in-Some-Some-clause-value : goal.returns-in-Some-Some-clause-value
returns-in-Some-Some-clause-value c = by_numbers c

pub returns-in-Some-Some-clause-same : goal.returns-in-Some-Some-clause-same
returns-in-Some-Some-clause-same c = Decides-at _ _ (by_numbers c) (bytes_decides c.args.self.now c.args.other.now)
