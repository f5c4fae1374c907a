use Rattle.std.proofs.Common.{◌≡◌, ◌++◌, length}
use Rattle.mj_lex.specs.Seen.{undoubled}
use Rattle.mj_lex.proofs.token.unquoted.Given as goal

abbrev pub invariant-content : goal.invariant-content
invariant-content l = l.content.items ++ undoubled l.rest ≡ undoubled l.bytes

abbrev pub decreases-content : goal.decreases-content
decreases-content l = length l.rest
