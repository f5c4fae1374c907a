use Rattle.std.proofs.Common.{◌≡◌, length}
use Rattle.mj_ast.specs.LeftOut.{has_no_blank}
use Rattle.mj_lex.specs.Seen.{tokens_seen}
use Rattle.mj_unsupported.proofs.tokens.has_no_blank.Given as goal

abbrev pub invariant-tokens : goal.invariant-tokens
invariant-tokens l = has_no_blank (tokens_seen l.tokens) ≡ has_no_blank (tokens_seen l.rest)

abbrev pub decreases-tokens : goal.decreases-tokens
decreases-tokens l = length l.rest
