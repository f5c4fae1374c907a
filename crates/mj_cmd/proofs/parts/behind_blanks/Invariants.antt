use Rattle.std.proofs.Common.{◌≡◌, ◌+◌, ◌++◌, length}
use Rattle.std.specs.Prelude.{replicate}
use Rattle.mj_ast.specs.Tokens.{Blank}
use Rattle.mj_lex.specs.Seen.{tokens_seen}
use Rattle.mj_cmd.proofs.parts.behind_blanks.Given as goal

abbrev pub invariant-blanks : goal.invariant-blanks
invariant-blanks l = (l.count + length l.rest ≡ length l.tokens) × (tokens_seen l.tokens ≡ replicate l.count Blank ++ tokens_seen l.rest)

abbrev pub decreases-blanks : goal.decreases-blanks
decreases-blanks l = length l.rest
