use Rattle.std.proofs.Common.{◌≡◌, ◌≤◌, ◌++◌, length, map}
use Rattle.mj_ast.specs.Tokens.{Signed}
use Rattle.mj_lex.specs.Seen.{tokens_seen}
use Rattle.mj_cmd.specs.Parts.{mark_sign}
use Rattle.mj_cmd.proofs.layout.marks.Given as goal

abbrev pub invariant-marks : goal.invariant-marks
invariant-marks l = (length l.rest ≤ length l.tokens) × (tokens_seen l.tokens ≡ map (λ m. Signed (mark_sign m)) l.marks.items ++ tokens_seen l.rest)

abbrev pub decreases-marks : goal.decreases-marks
decreases-marks l = length l.rest
