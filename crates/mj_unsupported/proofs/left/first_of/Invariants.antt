use Rattle.std.proofs.Common.{Option, length}
use Rattle.mj_ast.specs.declared.construct.Construct.{Construct}
use Rattle.mj_ast.specs.LeftOut.{IsFirstOf}
use Rattle.mj_lex.specs.Seen.{token_seen, tokens_seen}
use Rattle.mj_unsupported.proofs.left.first_of.Given as goal

abbrev pub invariant-rows : goal.invariant-rows
invariant-rows l = (c : Option Construct) → IsFirstOf l.rest (tokens_seen l.front) (token_seen l.token) (tokens_seen l.behind) c →
    IsFirstOf l.rows (tokens_seen l.front) (token_seen l.token) (tokens_seen l.behind) c

abbrev pub decreases-rows : goal.decreases-rows
decreases-rows l = length l.rest
