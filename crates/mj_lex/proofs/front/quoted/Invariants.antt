use Rattle.std.proofs.Common.{ℕ, List, ◌-◌, ◌≤◌, length}
use Rattle.mj_lex.proofs.Quotes.{IsReadTo}
use Rattle.mj_lex.proofs.front.quoted.Given as goal

abbrev pub invariant-content : goal.invariant-content
invariant-content l = record { within : l.at ≤ length l.bytes; read : (content : List ℕ) × IsReadTo l.bytes l.at content }

abbrev pub decreases-content : goal.decreases-content
decreases-content l = length l.bytes - l.at
