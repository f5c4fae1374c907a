-- What is said of a line that was read or refused, in the words of the grammar.
use Rattle.std.specs.Prelude.{ℕ, ◌≡◌, ◌+◌, List, length}
use Rattle.mj_ast.specs.Syntax.{Line}
use Rattle.mj_ast.specs.Tokens.{Token}
use Rattle.mj_ast.specs.Expressions.{depth_limit, width_limit}
use Rattle.mj_ast.specs.Lines.{SpellsLine, IsLineWithin, IsStuck, IsDeep, HasOverlong}
use Rattle.mj_expr.specs.declared.stop.ParseError.{ParseError}
use Rattle.mj_expr.specs.declared.stop.ParseError.TheVariants as stop

-- The tokens spell the line, within the limits, and no other line. No word and no list is over its limit.
pub record IsRead (ks : List Token) (l : Line) : Type 0 where
  pub spells : SpellsLine ks l
  pub within : IsLineWithin depth_limit width_limit l
  pub only : (o : Line) → SpellsLine ks o → o ≡ l
  pub short : HasOverlong ks → ⊥

-- The grammar can't go on where so many tokens are left, and nothing up to there is over its limit.
pub record IsStuckWith (ks : List Token) (left : ℕ) : Type 0 where
  pub place : ℕ
  pub left_is : place + left ≡ length ks
  pub stuck : IsStuck ks place
  pub short : HasOverlong ks → ⊥

-- A level too many opens where so many tokens are left, and no word and no list is over its limit, before it or behind.
pub record IsDeepWith (ks : List Token) (left : ℕ) : Type 0 where
  pub place : ℕ
  pub left_is : place + left ≡ length ks
  pub deep : IsDeep ks place
  pub short : HasOverlong ks → ⊥

-- What a refusal says of the line. Want of memory says nothing.
abbrev pub RefusalSays : List Token → ParseError → Type 0
RefusalSays ks stop.Memory = Unit {0}
RefusalSays ks (stop.Stuck left) = IsStuckWith ks left
RefusalSays ks (stop.Deep left) = IsDeepWith ks left
RefusalSays ks stop.Long = HasOverlong ks

-- what comes before a level too many
abbrev pub IsLate : List Token → ParseError → Type 0
IsLate ks stop.Memory = Unit {0}
IsLate ks (stop.Stuck left) = ⊥
IsLate ks (stop.Deep left) = ⊥
IsLate ks stop.Long = HasOverlong ks
