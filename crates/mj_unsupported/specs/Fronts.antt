-- What is known of the tokens before the one at which a line is stuck, and of those that are tried in its place.
use Rattle.std.specs.Prelude.{◌≡◌, ◌⊎◌, ◌≤◌, ◌+◌, ◌∷◌, ◌++◌, ◌&&◌, [], ℕ, Bool, true, List, Option, length, reverse}
use Rattle.std.specs.Prelude.{MatchBool}
use Rattle.mj_ast.specs.declared.sign.Sign.TheVariants.{Colon, Comma}
use Rattle.mj_ast.specs.Tokens.{Token, Word, Called, Special, Invoked, Digits, Signed}
use Rattle.mj_ast.specs.Expressions.{depth_limit, width_limit, name_limit}
use Rattle.mj_ast.specs.Lines.{BeginsLineWithin, HasOverlong}
use Rattle.mj_ast.specs.LeftOut.{EndsInCommand, IsBehindColon, IsBehindDevice, IsBehindTimeout, IsNamedAt, MayBeginActual, MayBeginOperand, MayBeginOutput, ends_in, ends_digits, is_colon, is_digits, is_dot, is_slash, is_word, starts}
use Rattle.mj_ast.specs.declared.construct.Construct.{Construct}
use Rattle.mj_lex.specs.declared.token.Lexeme.{Lexeme}
use Rattle.mj_lex.specs.Seen.{tokens_seen}
use Rattle.mj_ast.specs.declared.keyword.Keyword.TheVariants as keyword
use Rattle.mj_cmd.specs.Heads.{IsLabelShort}

-- the answer is whether it is so
abbrev pub Says : Bool → Type 0 → Type 0
Says b P = MatchBool b P (P → ⊥)

-- The tokens begin a line within the limits, and no word and no list among them is over its limit.
pub record IsFront (ks : List Token) : Type 0 where
  pub label : IsLabelShort ks
  pub begins : BeginsLineWithin depth_limit width_limit ks
  pub short : HasOverlong ks → ⊥

-- the tokens, from the last to the first
abbrev pub seen_back : List Lexeme → List Token
seen_back ls = reverse (tokens_seen ls)

-- no other answer than this names what stands where so many tokens are left
abbrev pub IsOnlyName : List Lexeme → ℕ → Option Construct → Type 0
IsOnlyName ls left c = (place : ℕ) → place + left ≡ length ls → (other : Option Construct) → IsNamedAt (tokens_seen ls) place other → other ≡ c

-- `.` behind digits, or before them where an operand may begin
abbrev pub IsFraction : List Token → Token → List Token → Type 0
IsFraction front t behind = (is_dot t ≡ true) × ((ends_in ends_digits front ≡ true) ⊎ ((starts is_digits behind ≡ true) × MayBeginOperand front))

-- `.` and a word where an actual may begin
abbrev pub IsByReference : List Token → Token → List Token → Type 0
IsByReference front t behind = ((is_dot t && starts is_word behind) ≡ true) × MayBeginActual front

-- `:` behind an argument of USE or CLOSE, or what stands behind the first `:` of an argument of OPEN
abbrev pub IsDeviceParameters : List Token → Token → Type 0
IsDeviceParameters front t = ((is_colon t ≡ true) × IsBehindDevice front) ⊎ IsBehindColon keyword.Open front

-- the third `:` of an argument of OPEN, or `/` where an argument of WRITE or READ may begin
abbrev pub IsMnemonicSpace : List Token → Token → Type 0
IsMnemonicSpace front t = ((is_colon t ≡ true) × IsBehindTimeout front) ⊎ ((is_slash t ≡ true) × MayBeginOutput front)

-- behind a `:` that stands behind the argument of TSTART
abbrev pub IsBehindStart : List Token → Type 0
IsBehindStart front = (before : List Token) × (front ≡ before ++ Signed Colon ∷ []) × EndsInCommand keyword.TStart before

-- the token isn't over a limit, whatever stands before it
abbrev pub IsProbe : Token → Type 0
IsProbe (Word w) = length w ≤ name_limit
IsProbe (Called w) = length w ≤ name_limit
IsProbe (Special w) = length w ≤ name_limit
IsProbe (Invoked w) = length w ≤ name_limit
IsProbe (Digits d) = ⊥
IsProbe (Signed Comma) = ⊥
IsProbe t = Unit {0}
