-- What is read at the front of the tokens, and what a refusal says.
use Rattle.std.specs.Prelude.{ℕ, ◌≡◌, ◌+◌, ◌<◌, ◌≤◌, List, [], ◌∷◌, ◌++◌, length}
use Rattle.mj_ast.specs.declared.sign.Sign.TheVariants.{Comma}
use Rattle.mj_ast.specs.Tokens.{Token, Word, Called, Special, Invoked, Signed}
use Rattle.mj_ast.specs.Lines.{Filler}
use Rattle.mj_ast.specs.Expressions.{Phrases, Spells, NestsWithin, BeginsPhrase, BeginsWithin, symbol, levels_of, name_limit, width_limit}
use Rattle.mj_expr.specs.declared.stop.ParseError.{ParseError}
use Rattle.mj_expr.specs.declared.stop.ParseError.TheVariants.{Stuck, Deep, Long, Memory}

-- The tokens up to the rest spell the tree, within the limits, and no other tree. With the next token they begin no phrase.
pub record IsRead {T : Type 0} (P : Phrases T) (depth : ℕ) (ks : List Token) (t : T) (rest : List Token) : Type 0 where
  pub front : List Token
  pub cut : ks ≡ front ++ rest
  pub spells : Spells P front t
  pub within : NestsWithin P depth width_limit t
  pub only : (u : T) → Spells P front u → u ≡ t
  pub ends : (k : Token) (more : List Token) → rest ≡ k ∷ more → BeginsPhrase P (front ++ k ∷ []) → ⊥

-- the token is no word over its limit, with a `$` or without
abbrev pub IsShort : Token → Type 0
IsShort (Word word) = length word ≤ name_limit
IsShort (Called word) = length word ≤ name_limit
IsShort (Special word) = length word ≤ name_limit
IsShort (Invoked word) = length word ≤ name_limit
IsShort _ = Unit {0}

-- The tokens up to those that are left begin a phrase within the limits and spell none, and with the next one, if there is
-- one, they begin none, whatever the limits. That one is no word over its limit.
pub record IsStuck {T : Type 0} (P : Phrases T) (depth : ℕ) (ks : List Token) (left : ℕ) : Type 0 where
  pub front : List Token
  pub rest : List Token
  pub cut : ks ≡ front ++ rest
  pub place : length rest ≡ left
  pub before : BeginsWithin P depth width_limit front
  pub whole : (t : T) → Spells P front t → ⊥
  pub at : (k : Token) (more : List Token) → rest ≡ k ∷ more → BeginsPhrase P (front ++ k ∷ []) → ⊥
  pub short : (k : Token) (more : List Token) → rest ≡ k ∷ more → IsShort k

-- The tokens up to those that are left begin a phrase within the limits. With the next one they begin one that nests deeper
-- than is allowed by as many levels as open with it at least, and none that nests no deeper than is allowed.
pub record IsDeep {T : Type 0} (P : Phrases T) (depth : ℕ) (ks : List Token) (left : ℕ) : Type 0 where
  pub front : List Token
  pub token : Token
  pub more : List Token
  pub cut : ks ≡ front ++ token ∷ more
  pub place : length (token ∷ more) ≡ left
  pub before : BeginsWithin P depth width_limit front
  pub at : BeginsWithin P (depth + levels_of (symbol token)) width_limit (front ++ token ∷ [])
  pub beyond : BeginsWithin P depth width_limit (front ++ token ∷ []) → ⊥

-- With a comma behind them the tokens begin a phrase, but none whose lists of subscripts are short enough, however deep. It
-- is so too where an operand is still missing before the comma.
pub record IsLastComma {T : Type 0} (P : Phrases T) (ks : List Token) : Type 0 where
  pub filler : List Token
  pub fills : Filler filler
  pub begins : BeginsPhrase P (ks ++ (filler ++ Signed Comma ∷ []))
  pub too_long : (depth : ℕ) → BeginsWithin P depth width_limit (ks ++ (filler ++ Signed Comma ∷ [])) → ⊥

-- a word, with a `$` or without, that no phrase goes on with and that is over its limit, where no phrase ends before it
pub record IsLongWord {T : Type 0} (P : Phrases T) (front : List Token) (k : Token) (word : List ℕ) : Type 0 where
  pub long : name_limit < length word
  pub whole : (t : T) → Spells P front t → ⊥
  pub at : BeginsPhrase P (front ++ k ∷ []) → ⊥

-- a word over its limit, or a comma with which a list has too many
abbrev pub IsOverlong : {T : Type 0} → Phrases T → List Token → Token → Type 0
IsOverlong P front (Word word) = IsLongWord P front (Word word) word
IsOverlong P front (Called word) = IsLongWord P front (Called word) word
IsOverlong P front (Special word) = IsLongWord P front (Special word) word
IsOverlong P front (Invoked word) = IsLongWord P front (Invoked word) word
IsOverlong P front (Signed Comma) = IsLastComma P front
IsOverlong P front k = ⊥

-- The tokens up to some place begin a phrase within the limits, and there stands a word over its limit, or a comma with
-- which a list of subscripts has too many.
pub record IsLong {T : Type 0} (P : Phrases T) (depth : ℕ) (ks : List Token) : Type 0 where
  pub front : List Token
  pub token : Token
  pub more : List Token
  pub cut : ks ≡ front ++ token ∷ more
  pub before : BeginsWithin P depth width_limit front
  pub overlong : IsOverlong P front token

-- what a refusal says; want of memory says nothing of the tokens
abbrev pub IsPhraseRefused : {T : Type 0} → Phrases T → ℕ → List Token → ParseError → Type 0
IsPhraseRefused P depth ks (Stuck left) = IsStuck P depth ks left
IsPhraseRefused P depth ks (Deep left) = IsDeep P depth ks left
IsPhraseRefused P depth ks Long = IsLong P depth ks
IsPhraseRefused P depth ks Memory = Unit {0}
