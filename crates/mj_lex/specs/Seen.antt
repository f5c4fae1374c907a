-- The tokens that the program keeps, without where their bytes lie.
use Rattle.std.specs.Prelude.{◌≡◌, ◌+◌, length, drop, ℕ, ◌==◌, Bool, true, false, List, [], ◌∷◌, map}
use Rattle.mj_ast.specs.Tokens.{Lexeme, Class, AWord, ADollar, ADigit, AQuote, ABlank, AComment, ASign, Nothing, class_of, front_of, Token, Word, Called, Special, Invoked, Numbered, Dollars, Digits, Quoted, Signed, Blank, Comment, Unclosed, Stray}
use Rattle.mj_lex.specs.declared.front.Class as kept_class
use Rattle.mj_lex.specs.declared.front.Class.TheVariants as class
use Rattle.mj_lex.specs.declared.token.Token as kept
use Rattle.mj_lex.specs.declared.token.Token.TheVariants as token
use Rattle.mj_lex.specs.declared.token.Lexeme as lexeme

abbrev pub is_quote : ℕ → Bool
is_quote b = b == 34

-- the content of a quoted text, of which the bytes between the quotes are given: of two quotes in a row one
abbrev mutual
  pub undoubled : List ℕ → List ℕ
  undoubled [] = []
  undoubled (b ∷ bs) = b ∷ elim (b == 34) [ true ↦ undoubled_behind bs | false ↦ undoubled bs ]

  -- behind the first of two quotes
  pub undoubled_behind : List ℕ → List ℕ
  undoubled_behind [] = []
  undoubled_behind (b ∷ bs) = undoubled bs

abbrev pub token_seen : kept.Token → Token
token_seen (token.Word w) = Word w.now
token_seen (token.Called w) = Called w.now
token_seen (token.Special w) = Special w.now
token_seen (token.Invoked w) = Invoked w.now
token_seen (token.Numbered d) = Numbered d.now
token_seen token.Dollars = Dollars
token_seen (token.Digits d) = Digits d.now
token_seen (token.Quoted q) = Quoted (undoubled q.now)
token_seen (token.Sign s) = Signed s
token_seen token.Blank = Blank
token_seen (token.Comment c) = Comment c.now
token_seen (token.Unclosed u) = Unclosed (undoubled u.now)
token_seen (token.Stray b) = Stray b

abbrev pub tokens_seen : List lexeme.Lexeme → List Token
tokens_seen ls = map (λ l. token_seen l.token) ls

abbrev pub class_seen : kept_class.Class → Class
class_seen class.Word = AWord
class_seen class.Dollar = ADollar
class_seen class.Digit = ADigit
class_seen class.Quote = AQuote
class_seen class.Blank = ABlank
class_seen class.Comment = AComment
class_seen (class.Sign s) = ASign s
class_seen class.Other = Nothing

-- the token is at the front of the bytes, and the rest behind it
abbrev pub BeginsWith : List ℕ → Token → List ℕ → Type 0
BeginsWith [] t rest = ⊥
BeginsWith (b ∷ bs) t rest = (t ≡ (front_of (class_of b) b bs).0) × (rest ≡ drop (front_of (class_of b) b bs).1 bs)

-- tokens with how many bytes stand before each, of which n stand before the first
abbrev pub placed : ℕ → List Lexeme → List (Token × ℕ)
placed n [] = []
placed n (l ∷ ls) = (l.token, n) ∷ placed (n + length l.slice) ls

-- the tokens that the program keeps, with their places
abbrev pub places_seen : List lexeme.Lexeme → List (Token × ℕ)
places_seen ls = map (λ l. (token_seen l.token, l.at)) ls
