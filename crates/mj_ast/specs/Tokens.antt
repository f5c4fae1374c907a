-- The tokens of a line of a routine. A line is the list of its bytes, and a token is a slice of it: each slice is the
-- longest that spells a token, from the left on. Every line has one tokenisation. What can stand in no sentence of the
-- language is a token too: a quote that isn't closed, and each byte that begins nothing else.
use Rattle.std.specs.Prelude.{◌≡◌, ◌⊎◌, ℕ, zero, suc, ◌+◌, ◌≤◌, ◌==◌, nat_le, Bool, true, false, ◌&&◌, ◌||◌, IsTrue, if◌then◌else◌, List, [], ◌∷◌, ◌++◌, length, take, drop, take_while, map, All, Option, Some, None}
use Rattle.mj_ast.specs.declared.sign.Sign.{Sign}
use Rattle.mj_oper.specs.declared.op.TruthOp.{TruthOp}
use Rattle.mj_oper.specs.declared.op.TruthOp.TheVariants as truth
use Rattle.mj_ast.specs.declared.sign.Sign.TheVariants.{Plus, Minus, Star, Backslash, Hash, Slash, Underscore, Equals, Less, Greater, OpenBracket, CloseBracket, CloseBrackets, Ampersand, Exclamation, Apostrophe, Negated, Question, NegatedQuestion, Caret, Open, Close, Comma, Colon, Dot}

-- a letter
abbrev pub is_letter : ℕ → Bool
is_letter b = nat_le 65 b && nat_le b 90 || nat_le 97 b && nat_le b 122

-- a digit
abbrev pub is_digit : ℕ → Bool
is_digit b = nat_le 48 b && nat_le b 57

-- what a word begins with: a letter or `%`
abbrev pub begins_word : ℕ → Bool
begins_word b = is_letter b || b == 37

-- what a word goes on with: letters and digits
abbrev pub continues_word : ℕ → Bool
continues_word b = is_letter b || is_digit b

-- a space or a tab
abbrev pub is_blank : ℕ → Bool
is_blank b = b == 32 || b == 9

-- a letter or `%`, then letters and digits (this profile; its length is limited elsewhere)
abbrev pub IsWord : List ℕ → Type 0
IsWord [] = ⊥
IsWord (b ∷ bs) = IsTrue (begins_word b) × All (λ c. IsTrue (continues_word c)) bs

-- one digit or more
abbrev pub AreDigits : List ℕ → Type 0
AreDigits [] = ⊥
AreDigits (b ∷ bs) = All (λ c. IsTrue (is_digit c)) (b ∷ bs)

-- a token
pub data Token : Type 0 where
  -- a word: a name, or a keyword as it was spelled
  Word : (bytes : List ℕ) → Token
  -- `$` and a word, with a `(` directly behind it
  Called : (word : List ℕ) → Token
  -- `$` and a word, with anything else behind it
  Special : (word : List ℕ) → Token
  -- `$$` and a word
  Invoked : (word : List ℕ) → Token
  -- `$$` and digits, as they were spelled
  Numbered : (digits : List ℕ) → Token
  -- `$$` with neither behind it
  Dollars : Token
  -- digits, as they were spelled
  Digits : (bytes : List ℕ) → Token
  -- a quoted text, by its content
  Quoted : (content : List ℕ) → Token
  -- a sign
  Signed : (sign : Sign) → Token
  -- one space or tab
  Blank : Token
  -- what stands behind a `;`, up to the line's end
  Comment : (text : List ℕ) → Token
  -- a quote that isn't closed, with what stands behind it
  Unclosed : (text : List ℕ) → Token
  -- any other byte
  Stray : (byte : ℕ) → Token

-- the bytes of a truth operator
abbrev pub truth_bytes : TruthOp → List ℕ
truth_bytes truth.Equal = 61 ∷ []
truth_bytes truth.Less = 60 ∷ []
truth_bytes truth.Greater = 62 ∷ []
truth_bytes truth.Contains = 91 ∷ []
truth_bytes truth.Follows = 93 ∷ []
truth_bytes truth.SortsAfter = 93 ∷ 93 ∷ []
truth_bytes truth.And = 38 ∷ []
truth_bytes truth.Or = 33 ∷ []

-- the bytes of a sign: a truth operator, or a `?`, may have a `'` in front, which makes both one sign
abbrev pub sign_bytes : Sign → List ℕ
sign_bytes Plus = 43 ∷ []
sign_bytes Minus = 45 ∷ []
sign_bytes Star = 42 ∷ []
sign_bytes Backslash = 92 ∷ []
sign_bytes Hash = 35 ∷ []
sign_bytes Slash = 47 ∷ []
sign_bytes Underscore = 95 ∷ []
sign_bytes Equals = truth_bytes truth.Equal
sign_bytes Less = truth_bytes truth.Less
sign_bytes Greater = truth_bytes truth.Greater
sign_bytes OpenBracket = truth_bytes truth.Contains
sign_bytes CloseBracket = truth_bytes truth.Follows
sign_bytes CloseBrackets = truth_bytes truth.SortsAfter
sign_bytes Ampersand = truth_bytes truth.And
sign_bytes Exclamation = truth_bytes truth.Or
sign_bytes Apostrophe = 39 ∷ []
sign_bytes (Negated op) = 39 ∷ truth_bytes op
sign_bytes Question = 63 ∷ []
sign_bytes NegatedQuestion = 39 ∷ 63 ∷ []
sign_bytes Caret = 94 ∷ []
sign_bytes Open = 40 ∷ []
sign_bytes Close = 41 ∷ []
sign_bytes Comma = 44 ∷ []
sign_bytes Colon = 58 ∷ []
sign_bytes Dot = 46 ∷ []

-- the bytes of a text between quotes: each quote in it is doubled
abbrev pub doubled : List ℕ → List ℕ
doubled [] = []
doubled (b ∷ bs) = (if b == 34 then 34 ∷ 34 ∷ doubled bs else b ∷ doubled bs)

-- what a byte may begin
pub data Class : Type 0 where
  AWord : Class
  ADollar : Class
  ADigit : Class
  AQuote : Class
  ABlank : Class
  AComment : Class
  ASign : (sign : Sign) → Class
  Nothing : Class

-- the sign of a byte, if it is one
abbrev pub sign_class : ℕ → Class
sign_class b =
    if b == 43 then ASign Plus
    else if b == 45 then ASign Minus
    else if b == 42 then ASign Star
    else if b == 92 then ASign Backslash
    else if b == 35 then ASign Hash
    else if b == 47 then ASign Slash
    else if b == 95 then ASign Underscore
    else if b == 61 then ASign Equals
    else if b == 60 then ASign Less
    else if b == 62 then ASign Greater
    else if b == 91 then ASign OpenBracket
    else if b == 93 then ASign CloseBracket
    else if b == 38 then ASign Ampersand
    else if b == 33 then ASign Exclamation
    else if b == 39 then ASign Apostrophe
    else if b == 63 then ASign Question
    else if b == 94 then ASign Caret
    else if b == 40 then ASign Open
    else if b == 41 then ASign Close
    else if b == 44 then ASign Comma
    else if b == 58 then ASign Colon
    else if b == 46 then ASign Dot
    else Nothing

-- what a byte begins
abbrev pub class_of : ℕ → Class
class_of b =
    if begins_word b then AWord
    else if is_digit b then ADigit
    else if is_blank b then ABlank
    else if b == 34 then AQuote
    else if b == 59 then AComment
    else if b == 36 then ADollar
    else sign_class b

-- the bytes spell the token
abbrev pub IsSpelledBy : Token → List ℕ → Type 0
IsSpelledBy (Word w) bytes = (bytes ≡ w) × IsWord w
IsSpelledBy (Called w) bytes = (bytes ≡ 36 ∷ w) × IsWord w
IsSpelledBy (Special w) bytes = (bytes ≡ 36 ∷ w) × IsWord w
IsSpelledBy (Invoked w) bytes = (bytes ≡ 36 ∷ 36 ∷ w) × IsWord w
IsSpelledBy (Numbered d) bytes = (bytes ≡ 36 ∷ 36 ∷ d) × AreDigits d
IsSpelledBy Dollars bytes = bytes ≡ 36 ∷ 36 ∷ []
IsSpelledBy (Digits d) bytes = (bytes ≡ d) × AreDigits d
IsSpelledBy (Quoted content) bytes = bytes ≡ 34 ∷ (doubled content ++ 34 ∷ [])
IsSpelledBy (Signed s) bytes = bytes ≡ sign_bytes s
IsSpelledBy Blank bytes = (bytes ≡ 32 ∷ []) ⊎ (bytes ≡ 9 ∷ [])
IsSpelledBy (Comment text) bytes = bytes ≡ 59 ∷ text
IsSpelledBy (Unclosed text) bytes = bytes ≡ 34 ∷ doubled text
IsSpelledBy (Stray b) bytes = (bytes ≡ b ∷ []) × ((class_of b ≡ Nothing) ⊎ (b ≡ 36))

-- a `(` stands in front
abbrev pub opens : List ℕ → Bool
opens [] = false
opens (b ∷ bs) = b == 40

-- what stands behind the token fits it
abbrev pub IsBefore : Token → List ℕ → Type 0
IsBefore (Called w) rest = opens rest ≡ true
IsBefore (Special w) rest = opens rest ≡ false
IsBefore _ rest = Unit {0}

-- a token with the slice of the line that spells it
pub record Lexeme : Type 0 where
  pub token : Token
  pub slice : List ℕ

-- no token is spelled by more than the first n bytes
pub record IsLongest (bytes : List ℕ) (n : ℕ) : Type 0 where
  pub longest : (t : Token) (front rest : List ℕ) → bytes ≡ front ++ rest → IsSpelledBy t front → length front ≤ n

-- the tokens with their slices are the line, each slice the longest that spells a token
abbrev pub IsTokenisation : List ℕ → List Lexeme → Type 0
IsTokenisation line [] = line ≡ []
IsTokenisation line (l ∷ ls) =
    (rest : List ℕ) × (line ≡ l.slice ++ rest) × IsSpelledBy l.token l.slice × IsBefore l.token rest × IsLongest line (length l.slice) × IsTokenisation rest ls

-- A quoted text from behind its opening quote on: whether it is closed, its content, and how many bytes it takes.
pub record Quotation : Type 0 where
  pub closed : Bool
  pub content : List ℕ
  pub width : ℕ

-- with a byte of the content in front, which takes n bytes
abbrev pub with_byte : ℕ → ℕ → Quotation → Quotation
with_byte b n q = record { closed = q.closed; content = b ∷ q.content; width = n + q.width }

abbrev mutual
  pub quotation : List ℕ → Quotation
  quotation [] = record { closed = false; content = []; width = 0 }
  quotation (b ∷ bs) = elim (b == 34) [ true ↦ behind_quote bs | false ↦ with_byte b 1 (quotation bs) ]

  -- behind a quote in it: a second one makes both a byte of the content
  pub behind_quote : List ℕ → Quotation
  behind_quote [] = record { closed = true; content = []; width = 1 }
  behind_quote (b ∷ bs) = elim (b == 34) [ true ↦ with_byte 34 2 (quotation bs) | false ↦ record { closed = true; content = []; width = 1 } ]

-- the token of a quotation
abbrev pub quoted_token : Quotation → Token
quoted_token q = if q.closed then Quoted q.content else Unclosed q.content

-- the truth operator of a `]`: a second one makes both one sign
abbrev pub bracket_front : List ℕ → TruthOp
bracket_front [] = truth.Follows
bracket_front (b ∷ bs) = if b == 93 then truth.SortsAfter else truth.Follows

-- the truth operator that a byte begins, and those behind it go on with, if there is one: the longest
abbrev pub begun_truth : ℕ → List ℕ → Option TruthOp
begun_truth b bs =
    if b == 61 then Some truth.Equal
    else if b == 60 then Some truth.Less
    else if b == 62 then Some truth.Greater
    else if b == 91 then Some truth.Contains
    else if b == 93 then Some (bracket_front bs)
    else if b == 38 then Some truth.And
    else if b == 33 then Some truth.Or
    else None

-- the truth operator at the front, if there is one
abbrev pub truth_front : List ℕ → Option TruthOp
truth_front [] = None
truth_front (b ∷ bs) = begun_truth b bs

-- the sign of one `]`, or of two
abbrev pub bracket_sign : TruthOp → Sign × ℕ
bracket_sign truth.SortsAfter = (CloseBrackets, 1)
bracket_sign _ = (CloseBracket, 0)

-- the sign of a `'` with no truth operator behind it, and how many of the bytes there it takes
abbrev pub apostrophe_sign : List ℕ → Sign × ℕ
apostrophe_sign [] = (Apostrophe, 0)
apostrophe_sign (b ∷ bs) = if b == 63 then (NegatedQuestion, 1) else (Apostrophe, 0)

-- the longest sign that begins with the byte of a sign, by the bytes behind it, and how many of them it takes
abbrev pub longest_sign : Sign → List ℕ → Sign × ℕ
longest_sign CloseBracket bs = bracket_sign (bracket_front bs)
longest_sign Apostrophe bs = elim (truth_front bs) [ None ↦ apostrophe_sign bs | Some op ↦ (Negated op, length (truth_bytes op)) ]
longest_sign s bs = (s, 0)

-- the token of `$` and a word, by what stands behind it
abbrev pub dollar_word : List ℕ → List ℕ → Token
dollar_word w rest = if opens rest then Called w else Special w

-- the token of `$$`, by the bytes behind it, and how many of them it takes
abbrev pub dollars_front : List ℕ → Token × ℕ
dollars_front [] = (Dollars, 0)
dollars_front (b ∷ bs) =
    let w = take_while continues_word bs in
    let d = take_while is_digit bs in
    if begins_word b then (Invoked (b ∷ w), 1 + length w)
    else if is_digit b then (Numbered (b ∷ d), 1 + length d)
    else (Dollars, 0)

-- the token of a `$`, by the bytes behind it, and how many of them it takes
abbrev pub dollar_front : List ℕ → Token × ℕ
dollar_front [] = (Stray 36, 0)
dollar_front (b ∷ bs) =
    let w = take_while continues_word bs in
    if begins_word b then (dollar_word (b ∷ w) (drop (length w) bs), 1 + length w)
    else if b == 36 then ((dollars_front bs).0, 1 + (dollars_front bs).1)
    else (Stray 36, 0)

-- the token at the front of a line, and how many bytes behind its first it takes
abbrev pub front_of : Class → ℕ → List ℕ → Token × ℕ
front_of AWord b bs = let w = take_while continues_word bs in (Word (b ∷ w), length w)
front_of ADollar b bs = dollar_front bs
front_of ADigit b bs = let d = take_while is_digit bs in (Digits (b ∷ d), length d)
front_of AQuote b bs = let q = quotation bs in (quoted_token q, q.width)
front_of ABlank b bs = (Blank, 0)
front_of AComment b bs = (Comment bs, length bs)
front_of (ASign s) b bs = let longest = longest_sign s bs in (Signed longest.0, longest.1)
front_of Nothing b bs = (Stray b, 0)

-- the first tokens of a line, at most n
abbrev pub first_lexemes : ℕ → List ℕ → List Lexeme
first_lexemes zero bytes = []
first_lexemes (suc n) [] = []
first_lexemes (suc n) (b ∷ bs) =
    let f = front_of (class_of b) b bs in
    record { token = f.0; slice = b ∷ take f.1 bs } ∷ first_lexemes n (drop f.1 bs)

-- the tokens of a line with their slices
unfoldable pub lexemes : List ℕ → List Lexeme
lexemes line = first_lexemes (length line) line

-- the tokens of a line
abbrev pub tokens : List ℕ → List Token
tokens line = map (λ l. l.token) (lexemes line)

-- how many bytes the slices have
abbrev pub bytes_of : List Lexeme → ℕ
bytes_of [] = 0
bytes_of (l ∷ ls) = length l.slice + bytes_of ls

-- the column of the token that k tokens stand before, or of the line's end
abbrev pub column : List ℕ → ℕ → ℕ
column line k = 1 + bytes_of (take k (lexemes line))
