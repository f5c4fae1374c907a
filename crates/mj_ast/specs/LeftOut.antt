-- What the language leaves out by name (this profile).
--
-- A line is refused at the first token with which no line goes on. Where that token stands for a construct that the language leaves
-- out, the refusal has the construct's name:
--
--   indirection       `@` where a name, an argument, an entry or an operand may begin
--   fraction          `.` behind digits, or `.` and digits where an operand may begin
--   exponent          a word that begins with `E` directly behind digits
--   power             the second `*` of `**`
--   pattern           `?` or `'?` where a binary operator may stand
--   naked             `(` directly behind `^`
--   environment       `[` or the vertical bar directly behind `^`
--   structured        `$` directly behind `^`, a word behind it or not
--   by reference      `.` and a word where an actual may begin
--   entry offset      `+` behind the label of an entry
--   read length       `#` behind a variable of READ
--   device parameters  `:` behind an argument of USE or CLOSE; what stands behind the first `:` of an argument of OPEN and isn't a second
--                     one
--   process parameters  what stands behind the first `:` of an argument of JOB and isn't a second one
--   mnemonic space    the third `:` of an argument of OPEN; `/` where an argument of WRITE or READ may begin
--   set extract       `$EXTRACT(` as a destination
--   justify decimals  the second comma in `$JUSTIFY`
--   query backward    the first comma in `$QUERY`
--   name depth        the first comma in `$NAME`
--   order names       `)` or `,` behind a variable of `$ORDER` without subscripts
--   function          a `$` word with a `(` behind it that is no function's
--   variable          any other `$` word that is no variable's
--   command           a word that is no command's where a command may begin
--
-- The first row that fits is the one that is given. A row without a place holds wherever the line can't go on.
--
-- A row looks at the token, at those before it, which begin a line, and at those behind it. Where something may begin is said by the
-- grammar itself: where a token may stand that could begin it, and that could stand nowhere else.
use Rattle.std.specs.Prelude.{◌≡◌, ◌⊎◌, ℕ, ◌+◌, ◌-◌, ◌==◌, Bool, true, false, not, ◌&&◌, ◌||◌, List, [], ◌∷◌, ◌++◌, reverse, take, drop, Option, Some, None, codes}
use Rattle.mj_ast.specs.declared.construct.Construct.{Construct}
use Rattle.mj_ast.specs.declared.construct.Construct.TheVariants as construct
use Rattle.mj_ast.specs.declared.sign.Sign.TheVariants.{Plus, Minus, Star, Hash, Slash, Underscore, OpenBracket, Exclamation, Apostrophe, Question, NegatedQuestion, Caret, Open, Close, Comma, Colon, Dot}
use Rattle.mj_ast.specs.declared.function.Function.TheVariants.{Extract, Justify}
use Rattle.mj_ast.specs.declared.function.NameFunction.TheVariants as names
use Rattle.mj_ast.specs.declared.function.Callee.{Callee}
use Rattle.mj_ast.specs.declared.function.Callee.TheVariants.{Texts, Names}
use Rattle.mj_ast.specs.declared.keyword.Keyword.{Keyword}
use Rattle.mj_ast.specs.declared.keyword.Keyword.TheVariants as keyword
use Rattle.mj_ast.specs.declared.keyword.Verb.{Verb}
use Rattle.mj_ast.specs.Syntax.{Line, LineCommand}
use Rattle.mj_ast.specs.Tokens.{Token, Word, Called, Special, Invoked, Numbered, Dollars, Digits, Quoted, Signed, Blank, Stray, tokens}
use Rattle.mj_ast.specs.Expressions.{callee_of, is_named}
use Rattle.mj_ast.specs.Commands.{capital, verb_of, keyword_for}
use Rattle.mj_ast.specs.Lines.{SpellsLine, BeginsLine, IsStuckAt}

-- ---- names

-- the name by which a construct is refused
abbrev pub name_of : Construct → List ℕ
name_of construct.Indirection = codes "indirection"
name_of construct.Fraction = codes "fraction"
name_of construct.Exponent = codes "exponent"
name_of construct.Power = codes "power"
name_of construct.Pattern = codes "pattern"
name_of construct.Naked = codes "naked"
name_of construct.Environment = codes "environment"
name_of construct.Structured = codes "structured"
name_of construct.ByReference = codes "by reference"
name_of construct.EntryOffset = codes "entry offset"
name_of construct.ReadLength = codes "read length"
name_of construct.DeviceParameters = codes "device parameters"
name_of construct.ProcessParameters = codes "process parameters"
name_of construct.MnemonicSpace = codes "mnemonic space"
name_of construct.TransactionId = codes "transaction id"
name_of construct.BareSerial = codes "bare serial"
name_of construct.SetExtract = codes "set extract"
name_of construct.JustifyDecimals = codes "justify decimals"
name_of construct.QueryBackward = codes "query backward"
name_of construct.NameDepth = codes "name depth"
name_of construct.OrderNames = codes "order names"
name_of construct.Function = codes "function"
name_of construct.Variable = codes "variable"
name_of construct.Command = codes "command"

-- ---- tokens

abbrev pub is_stray : ℕ → Token → Bool
is_stray byte (Stray b) = b == byte
is_stray byte t = false

-- `@`, the vertical bar, and a `$` without a word
abbrev pub is_at : Token → Bool
is_at t = is_stray 64 t

abbrev pub is_bar : Token → Bool
is_bar t = is_stray 124 t

abbrev pub is_dollar : Token → Bool
is_dollar t = is_stray 36 t

-- `$$`, with or without a label behind it
abbrev pub has_dollars : Token → Bool
has_dollars (Invoked w) = true
has_dollars (Numbered d) = true
has_dollars Dollars = true
has_dollars t = false

-- a `$`, with or without a word behind it
abbrev pub has_dollar : Token → Bool
has_dollar (Special w) = true
has_dollar (Called w) = true
has_dollar t = has_dollars t || is_dollar t

-- `$$` without a label
abbrev pub is_dollars : Token → Bool
is_dollars Dollars = true
is_dollars t = false

abbrev pub is_digits : Token → Bool
is_digits (Digits d) = true
is_digits t = false

-- digits, which may be the label of a function
abbrev pub ends_digits : Token → Bool
ends_digits (Numbered d) = true
ends_digits t = is_digits t

abbrev pub is_word : Token → Bool
is_word (Word w) = true
is_word t = false

abbrev pub is_blank_token : Token → Bool
is_blank_token Blank = true
is_blank_token t = false

abbrev pub is_dot : Token → Bool
is_dot (Signed Dot) = true
is_dot t = false

abbrev pub is_star : Token → Bool
is_star (Signed Star) = true
is_star t = false

abbrev pub is_hash : Token → Bool
is_hash (Signed Hash) = true
is_hash t = false

abbrev pub is_slash : Token → Bool
is_slash (Signed Slash) = true
is_slash t = false

abbrev pub is_caret : Token → Bool
is_caret (Signed Caret) = true
is_caret t = false

abbrev pub is_open : Token → Bool
is_open (Signed Open) = true
is_open t = false

abbrev pub is_close : Token → Bool
is_close (Signed Close) = true
is_close t = false

abbrev pub is_comma : Token → Bool
is_comma (Signed Comma) = true
is_comma t = false

abbrev pub is_colon : Token → Bool
is_colon (Signed Colon) = true
is_colon t = false

abbrev pub is_plus : Token → Bool
is_plus (Signed Plus) = true
is_plus t = false

abbrev pub is_bracket : Token → Bool
is_bracket (Signed OpenBracket) = true
is_bracket t = false

abbrev pub is_question : Token → Bool
is_question (Signed Question) = true
is_question t = false

abbrev pub is_negated_question : Token → Bool
is_negated_question (Signed NegatedQuestion) = true
is_negated_question t = false

-- ---- the tokens around

-- such a token is the first of these
abbrev pub starts : (Token → Bool) → List Token → Bool
starts p [] = false
starts p (k ∷ ks) = p k

-- such a token is the last of these
abbrev pub ends_in : (Token → Bool) → List Token → Bool
ends_in p front = starts p (reverse front)

-- what the language goes on with there
abbrev pub MayStand : List Token → Token → Type 0
MayStand front t = BeginsLine (front ++ t ∷ [])

-- The names of a list of formals differ, so the one that stands for all others may be taken there. Up to the first blank of
-- a line there is nothing but a label and its formals, and a name is wanted behind each `(` and comma.
abbrev pub has_no_blank : List Token → Bool
has_no_blank [] = true
has_no_blank (k ∷ ks) = not (is_blank_token k) && has_no_blank ks

abbrev pub is_open_or_comma : Token → Bool
is_open_or_comma t = is_open t || is_comma t

abbrev pub is_in_formals : List Token → Bool
is_in_formals front = has_no_blank front && ends_in is_open_or_comma front

-- a name is wanted as a formal, or behind `$$`, where a word would have made one token with it
abbrev pub wants_name : List Token → Bool
wants_name front = is_in_formals front || ends_in is_dollars front

-- a name may begin: as a label, a variable, an argument, in an entry or in a list; `A` is the word of no command
abbrev pub MayBeginName : List Token → Type 0
MayBeginName front = (wants_name front ≡ true) ⊎ MayStand front (Word (codes "A"))

-- an operand may begin: only there `$TEST` may stand
abbrev pub MayBeginOperand : List Token → Type 0
MayBeginOperand front = MayStand front (Special (codes "T"))

-- a binary operator may stand: `_` is one, and nothing else
abbrev pub MayBeOperator : List Token → Type 0
MayBeOperator front = MayStand front (Signed Underscore)

-- an actual may begin: an operand may, and as an actual may be left out, the list may also be closed
abbrev pub MayBeginActual : List Token → Type 0
MayBeginActual front = MayBeginOperand front × MayStand front (Signed Close)

-- An argument of WRITE or READ may begin: a text in quotes may, and so may a run of `!`, which is a binary operator where no text may.
abbrev pub MayBeginOutput : List Token → Type 0
MayBeginOutput front = MayStand front (Quoted []) × MayStand front (Signed Exclamation)

-- the label of an entry was read: a word or digits with a `^` behind them are one
abbrev pub is_label : Token → Bool
is_label t = is_word t || is_digits t

abbrev pub IsBehindLabel : List Token → Type 0
IsBehindLabel front = (ends_in is_label front ≡ true) × MayStand front (Signed Caret)

-- A destination may begin, or an operand: both may be a call of `$PIECE`. An operand may be one of `$EXTRACT` too.
abbrev pub MayBeginDestination : List Token → Type 0
MayBeginDestination front = MayStand front (Called (codes "P"))

-- a command may begin: behind a blank, or behind the dots of a block, `W` may stand and is one
abbrev pub is_blank_or_dot : Token → Bool
is_blank_or_dot t = is_blank_token t || is_dot t

abbrev pub MayBeginCommand : List Token → Type 0
MayBeginCommand front = (ends_in is_blank_or_dot front ≡ true) × MayStand front (Word (codes "W"))

-- ---- functions around

abbrev pub is_extract : Option Callee → Bool
is_extract (Some (Texts Extract)) = true
is_extract f = false

abbrev pub is_justify : Option Callee → Bool
is_justify (Some (Texts Justify)) = true
is_justify f = false

abbrev pub is_query : Option Callee → Bool
is_query (Some (Names names.Query)) = true
is_query f = false

abbrev pub is_name : Option Callee → Bool
is_name (Some (Names names.Name)) = true
is_name f = false

abbrev pub is_order : Option Callee → Bool
is_order (Some (Names names.Order)) = true
is_order f = false

-- the function that the token names, if it does
abbrev pub called : Token → Option Callee
called (Called w) = callee_of w
called t = None

-- the function of a parenthesis, of which the tokens before are given, the nearest first
abbrev pub function_of : List Token → Option Callee
function_of [] = None
function_of (k ∷ ks) = called k

-- The innermost parenthesis that is still open, with the tokens before given, the nearest first: its function, and how many
-- commas stand directly in it. So many parentheses were closed since, and so many commas were met outside them.
abbrev pub innermost : ℕ → ℕ → List Token → Option Callee × ℕ
innermost closed commas [] = (None, commas)
innermost closed commas (k ∷ ks) =
    elim (is_close k) [
      | true ↦ innermost (closed + 1) commas ks
      | false ↦
          elim (is_open k) [
            | true ↦ elim (closed == 0) [ true ↦ (function_of ks, commas) | false ↦ innermost (closed - 1) commas ks ]
            | false ↦ elim (is_comma k && closed == 0) [ true ↦ innermost closed (commas + 1) ks | false ↦ innermost closed commas ks ]
          ]
    ]

-- the token is this comma in such a function, where the first has the number 0
abbrev pub is_comma_in : (Option Callee → Bool) → ℕ → List Token → Token → Bool
is_comma_in is n front t = let i = innermost 0 0 (reverse front) in is_comma t && (is i.0 && i.1 == n)

-- without a `^` in front
abbrev pub without_caret : List Token → List Token
without_caret [] = []
without_caret (k ∷ ks) = elim (is_caret k) [ true ↦ ks | false ↦ k ∷ ks ]

-- behind the parenthesis of `$ORDER`, with the tokens before given, the nearest first
abbrev pub is_in_order : List Token → Bool
is_in_order [] = false
is_in_order (k ∷ ks) = is_open k && is_order (function_of ks)

-- behind the name of its variable too
abbrev pub is_order_name : List Token → Bool
is_order_name [] = false
is_order_name (k ∷ ks) = is_word k && is_in_order (without_caret ks)

-- ---- words

-- a word that begins with a capital `E`
abbrev pub is_e : List ℕ → Bool
is_e [] = false
is_e (b ∷ bs) = b == 69

abbrev pub is_exponent : Token → Bool
is_exponent (Word w) = is_e w
is_exponent t = false

abbrev pub has_verb : Option Verb → Bool
has_verb None = false
has_verb (Some v) = true

-- a word that is no command's
abbrev pub is_unknown : Token → Bool
is_unknown (Word w) = not (has_verb (verb_of w))
is_unknown t = false

-- the words of variables
abbrev pub is_variable : List ℕ → Bool
is_variable w =
    is_named w (codes "IO") (codes "I")
    || (is_named w (codes "JOB") (codes "J")
    || (is_named w (codes "TEST") (codes "T")
    || (is_named w (codes "TLEVEL") (codes "TL")
    || (is_named w (codes "TRESTART") (codes "TR")
    || (is_named w (codes "X") (codes "X")
    || is_named w (codes "Y") (codes "Y"))))))

abbrev pub is_no_variable : Token → Bool
is_no_variable (Special w) = not (is_variable w)
is_no_variable t = false

abbrev pub has_callee : Option Callee → Bool
has_callee None = false
has_callee (Some f) = true

abbrev pub is_no_function : Token → Bool
is_no_function (Called w) = not (has_callee (callee_of w))
is_no_function t = false

-- `?` or `'?`
abbrev pub is_match : Token → Bool
is_match t = is_question t || is_negated_question t

-- ---- the command that stands last

-- the last command of a line, by its word
abbrev pub last_keyword : List LineCommand → Option Keyword
last_keyword [] = None
last_keyword (s ∷ []) = Some (keyword_for s.command)
last_keyword (s ∷ t ∷ ss) = last_keyword (t ∷ ss)

-- The tokens are those of a line up to the end of its last command, which is this one.
pub record EndsInCommand (keyword : Keyword) (ks : List Token) : Type 0 where
  pub single : ends_in is_blank_token ks ≡ false
  pub line : Line
  pub spells : SpellsLine ks line
  pub last : last_keyword line.steps ≡ Some keyword

-- the command that stands last in them, or none where they are no such line
pub record IsLast (ks : List Token) (last : Option Keyword) : Type 0 where
  pub found : (k : Keyword) → last ≡ Some k → EndsInCommand k ks
  pub only : (k : Keyword) → EndsInCommand k ks → last ≡ Some k

-- such a command, and one blank behind it
abbrev pub IsBehindCommand : Keyword → List Token → Type 0
IsBehindCommand keyword front = (before : List Token) × (front ≡ before ++ Blank ∷ []) × EndsInCommand keyword before

-- ---- colons of arguments

-- Behind the first `:` of an argument that ends in such a command: only there may a `:` stand behind another.
abbrev pub IsBehindColon : Keyword → List Token → Type 0
IsBehindColon keyword front =
    (before : List Token) × (front ≡ before ++ Signed Colon ∷ []) × EndsInCommand keyword before × MayStand front (Signed Colon)

-- behind an argument of USE or CLOSE
abbrev pub IsBehindDevice : List Token → Type 0
IsBehindDevice front = EndsInCommand keyword.Use front ⊎ EndsInCommand keyword.Close front

-- behind the second `:` of an argument of OPEN
abbrev pub IsBehindColons : List Token → Type 0
IsBehindColons front = (before : List Token) × (front ≡ before ++ Signed Colon ∷ []) × IsBehindColon keyword.Open before

-- Where a third `:` of an argument of OPEN would stand: behind two others, or behind an argument. One without a timeout goes on with a
-- `:`, so that no line is stuck there.
abbrev pub IsBehindTimeout : List Token → Type 0
IsBehindTimeout front = IsBehindColons front ⊎ EndsInCommand keyword.Open front

-- behind a variable of READ: only there may a `:` stand behind an argument of it
abbrev pub IsBehindInput : List Token → Type 0
IsBehindInput front = EndsInCommand keyword.Read front × MayStand front (Signed Colon)

-- ---- the argument of TSTART

-- a word that begins with `T` or `t`
abbrev pub is_t : List ℕ → Bool
is_t [] = false
is_t (b ∷ bs) = capital b == 84

abbrev pub is_transaction_word : Token → Bool
is_transaction_word (Word w) = is_t w
is_transaction_word t = false

-- behind the `:` of such an argument, or behind a `(` there
abbrev pub IsBehindSerial : List Token → Type 0
IsBehindSerial front =
    (before : List Token) × ((front ≡ before ++ Signed Colon ∷ []) ⊎ (front ≡ before ++ Signed Colon ∷ Signed Open ∷ [])) × EndsInCommand keyword.TStart before

-- where the argument may begin: only there may a `*` stand behind the one blank
abbrev pub MayBeginRestartable : List Token → Type 0
MayBeginRestartable front = IsBehindCommand keyword.TStart front × MayStand front (Signed Star)

-- ---- the table

-- the token stands for the construct there, by its row of the table
abbrev pub StandsFor : Construct → List Token → Token → List Token → Type 0
StandsFor construct.Indirection front t behind = (is_at t ≡ true) × MayBeginName front
StandsFor construct.Fraction front t behind =
    (is_dot t ≡ true) × ((ends_in ends_digits front ≡ true) ⊎ ((starts is_digits behind ≡ true) × MayBeginOperand front))
StandsFor construct.Exponent front t behind = (is_exponent t && ends_in ends_digits front) ≡ true
StandsFor construct.Power front t behind = (is_star t && ends_in is_star front) ≡ true
StandsFor construct.Pattern front t behind = (is_match t ≡ true) × MayBeOperator front
StandsFor construct.Naked front t behind = (is_open t && ends_in is_caret front) ≡ true
StandsFor construct.Environment front t behind = ((is_bracket t || is_bar t) && ends_in is_caret front) ≡ true
StandsFor construct.Structured front t behind = (has_dollar t && ends_in is_caret front) ≡ true
StandsFor construct.ByReference front t behind = ((is_dot t && starts is_word behind) ≡ true) × MayBeginActual front
StandsFor construct.EntryOffset front t behind = (is_plus t ≡ true) × IsBehindLabel front
StandsFor construct.ReadLength front t behind = (is_hash t ≡ true) × IsBehindInput front
StandsFor construct.DeviceParameters front t behind = ((is_colon t ≡ true) × IsBehindDevice front) ⊎ IsBehindColon keyword.Open front
StandsFor construct.ProcessParameters front t behind = IsBehindColon keyword.Job front
StandsFor construct.MnemonicSpace front t behind =
    ((is_colon t ≡ true) × IsBehindTimeout front) ⊎ ((is_slash t ≡ true) × MayBeginOutput front)
StandsFor construct.TransactionId front t behind = (is_transaction_word t ≡ true) × IsBehindSerial front
StandsFor construct.BareSerial front t behind = (is_colon t ≡ true) × MayBeginRestartable front
StandsFor construct.SetExtract front t behind = (is_extract (called t) ≡ true) × MayBeginDestination front
StandsFor construct.JustifyDecimals front t behind = is_comma_in is_justify 1 front t ≡ true
StandsFor construct.QueryBackward front t behind = is_comma_in is_query 0 front t ≡ true
StandsFor construct.NameDepth front t behind = is_comma_in is_name 0 front t ≡ true
StandsFor construct.OrderNames front t behind = ((is_close t || is_comma t) && is_order_name (reverse front)) ≡ true
StandsFor construct.Function front t behind = is_no_function t ≡ true
StandsFor construct.Variable front t behind = is_no_variable t ≡ true
StandsFor construct.Command front t behind = (is_unknown t ≡ true) × MayBeginCommand front

-- the rows in their order
abbrev pub rows : List Construct
rows =
    construct.Indirection ∷ construct.Fraction ∷ construct.Exponent ∷ construct.Power ∷ construct.Pattern ∷ construct.Naked
    ∷ construct.Environment ∷ construct.Structured ∷ construct.ByReference ∷ construct.EntryOffset ∷ construct.ReadLength
    ∷ construct.DeviceParameters ∷ construct.ProcessParameters ∷ construct.MnemonicSpace ∷ construct.TransactionId ∷ construct.BareSerial
    ∷ construct.SetExtract ∷ construct.JustifyDecimals ∷ construct.QueryBackward ∷ construct.NameDepth ∷ construct.OrderNames
    ∷ construct.Function ∷ construct.Variable ∷ construct.Command ∷ []

-- the first of the rows that fits there, if one does
abbrev pub IsFirstOf : List Construct → List Token → Token → List Token → Option Construct → Type 0
IsFirstOf [] front t behind c = c ≡ None
IsFirstOf (r ∷ rs) front t behind c = (StandsFor r front t behind × (c ≡ Some r)) ⊎ ((StandsFor r front t behind → ⊥) × IsFirstOf rs front t behind c)

-- the construct that the token stands for, if it does
abbrev pub IsNamed : List Token → Token → List Token → Option Construct → Type 0
IsNamed front t behind c = IsFirstOf rows front t behind c

-- at the line's end nothing stands
abbrev pub IsNamedIn : List Token → List Token → Option Construct → Type 0
IsNamedIn front [] c = c ≡ None
IsNamedIn front (t ∷ behind) c = IsNamed front t behind c

-- the construct that the token at the place k stands for, if there is one
abbrev pub IsNamedAt : List Token → ℕ → Option Construct → Type 0
IsNamedAt ks k c = IsNamedIn (take k ks) (drop k ks) c

-- the column is that of the first token with which the line can't go on, which stands for this construct, or for none
abbrev pub IsStuckOn : List ℕ → ℕ → Option Construct → Type 0
IsStuckOn line c x = (s : IsStuckAt line c) × IsNamedAt (tokens line) s.place x
