-- The grammar of expressions, as the spelling of trees (ISO/IEC 11756:1999, 7.1 and 7.2; this profile):
--
--   expression = operand {binary operand}
--   operand    = unary operand | digits | quoted text | variable | "(" expression ")" | "$" word
--              | "$" word "(" expression {"," expression} ")"
--              | "$" word "(" variable ["," expression] ")"
--              | "$SELECT" "(" expression ":" expression {"," expression ":" expression} ")"
--              | "$$" entry [actuals]
--   entry      = label | label "^" name | "^" name
--   label      = name | digits
--   actuals    = "(" [[expression] {"," [expression]}] ")"
--   variable   = ["^"] name ["(" expression {"," expression} ")"]
--
-- The variable of `$ORDER` has subscripts.
use Rattle.std.specs.Prelude.{◌≡◌, ℕ, ◌+◌, ◌-◌, ◌≤◌, max, nat_le, Bool, ◌||◌, Option, Some, None, codes, if◌then◌else◌, List, [], ◌∷◌, ◌++◌, length, map, Result, Ok, Err, ℤ}
use Rattle.std.specs.Str.{str_eq_ignore_ascii_case}
use Rattle.mj_text.specs.declared.fault.Fault.{Fault}
use Rattle.mj_text.specs.declared.text.TheConstants.{TEXT_LIMIT}
use Rattle.mj_num.specs.Number.{reading, canonic_text}
use Rattle.mj_ast.specs.declared.sign.Sign.{Sign}
use Rattle.mj_ast.specs.declared.sign.Sign.TheVariants.{Caret, Open, Close, Comma, Colon}
use Rattle.mj_ast.specs.declared.sign.Sign.TheVariants as sign
use Rattle.mj_ast.specs.declared.expr.Scope.{Scope}
use Rattle.mj_ast.specs.declared.expr.Scope.TheVariants.{Local, Global}
use Rattle.mj_oper.specs.declared.op.Op.{Op}
use Rattle.mj_oper.specs.declared.op.Op.TheVariants as binary
use Rattle.mj_oper.specs.declared.op.TruthOp.{TruthOp}
use Rattle.mj_oper.specs.declared.op.TruthOp.TheVariants as truth
use Rattle.mj_oper.specs.declared.op.UnaryOp.{UnaryOp}
use Rattle.mj_oper.specs.declared.op.UnaryOp.TheVariants as unary
use Rattle.mj_ast.specs.declared.function.Function.{Function}
use Rattle.mj_ast.specs.declared.function.Function.TheVariants.{Ascii, Char, Extract, Find, Justify, Length, Piece, QLength, QSubscript, Reverse, Translate}
use Rattle.mj_ast.specs.declared.function.NameFunction.{NameFunction}
use Rattle.mj_ast.specs.declared.function.NameFunction.TheVariants as names
use Rattle.mj_ast.specs.declared.function.Special as special
use Rattle.mj_ast.specs.declared.function.Special.TheVariants as specials
use Rattle.mj_ast.specs.declared.function.Callee.{Callee}
use Rattle.mj_ast.specs.declared.function.Callee.TheVariants as callee
use Rattle.mj_ast.specs.Syntax.{Expr, Chain, Tails, Done, Then, Operand, Literal, Value, Intrinsic, Unary, Group, Call, About, Select, Extrinsic, Variable, Var, Exprs, No, More, Choices, Last, Before, Target, Actuals, NoActual, Given, Omitted}
use Rattle.mj_ast.specs.Tokens.{Token, Word, Called, Special, Invoked, Numbered, Dollars, Digits, Quoted, Signed}
use Rattle.mj_ast.specs.declared.limits.TheConstants.{DEPTH_LIMIT}

-- ---- functions

-- the word is this one or its abbreviation, in any case
abbrev pub is_named : List ℕ → List ℕ → List ℕ → Bool
is_named w full short = str_eq_ignore_ascii_case w full || str_eq_ignore_ascii_case w short

-- what a `$` word names, if arguments may stand behind it
abbrev pub callee_of : List ℕ → Option Callee
callee_of w =
    if is_named w (codes "ASCII") (codes "A") then Some (callee.Texts Ascii)
    else if is_named w (codes "CHAR") (codes "C") then Some (callee.Texts Char)
    else if is_named w (codes "DATA") (codes "D") then Some (callee.Names names.Data)
    else if is_named w (codes "EXTRACT") (codes "E") then Some (callee.Texts Extract)
    else if is_named w (codes "FIND") (codes "F") then Some (callee.Texts Find)
    else if is_named w (codes "GET") (codes "G") then Some (callee.Names names.Get)
    else if is_named w (codes "JUSTIFY") (codes "J") then Some (callee.Texts Justify)
    else if is_named w (codes "LENGTH") (codes "L") then Some (callee.Texts Length)
    else if is_named w (codes "NAME") (codes "NA") then Some (callee.Names names.Name)
    else if is_named w (codes "ORDER") (codes "O") then Some (callee.Names names.Order)
    else if is_named w (codes "PIECE") (codes "P") then Some (callee.Texts Piece)
    else if is_named w (codes "QLENGTH") (codes "QL") then Some (callee.Texts QLength)
    else if is_named w (codes "QSUBSCRIPT") (codes "QS") then Some (callee.Texts QSubscript)
    else if is_named w (codes "QUERY") (codes "Q") then Some (callee.Names names.Query)
    else if is_named w (codes "REVERSE") (codes "RE") then Some (callee.Texts Reverse)
    else if is_named w (codes "SELECT") (codes "S") then Some callee.Select
    else if is_named w (codes "TRANSLATE") (codes "TR") then Some (callee.Texts Translate)
    else None

-- the special variable that a `$` word names, if none may stand behind it
abbrev pub special_of : List ℕ → Option special.Special
special_of w =
    if is_named w (codes "IO") (codes "I") then Some specials.Io
    else if is_named w (codes "JOB") (codes "J") then Some specials.Job
    else if is_named w (codes "TEST") (codes "T") then Some specials.Test
    else if is_named w (codes "TLEVEL") (codes "TL") then Some specials.TLevel
    else if is_named w (codes "TRESTART") (codes "TR") then Some specials.TRestart
    else if is_named w (codes "X") (codes "X") then Some specials.X
    else if is_named w (codes "Y") (codes "Y") then Some specials.Y
    else None

-- the least number of arguments
abbrev pub least : Function → ℕ
least Ascii = 1
least Char = 1
least Extract = 1
least Find = 2
least Justify = 2
least Length = 1
least Piece = 2
least QLength = 1
least QSubscript = 2
least Reverse = 1
least Translate = 2

-- the greatest number of arguments; `$CHAR` takes as many as a line has room for
abbrev pub most : Function → ℕ
most Ascii = 2
most Char = 8192
most Extract = 3
most Find = 3
most Justify = 2
most Length = 2
most Piece = 4
most QLength = 1
most QSubscript = 2
most Reverse = 1
most Translate = 3

-- how many subscripts its variable has at least
abbrev pub least_subscripts : NameFunction → ℕ
least_subscripts names.Data = 0
least_subscripts names.Get = 0
least_subscripts names.Name = 0
least_subscripts names.Order = 1
least_subscripts names.Query = 0

-- how many arguments stand behind its variable at most
abbrev pub most_others : NameFunction → ℕ
most_others names.Data = 0
most_others names.Get = 1
most_others names.Name = 0
most_others names.Order = 1
most_others names.Query = 0

-- How many levels open with a function at least: its own, and that of the subscripts that its variable needs.
abbrev pub levels : Callee → ℕ
levels (callee.Texts f) = 1
levels (callee.Names f) = least_subscripts f + 1
levels callee.Select = 1

-- ---- what a token is to an expression

-- A symbol of the grammar: a constant with its value, a special variable, a name, a function with a `(` behind it, `$$` and the label of
-- an entry, if one stands there, a word that is too long for one, a sign, or what stands in no expression.
pub data Symbol : Type 0 where
  Constant : (value : List ℕ) → Symbol
  Inherent : (v : special.Special) → Symbol
  Name : (word : List ℕ) → Symbol
  Applied : (callee : Callee) → Symbol
  Entry : (label : Option (List ℕ)) → Symbol
  Overlong : Symbol
  Mark : (sign : Sign) → Symbol
  Other : Symbol

-- the most bytes of a name
abbrev pub name_limit : ℕ
name_limit = 31

-- the most levels that are open at once
abbrev pub depth_limit : ℕ
depth_limit = DEPTH_LIMIT

-- the most subscripts of a variable
abbrev pub width_limit : ℕ
width_limit = 31

-- digits are a constant by the number that they read, if it is in range
abbrev pub constant_of : Result ℤ Fault → Symbol
constant_of (Ok z) = Constant (canonic_text z)
constant_of (Err fault) = Other

-- a `$` word with a `(` behind it is a function, if there is one of that name
abbrev pub function_symbol : Option Callee → Symbol
function_symbol None = Other
function_symbol (Some callee) = Applied callee

-- one without is a special variable, if there is one of that name
abbrev pub special_symbol : Option special.Special → Symbol
special_symbol None = Other
special_symbol (Some v) = Inherent v

-- what a token is to an expression
abbrev pub symbol : Token → Symbol
symbol (Word w) = if nat_le (length w) name_limit then Name w else Overlong
symbol (Called w) = if nat_le (length w) name_limit then function_symbol (callee_of w) else Overlong
symbol (Special w) = if nat_le (length w) name_limit then special_symbol (special_of w) else Overlong
symbol (Invoked w) = if nat_le (length w) name_limit then Entry (Some w) else Overlong
symbol (Numbered ds) = if nat_le (length ds) TEXT_LIMIT then Entry (Some ds) else Other
symbol Dollars = Entry None
symbol (Digits ds) = constant_of (reading ds)
symbol (Quoted value) = if nat_le (length value) TEXT_LIMIT then Constant value else Other
symbol (Signed s) = Mark s
symbol _ = Other

-- how many levels open with a symbol at least, where one does
abbrev pub levels_of : Symbol → ℕ
levels_of (Applied callee) = levels callee
levels_of _ = 1

-- ---- spelling

-- the sign of a unary operator
abbrev pub unary_sign : UnaryOp → Sign
unary_sign unary.Plus = sign.Plus
unary_sign unary.Minus = sign.Minus
unary_sign unary.Not = sign.Apostrophe

-- the sign of a truth operator
abbrev pub truth_sign : TruthOp → Sign
truth_sign truth.Equal = sign.Equals
truth_sign truth.Less = sign.Less
truth_sign truth.Greater = sign.Greater
truth_sign truth.Contains = sign.OpenBracket
truth_sign truth.Follows = sign.CloseBracket
truth_sign truth.SortsAfter = sign.CloseBrackets
truth_sign truth.And = sign.Ampersand
truth_sign truth.Or = sign.Exclamation

-- the sign of a binary operator
abbrev pub binary_sign : Op → Sign
binary_sign binary.Add = sign.Plus
binary_sign binary.Subtract = sign.Minus
binary_sign binary.Multiply = sign.Star
binary_sign binary.Quotient = sign.Backslash
binary_sign binary.Remainder = sign.Hash
binary_sign binary.Divide = sign.Slash
binary_sign binary.Join = sign.Underscore
binary_sign (binary.Is op) = truth_sign op
binary_sign (binary.IsNot op) = sign.Negated op

-- a global has a `^` in front
abbrev pub scoped : Scope → List Symbol → List Symbol
scoped Local ks = ks
scoped Global ks = Mark Caret ∷ ks

-- the routine of an entry, if it names one
abbrev pub routine_symbols : Option (List ℕ) → List Symbol
routine_symbols None = []
routine_symbols (Some word) = Mark Caret ∷ Name word ∷ []

abbrev mutual
  -- an operand, and then operators with theirs
  pub expr_symbols : Expr → List Symbol
  expr_symbols (Chain first rest) = operand_symbols first ++ tails_symbols rest

  pub tails_symbols : Tails → List Symbol
  tails_symbols Done = []
  tails_symbols (Then op operand rest) = Mark (binary_sign op) ∷ (operand_symbols operand ++ tails_symbols rest)

  -- a constant, a variable, a special variable, an operator before an operand, an expression in parentheses, a function with its arguments, of
  -- which the first may be a variable, or the entry of one that is written in M with its actuals
  pub operand_symbols : Operand → List Symbol
  operand_symbols (Literal value) = Constant value ∷ []
  operand_symbols (Value v) = variable_symbols v
  operand_symbols (Intrinsic v) = Inherent v ∷ []
  operand_symbols (Unary op operand) = Mark (unary_sign op) ∷ operand_symbols operand
  operand_symbols (Group e) = Mark Open ∷ (expr_symbols e ++ Mark Close ∷ [])
  operand_symbols (Call f arguments) = Applied (callee.Texts f) ∷ list_symbols arguments
  operand_symbols (About f v others) = Applied (callee.Names f) ∷ Mark Open ∷ (variable_symbols v ++ more_symbols others)
  operand_symbols (Select choices) = Applied callee.Select ∷ Mark Open ∷ choices_symbols choices
  operand_symbols (Extrinsic t actuals) = Entry t.label ∷ (routine_symbols t.routine ++ actuals_symbols actuals)

  -- a name, and its subscripts
  pub variable_symbols : Variable → List Symbol
  variable_symbols (Var scope word subscripts) = scoped scope (Name word ∷ list_symbols subscripts)

  -- no subscripts or arguments are no parentheses either
  pub list_symbols : Exprs → List Symbol
  list_symbols No = []
  list_symbols (More e rest) = Mark Open ∷ (expr_symbols e ++ more_symbols rest)

  -- those behind the first, each behind a comma
  pub more_symbols : Exprs → List Symbol
  more_symbols No = Mark Close ∷ []
  more_symbols (More e rest) = Mark Comma ∷ (expr_symbols e ++ more_symbols rest)

  -- conditions, each with a colon and its value behind it
  pub choices_symbols : Choices → List Symbol
  choices_symbols (Last c e) = expr_symbols c ++ Mark Colon ∷ (expr_symbols e ++ Mark Close ∷ [])
  choices_symbols (Before c e others) = expr_symbols c ++ Mark Colon ∷ (expr_symbols e ++ Mark Comma ∷ choices_symbols others)

  -- no actuals are no parentheses either
  pub actuals_symbols : Actuals → List Symbol
  actuals_symbols NoActual = []
  actuals_symbols (Given e rest) = Mark Open ∷ (expr_symbols e ++ further_symbols rest)
  actuals_symbols (Omitted rest) = Mark Open ∷ further_symbols rest

  -- what stands behind an actual
  pub further_symbols : Actuals → List Symbol
  further_symbols NoActual = Mark Close ∷ []
  further_symbols (Given e rest) = Mark Comma ∷ (expr_symbols e ++ further_symbols rest)
  further_symbols (Omitted rest) = Mark Comma ∷ further_symbols rest

-- ---- limits

-- how many expressions
abbrev pub count : Exprs → ℕ
count No = 0
count (More e rest) = count rest + 1

-- how many subscripts
abbrev pub subscript_count : Variable → ℕ
subscript_count (Var scope word subscripts) = count subscripts

-- The nesting: how many levels are open at once at most. Parentheses, subscript lists, argument lists and unary operators
-- open one each, a unary operator for its operand alone.
abbrev mutual
  pub expr_nesting : Expr → ℕ
  expr_nesting (Chain first rest) = max (operand_nesting first) (tails_nesting rest)

  pub tails_nesting : Tails → ℕ
  tails_nesting Done = 0
  tails_nesting (Then op operand rest) = max (operand_nesting operand) (tails_nesting rest)

  pub operand_nesting : Operand → ℕ
  operand_nesting (Literal value) = 0
  operand_nesting (Value v) = variable_nesting v
  operand_nesting (Intrinsic v) = 0
  operand_nesting (Unary op operand) = operand_nesting operand + 1
  operand_nesting (Group e) = expr_nesting e + 1
  operand_nesting (Call f arguments) = list_nesting arguments
  operand_nesting (About f v others) = max (variable_nesting v) (exprs_nesting others) + 1
  operand_nesting (Select choices) = choices_nesting choices + 1
  operand_nesting (Extrinsic t actuals) = actuals_nesting actuals

  pub variable_nesting : Variable → ℕ
  variable_nesting (Var scope word subscripts) = list_nesting subscripts

  pub list_nesting : Exprs → ℕ
  list_nesting No = 0
  list_nesting (More e rest) = max (expr_nesting e) (exprs_nesting rest) + 1

  pub exprs_nesting : Exprs → ℕ
  exprs_nesting No = 0
  exprs_nesting (More e rest) = max (expr_nesting e) (exprs_nesting rest)

  pub choices_nesting : Choices → ℕ
  choices_nesting (Last c e) = max (expr_nesting c) (expr_nesting e)
  choices_nesting (Before c e others) = max (max (expr_nesting c) (expr_nesting e)) (choices_nesting others)

  pub actuals_nesting : Actuals → ℕ
  actuals_nesting NoActual = 0
  actuals_nesting (Given e rest) = max (expr_nesting e) (further_nesting rest) + 1
  actuals_nesting (Omitted rest) = further_nesting rest + 1

  pub further_nesting : Actuals → ℕ
  further_nesting NoActual = 0
  further_nesting (Given e rest) = max (expr_nesting e) (further_nesting rest)
  further_nesting (Omitted rest) = further_nesting rest

-- the length of the longest list of subscripts
abbrev mutual
  pub expr_width : Expr → ℕ
  expr_width (Chain first rest) = max (operand_width first) (tails_width rest)

  pub tails_width : Tails → ℕ
  tails_width Done = 0
  tails_width (Then op operand rest) = max (operand_width operand) (tails_width rest)

  pub operand_width : Operand → ℕ
  operand_width (Literal value) = 0
  operand_width (Value v) = variable_width v
  operand_width (Intrinsic v) = 0
  operand_width (Unary op operand) = operand_width operand
  operand_width (Group e) = expr_width e
  operand_width (Call f arguments) = exprs_width arguments
  operand_width (About f v others) = max (variable_width v) (exprs_width others)
  operand_width (Select choices) = choices_width choices
  operand_width (Extrinsic t actuals) = actuals_width actuals

  pub variable_width : Variable → ℕ
  variable_width (Var scope word subscripts) = max (count subscripts) (exprs_width subscripts)

  pub exprs_width : Exprs → ℕ
  exprs_width No = 0
  exprs_width (More e rest) = max (expr_width e) (exprs_width rest)

  pub choices_width : Choices → ℕ
  choices_width (Last c e) = max (expr_width c) (expr_width e)
  choices_width (Before c e others) = max (max (expr_width c) (expr_width e)) (choices_width others)

  pub actuals_width : Actuals → ℕ
  actuals_width NoActual = 0
  actuals_width (Given e rest) = max (expr_width e) (actuals_width rest)
  actuals_width (Omitted rest) = actuals_width rest

-- an entry names a label, a routine or both: whether it lacks all
abbrev pub entry_misfits : Option (List ℕ) → Option (List ℕ) → ℕ
entry_misfits None None = 1
entry_misfits label routine = 0

-- How far the numbers of arguments, and of the subscripts of variables that are such, are from what the functions take: by how
-- many there are too few or too many, in all. An entry of nothing counts too.
abbrev mutual
  pub expr_misfits : Expr → ℕ
  expr_misfits (Chain first rest) = operand_misfits first + tails_misfits rest

  pub tails_misfits : Tails → ℕ
  tails_misfits Done = 0
  tails_misfits (Then op operand rest) = operand_misfits operand + tails_misfits rest

  pub operand_misfits : Operand → ℕ
  operand_misfits (Literal value) = 0
  operand_misfits (Value v) = variable_misfits v
  operand_misfits (Intrinsic v) = 0
  operand_misfits (Unary op operand) = operand_misfits operand
  operand_misfits (Group e) = expr_misfits e
  operand_misfits (Call f arguments) = (least f - count arguments) + (count arguments - most f) + exprs_misfits arguments
  operand_misfits (About f v others) =
      (least_subscripts f - subscript_count v) + (count others - most_others f) + variable_misfits v + exprs_misfits others
  operand_misfits (Select choices) = choices_misfits choices
  operand_misfits (Extrinsic t actuals) = entry_misfits t.label t.routine + actuals_misfits actuals

  pub variable_misfits : Variable → ℕ
  variable_misfits (Var scope word subscripts) = exprs_misfits subscripts

  pub exprs_misfits : Exprs → ℕ
  exprs_misfits No = 0
  exprs_misfits (More e rest) = expr_misfits e + exprs_misfits rest

  pub choices_misfits : Choices → ℕ
  choices_misfits (Last c e) = expr_misfits c + expr_misfits e
  choices_misfits (Before c e others) = expr_misfits c + expr_misfits e + choices_misfits others

  pub actuals_misfits : Actuals → ℕ
  actuals_misfits NoActual = 0
  actuals_misfits (Given e rest) = expr_misfits e + actuals_misfits rest
  actuals_misfits (Omitted rest) = actuals_misfits rest

-- ---- the statements

-- a kind of phrase: how its trees are spelled, what the limits are on, and whether its functions have as many arguments as
-- they take
pub record Phrases (T : Type 0) : Type 0 where
  pub symbols : T → List Symbol
  pub nesting : T → ℕ
  pub width : T → ℕ
  pub misfits : T → ℕ

abbrev pub expressions : Phrases Expr
expressions = record { symbols = expr_symbols; nesting = expr_nesting; width = expr_width; misfits = expr_misfits }

abbrev pub variables : Phrases Variable
variables = record { symbols = variable_symbols; nesting = variable_nesting; width = variable_width; misfits = variable_misfits }

-- the tokens spell the tree
abbrev pub Spells : {T : Type 0} → Phrases T → List Token → T → Type 0
Spells P ks t = (map symbol ks ≡ P.symbols t) × (P.misfits t ≡ 0)

-- the tree nests no deeper, and has no longer list
pub record NestsWithin {T : Type 0} (P : Phrases T) (depth width : ℕ) (t : T) : Type 0 where
  pub nests : P.nesting t ≤ depth
  pub lists : P.width t ≤ width

-- the tokens begin a phrase
pub record BeginsPhrase {T : Type 0} (P : Phrases T) (ks : List Token) : Type 0 where
  pub rest : List Token
  pub tree : T
  pub spells : Spells P (ks ++ rest) tree

-- the tokens begin a phrase within the limits
pub record BeginsWithin {T : Type 0} (P : Phrases T) (depth width : ℕ) (ks : List Token) : Type 0 where
  pub rest : List Token
  pub tree : T
  pub spells : Spells P (ks ++ rest) tree
  pub within : NestsWithin P depth width tree
