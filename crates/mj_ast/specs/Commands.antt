-- The grammar of commands, as the spelling of trees (ISO/IEC 11756:1999, 6.2 and 8; this profile):
--
--   command     = word [":" expression] blank arguments
--               | word [":" expression]
--   SET         targets "=" expression, and more behind commas
--   targets     = destination | "(" destination {"," destination} ")"
--   destination = variable | "$PIECE" "(" variable "," expression ["," expression ["," expression]] ")"
--   WRITE       an expression, a format or "*" expression, and more behind commas
--   format      = ("!" | "#") {"!" | "#"} ["?" expression] | "?" expression
--   HALT        no arguments
--   HANG        an expression, and more behind commas
--   KILL        nothing, or a variable or names in parentheses with commas between them, and more behind commas
--   MERGE       variable "=" variable, and more behind commas
--   IF          nothing, or an expression, and more behind commas
--   ELSE        no arguments
--   QUIT        nothing, or an expression
--   FOR         nothing, or a local "=" range, and more ranges behind commas
--   DO          nothing, or an entry with actuals, if there are some, and [":" expression], and more behind commas
--   JOB         an entry with actuals, if there are some, and [":" ":" expression], and more behind commas
--   LOCK        nothing, or ["+" | "-"] and a variable or variables in parentheses with commas between them and [":" expression],
--               and more behind commas
--   GOTO        an entry and [":" expression], and more behind commas
--   NEW         nothing, or a name or names in parentheses with commas between them, and more behind commas
--   OPEN        an expression and [":" ":" expression], and more behind commas
--   USE, CLOSE  an expression, and more behind commas
--   READ        a quoted text, a format or ["*"] variable [":" expression], and more behind commas
--   TSTART      nothing, or one argument: a name, "*", or "(" [name {"," name}] ")", and then [":" serial]
--   serial      = word | "(" word ")", the word being SERIAL or S
--   BREAK, TCOMMIT, TRESTART, TROLLBACK   no arguments
--   entry       = label | label "^" name | "^" name
--   label       = name | digits
--   actuals     = "(" [[expression] {"," [expression]}] ")"
--   local       = a variable without "^"
--   range       = expression [":" expression [":" expression]]
--
-- IF, ELSE and FOR have no ":" expression behind their word. The word `H` is HALT without arguments, and HANG with some.
use Rattle.std.specs.Prelude.{◌≡◌, ◌⊎◌, ℕ, ◌+◌, ◌-◌, ◌≤◌, nat_le, Bool, true, false, ◌&&◌, ◌||◌, if◌then◌else◌, List, [], ◌∷◌, ◌++◌, length, map, max, Option, Some, None, bytes_eq, codes}
use Rattle.mj_text.specs.declared.text.TheConstants.{TEXT_LIMIT}
use Rattle.mj_ast.specs.declared.sign.Sign.{Sign}
use Rattle.mj_ast.specs.declared.sign.Sign.TheVariants.{Plus, Minus, Star, Hash, Equals, Comma, Colon, Exclamation, Question, Caret, Open, Close}
use Rattle.mj_ast.specs.declared.expr.Scope.TheVariants.{Local, Global}
use Rattle.mj_ast.specs.declared.function.Function.TheVariants.{Piece}
use Rattle.mj_ast.specs.declared.function.Callee.TheVariants.{Texts}
use Rattle.mj_ast.specs.declared.routine.FormatMark.{FormatMark}
use Rattle.mj_ast.specs.declared.routine.FormatMark.TheVariants.{NewLine, NewPage}
use Rattle.mj_ast.specs.declared.routine.LockMode.{LockMode}
use Rattle.mj_ast.specs.declared.routine.LockMode.TheVariants as lock
use Rattle.mj_ast.specs.declared.routine.ReadMode.{ReadMode}
use Rattle.mj_ast.specs.declared.routine.ReadMode.TheVariants as read
use Rattle.mj_ast.specs.declared.routine.Serial.{Serial}
use Rattle.mj_ast.specs.declared.routine.Serial.TheVariants as serial
use Rattle.mj_ast.specs.declared.keyword.Keyword.{Keyword}
use Rattle.mj_ast.specs.declared.keyword.Keyword.TheVariants as keyword
use Rattle.mj_ast.specs.declared.keyword.Verb.{Verb}
use Rattle.mj_ast.specs.declared.keyword.Verb.TheVariants.{Of, HaltOrHang}
use Rattle.mj_ast.specs.Syntax.{Expr, Exprs, No, More, Variable, Var, Destination, Plain, Pieces, Targets, One, Several, Assignment, Killed, Gone, Spared, Merged, Layout, Output, Shown, Format, Coded, Received, Input, Prompted, Arranged, Into, Opened, Target, Called, Jumped, Started, LockNames, Lone, Together, Locked, Range, Single, Endless, UpTo, Renewed, Fresh, Kept, Restored, Alone, Listed, Everything, Restartable, Command, Set, Write, Halt, Hang, Job, Lock, Kill, Merge, If, Else, For, Forever, Do, Goto, Quit, New, OpenDevice, UseDevice, CloseDevice, Read, TStart, TCommit, TRestart, TRollback, Break, LineCommand}
use Rattle.mj_ast.specs.Tokens.{Token, Word, Called as CalledWord, Digits, Quoted, Signed, Blank}
use Rattle.mj_ast.specs.Expressions.{Spells, expressions, variables, callee_of, name_limit, count, expr_nesting, variable_nesting, expr_width, variable_width}

-- ---- the words of commands

-- a letter as a capital
abbrev pub capital : ℕ → ℕ
capital b = if nat_le 97 b && nat_le b 122 then b - 32 else b

-- the words of commands, in full and abbreviated
abbrev pub command_words : List (List ℕ × Verb)
command_words =
    (codes "SET", Of keyword.Set) ∷ (codes "S", Of keyword.Set)
    ∷ (codes "WRITE", Of keyword.Write) ∷ (codes "W", Of keyword.Write)
    ∷ (codes "HALT", Of keyword.Halt)
    ∷ (codes "HANG", Of keyword.Hang)
    ∷ (codes "H", HaltOrHang)
    ∷ (codes "JOB", Of keyword.Job) ∷ (codes "J", Of keyword.Job)
    ∷ (codes "LOCK", Of keyword.Lock) ∷ (codes "L", Of keyword.Lock)
    ∷ (codes "KILL", Of keyword.Kill) ∷ (codes "K", Of keyword.Kill)
    ∷ (codes "MERGE", Of keyword.Merge) ∷ (codes "M", Of keyword.Merge)
    ∷ (codes "IF", Of keyword.If) ∷ (codes "I", Of keyword.If)
    ∷ (codes "ELSE", Of keyword.Else) ∷ (codes "E", Of keyword.Else)
    ∷ (codes "FOR", Of keyword.For) ∷ (codes "F", Of keyword.For)
    ∷ (codes "DO", Of keyword.Do) ∷ (codes "D", Of keyword.Do)
    ∷ (codes "GOTO", Of keyword.Goto) ∷ (codes "G", Of keyword.Goto)
    ∷ (codes "QUIT", Of keyword.Quit) ∷ (codes "Q", Of keyword.Quit)
    ∷ (codes "NEW", Of keyword.New) ∷ (codes "N", Of keyword.New)
    ∷ (codes "OPEN", Of keyword.Open) ∷ (codes "O", Of keyword.Open)
    ∷ (codes "USE", Of keyword.Use) ∷ (codes "U", Of keyword.Use)
    ∷ (codes "CLOSE", Of keyword.Close) ∷ (codes "C", Of keyword.Close)
    ∷ (codes "READ", Of keyword.Read) ∷ (codes "R", Of keyword.Read)
    ∷ (codes "TSTART", Of keyword.TStart) ∷ (codes "TS", Of keyword.TStart)
    ∷ (codes "TCOMMIT", Of keyword.TCommit) ∷ (codes "TC", Of keyword.TCommit)
    ∷ (codes "TRESTART", Of keyword.TRestart) ∷ (codes "TRE", Of keyword.TRestart)
    ∷ (codes "TROLLBACK", Of keyword.TRollback) ∷ (codes "TRO", Of keyword.TRollback)
    ∷ (codes "BREAK", Of keyword.Break) ∷ (codes "B", Of keyword.Break) ∷ []

-- what stands beside the word in the table
abbrev pub looked_up : List ℕ → List (List ℕ × Verb) → Option Verb
looked_up word [] = None
looked_up word (row ∷ rows) = if bytes_eq word row.0 then Some row.1 else looked_up word rows

-- what a word is, in any case
abbrev pub verb_of : List ℕ → Option Verb
verb_of word = looked_up (map capital word) command_words

-- the command that a word is without arguments, and the one that it is with some
abbrev pub bare_of : Verb → Keyword
bare_of (Of k) = k
bare_of HaltOrHang = keyword.Halt

abbrev pub full_of : Verb → Keyword
full_of (Of k) = k
full_of HaltOrHang = keyword.Hang

-- which command it is
abbrev pub keyword_for : Command → Keyword
keyword_for (Set arguments) = keyword.Set
keyword_for (Write arguments) = keyword.Write
keyword_for Halt = keyword.Halt
keyword_for (Hang arguments) = keyword.Hang
keyword_for (Job arguments) = keyword.Job
keyword_for (Lock arguments) = keyword.Lock
keyword_for (Kill arguments) = keyword.Kill
keyword_for (Merge arguments) = keyword.Merge
keyword_for (If conditions) = keyword.If
keyword_for Else = keyword.Else
keyword_for (For v ranges) = keyword.For
keyword_for Forever = keyword.For
keyword_for (Do arguments) = keyword.Do
keyword_for (Goto arguments) = keyword.Goto
keyword_for (Quit value) = keyword.Quit
keyword_for (New arguments) = keyword.New
keyword_for (OpenDevice arguments) = keyword.Open
keyword_for (UseDevice arguments) = keyword.Use
keyword_for (CloseDevice arguments) = keyword.Close
keyword_for (Read arguments) = keyword.Read
keyword_for (TStart argument) = keyword.TStart
keyword_for TCommit = keyword.TCommit
keyword_for TRestart = keyword.TRestart
keyword_for TRollback = keyword.TRollback
keyword_for Break = keyword.Break

-- ---- what arguments are made of

-- A part of the arguments of a command: a sign, a name, a label, the word that makes a transaction SERIAL, `$PIECE` with a `(` behind it, a
-- text in quotes alone, an expression, a variable or the local of FOR. An expression and a variable stand inside so many levels that the command itself opens.
pub data Part : Type 0 where
  Put : (s : Sign) → Part
  Named : (word : List ℕ) → Part
  Label : (label : List ℕ) → Part
  SerialWord : Part
  PieceCall : Part
  Prompt : (value : List ℕ) → Part
  Text : (level : ℕ) (e : Expr) → Part
  Place : (level : ℕ) (v : Variable) → Part
  Control : (v : Variable) → Part

-- the parts of some, with commas between them
abbrev mutual
  pub with_commas : {A : Type 0} → (A → List Part) → List A → List Part
  with_commas parts [] = []
  with_commas parts (x ∷ xs) = parts x ++ behind_commas parts xs

  -- each behind a comma
  pub behind_commas : {A : Type 0} → (A → List Part) → List A → List Part
  behind_commas parts [] = []
  behind_commas parts (x ∷ xs) = Put Comma ∷ (parts x ++ behind_commas parts xs)

-- expressions inside one level, each behind a comma
abbrev pub more_parts : Exprs → List Part
more_parts No = []
more_parts (More e es) = Put Comma ∷ Text 1 e ∷ more_parts es

abbrev pub destination_parts : Destination → List Part
destination_parts (Plain v) = Place 0 v ∷ []
destination_parts (Pieces v es) = PieceCall ∷ Put Open ∷ Place 1 v ∷ (more_parts es ++ Put Close ∷ [])

abbrev pub targets_parts : Targets → List Part
targets_parts (One d) = destination_parts d
targets_parts (Several list) = Put Open ∷ (with_commas destination_parts list ++ Put Close ∷ [])

abbrev pub assignment_parts : Assignment → List Part
assignment_parts a = targets_parts a.targets ++ Put Equals ∷ Text 0 a.value ∷ []

-- the sign of a format mark
abbrev pub mark_part : FormatMark → Part
mark_part NewLine = Put Exclamation
mark_part NewPage = Put Hash

-- the column that is filled up to
abbrev pub column_parts : Option Expr → List Part
column_parts None = []
column_parts (Some e) = Put Question ∷ Text 0 e ∷ []

abbrev pub layout_parts : Layout → List Part
layout_parts l = map mark_part l.marks ++ column_parts l.column

abbrev pub output_parts : Output → List Part
output_parts (Shown e) = Text 0 e ∷ []
output_parts (Format l) = layout_parts l
output_parts (Coded e) = Put Star ∷ Text 0 e ∷ []

abbrev pub name_parts : List ℕ → List Part
name_parts word = Named word ∷ []

abbrev pub killed_parts : Killed → List Part
killed_parts (Gone v) = Place 0 v ∷ []
killed_parts (Spared words) = Put Open ∷ (with_commas name_parts words ++ Put Close ∷ [])

abbrev pub merged_parts : Merged → List Part
merged_parts a = Place 0 a.into ∷ Put Equals ∷ Place 0 a.from ∷ []

abbrev pub value_parts : Expr → List Part
value_parts e = Text 0 e ∷ []

-- the routine behind a label, if one is named
abbrev pub routine_parts : Option (List ℕ) → List Part
routine_parts None = []
routine_parts (Some word) = Put Caret ∷ Named word ∷ []

-- a label, a routine or both; without either it is a `^` alone, which is none
abbrev pub entry_parts : Option (List ℕ) → Option (List ℕ) → List Part
entry_parts None None = Put Caret ∷ []
entry_parts (Some label) routine = Label label ∷ routine_parts routine
entry_parts None (Some word) = routine_parts (Some word)

abbrev pub target_parts : Target → List Part
target_parts t = entry_parts t.label t.routine

-- the postcondition of an argument, or how long one of LOCK or READ may wait
abbrev pub guard_parts : Option Expr → List Part
guard_parts None = []
guard_parts (Some e) = Put Colon ∷ Text 0 e ∷ []

-- an actual, which may be left out
abbrev pub actual_parts : Option Expr → List Part
actual_parts None = []
actual_parts (Some e) = Text 1 e ∷ []

abbrev pub actuals_parts : List (Option Expr) → List Part
actuals_parts [] = []
actuals_parts (a ∷ list) = Put Open ∷ (with_commas actual_parts (a ∷ list) ++ Put Close ∷ [])

abbrev pub called_parts : Called → List Part
called_parts c = target_parts c.target ++ (actuals_parts c.actuals ++ guard_parts c.condition)

-- a jump is spelled as a call without actuals
abbrev pub as_called : Jumped → Called
as_called j = record { target = j.target; actuals = []; condition = j.condition }

abbrev pub jumped_parts : Jumped → List Part
jumped_parts j = called_parts (as_called j)

-- how long an argument of JOB or OPEN may wait
abbrev pub wait_parts : Option Expr → List Part
wait_parts None = []
wait_parts (Some e) = Put Colon ∷ Put Colon ∷ Text 0 e ∷ []

abbrev pub started_parts : Started → List Part
started_parts s = target_parts s.target ++ (actuals_parts s.actuals ++ wait_parts s.timeout)

-- what an argument of LOCK does
abbrev pub mode_parts : LockMode → List Part
mode_parts lock.Whole = []
mode_parts lock.Plus = Put Plus ∷ []
mode_parts lock.Minus = Put Minus ∷ []

abbrev pub variable_parts : Variable → List Part
variable_parts v = Place 0 v ∷ []

abbrev pub lock_names_parts : LockNames → List Part
lock_names_parts (Lone v) = Place 0 v ∷ []
lock_names_parts (Together list) = Put Open ∷ (with_commas variable_parts list ++ Put Close ∷ [])

abbrev pub locked_parts : Locked → List Part
locked_parts l = mode_parts l.mode ++ (lock_names_parts l.names ++ guard_parts l.timeout)

-- how much READ takes
abbrev pub read_mode_parts : ReadMode → List Part
read_mode_parts read.Line = []
read_mode_parts read.Byte = Put Star ∷ []

abbrev pub received_parts : Received → List Part
received_parts r = read_mode_parts r.mode ++ Place 0 r.variable ∷ guard_parts r.timeout

abbrev pub input_parts : Input → List Part
input_parts (Prompted value) = Prompt value ∷ []
input_parts (Arranged l) = layout_parts l
input_parts (Into r) = received_parts r

abbrev pub opened_parts : Opened → List Part
opened_parts o = Text 0 o.device ∷ wait_parts o.timeout

abbrev pub range_parts : Range → List Part
range_parts (Single a) = Text 0 a ∷ []
range_parts (Endless a b) = Text 0 a ∷ Put Colon ∷ Text 0 b ∷ []
range_parts (UpTo a b c) = Text 0 a ∷ Put Colon ∷ Text 0 b ∷ Put Colon ∷ Text 0 c ∷ []

abbrev pub renewed_parts : Renewed → List Part
renewed_parts (Fresh word) = Named word ∷ []
renewed_parts (Kept words) = Put Open ∷ (with_commas name_parts words ++ Put Close ∷ [])

-- which locals a restart restores
abbrev pub restored_parts : Restored → List Part
restored_parts (Alone word) = Named word ∷ []
restored_parts (Listed words) = Put Open ∷ (with_commas name_parts words ++ Put Close ∷ [])
restored_parts Everything = Put Star ∷ []

abbrev pub serial_parts : Serial → List Part
serial_parts serial.No = []
serial_parts serial.Bare = Put Colon ∷ SerialWord ∷ []
serial_parts serial.Enclosed = Put Colon ∷ Put Open ∷ SerialWord ∷ Put Close ∷ []

-- the argument of TSTART, if it has one
abbrev pub restartable_parts : Option Restartable → List Part
restartable_parts None = []
restartable_parts (Some r) = restored_parts r.restored ++ serial_parts r.serial

-- the value that a QUIT gives, if it gives one
abbrev pub result_parts : Option Expr → List Part
result_parts None = []
result_parts (Some e) = Text 0 e ∷ []

abbrev pub command_parts : Command → List Part
command_parts (Set list) = with_commas assignment_parts list
command_parts (Write list) = with_commas output_parts list
command_parts Halt = []
command_parts (Hang list) = with_commas value_parts list
command_parts (Job list) = with_commas started_parts list
command_parts (Lock list) = with_commas locked_parts list
command_parts (Kill list) = with_commas killed_parts list
command_parts (Merge list) = with_commas merged_parts list
command_parts (If list) = with_commas value_parts list
command_parts Else = []
command_parts (For v list) = Control v ∷ Put Equals ∷ with_commas range_parts list
command_parts Forever = []
command_parts (Do list) = with_commas called_parts list
command_parts (Goto list) = with_commas jumped_parts list
command_parts (Quit value) = result_parts value
command_parts (New list) = with_commas renewed_parts list
command_parts (OpenDevice list) = with_commas opened_parts list
command_parts (UseDevice list) = with_commas value_parts list
command_parts (CloseDevice list) = with_commas value_parts list
command_parts (Read list) = with_commas input_parts list
command_parts (TStart argument) = restartable_parts argument
command_parts TCommit = []
command_parts TRestart = []
command_parts TRollback = []
command_parts Break = []

-- ---- which trees commands have

abbrev pub has_items : {A : Type 0} → List A → Bool
has_items [] = false
has_items (x ∷ xs) = true

abbrev pub is_bare : {A : Type 0} → List A → Bool
is_bare [] = true
is_bare (x ∷ xs) = false

abbrev pub every : {A : Type 0} → (A → Bool) → List A → Bool
every p [] = true
every p (x ∷ xs) = p x && every p xs

-- `$PIECE` has a separator, and at most two places
abbrev pub is_destination : Destination → Bool
is_destination (Plain v) = true
is_destination (Pieces v es) = nat_le 1 (count es) && nat_le (count es) 3

abbrev pub are_targets : Targets → Bool
are_targets (One d) = is_destination d
are_targets (Several list) = has_items list && every is_destination list

abbrev pub is_assignment : Assignment → Bool
is_assignment a = are_targets a.targets

abbrev pub is_there : {A : Type 0} → Option A → Bool
is_there None = false
is_there (Some x) = true

-- a mark or a column, or both
abbrev pub is_layout : Layout → Bool
is_layout l = has_items l.marks || is_there l.column

abbrev pub is_output : Output → Bool
is_output (Shown e) = true
is_output (Format l) = is_layout l
is_output (Coded e) = true

abbrev pub is_input : Input → Bool
is_input (Prompted value) = true
is_input (Arranged l) = is_layout l
is_input (Into r) = true

abbrev pub is_killed : Killed → Bool
is_killed (Gone v) = true
is_killed (Spared words) = has_items words

-- a label or a routine, or both
abbrev pub is_entry : Option (List ℕ) → Option (List ℕ) → Bool
is_entry None None = false
is_entry label routine = true

abbrev pub is_target : Target → Bool
is_target t = is_entry t.label t.routine

abbrev pub is_called : Called → Bool
is_called c = is_target c.target

abbrev pub is_jumped : Jumped → Bool
is_jumped j = is_target j.target

abbrev pub is_started : Started → Bool
is_started s = is_target s.target

abbrev pub are_lock_names : LockNames → Bool
are_lock_names (Lone v) = true
are_lock_names (Together list) = has_items list

abbrev pub is_locked : Locked → Bool
is_locked l = are_lock_names l.names

abbrev pub is_renewed : Renewed → Bool
is_renewed (Fresh word) = true
is_renewed (Kept words) = has_items words

-- the variable has no `^`
abbrev pub is_local : Variable → Bool
is_local (Var Local word subscripts) = true
is_local (Var Global word subscripts) = false

-- no list is empty where the grammar has none, and the variable of FOR is a local
abbrev pub is_formed : Command → Bool
is_formed (Set list) = has_items list && every is_assignment list
is_formed (Write list) = has_items list && every is_output list
is_formed Halt = true
is_formed (Hang list) = has_items list
is_formed (Job list) = has_items list && every is_started list
is_formed (Lock list) = every is_locked list
is_formed (Kill list) = every is_killed list
is_formed (Merge list) = has_items list
is_formed (If list) = true
is_formed Else = true
is_formed (For v list) = is_local v && has_items list
is_formed Forever = true
is_formed (Do list) = every is_called list
is_formed (Goto list) = has_items list && every is_jumped list
is_formed (Quit value) = true
is_formed (New list) = every is_renewed list
is_formed (OpenDevice list) = has_items list
is_formed (UseDevice list) = has_items list
is_formed (CloseDevice list) = has_items list
is_formed (Read list) = has_items list && every is_input list
is_formed (TStart argument) = true
is_formed TCommit = true
is_formed TRestart = true
is_formed TRollback = true
is_formed Break = true

-- behind its word a `:` and a condition may stand
abbrev pub is_conditional : Keyword → Bool
is_conditional keyword.If = false
is_conditional keyword.Else = false
is_conditional keyword.For = false
is_conditional _ = true

-- ---- commands as they are written

-- Parentheses with nothing in them are written as one actual that is left out, and are no actuals.
abbrev pub plain_actuals : List (Option Expr) → List (Option Expr)
plain_actuals (None ∷ []) = []
plain_actuals list = list

abbrev pub plain_called : Called → Called
plain_called c = record { target = c.target; actuals = plain_actuals c.actuals; condition = c.condition }

abbrev pub plain_started : Started → Started
plain_started s = record { target = s.target; actuals = plain_actuals s.actuals; timeout = s.timeout }

-- the command that is meant
abbrev pub plain : Command → Command
plain (Do list) = Do (map plain_called list)
plain (Job list) = Job (map plain_started list)
plain c = c

abbrev pub plain_step : LineCommand → LineCommand
plain_step s = record { condition = s.condition; command = plain s.command }

-- ---- spelling

-- the word that makes a transaction SERIAL, in any case
abbrev pub is_serial_word : List ℕ → Bool
is_serial_word word = bytes_eq (map capital word) (codes "SERIAL") || bytes_eq (map capital word) (codes "S")

abbrev pub SpellsPart : List Token → Part → Type 0
SpellsPart ks (Put s) = ks ≡ Signed s ∷ []
SpellsPart ks (Named word) = (ks ≡ Word word ∷ []) × (length word ≤ name_limit)
SpellsPart ks (Label label) = ((ks ≡ Word label ∷ []) × (length label ≤ name_limit)) ⊎ ((ks ≡ Digits label ∷ []) × (length label ≤ TEXT_LIMIT))
SpellsPart ks SerialWord = (word : List ℕ) × (ks ≡ Word word ∷ []) × (is_serial_word word ≡ true)
SpellsPart ks PieceCall = (word : List ℕ) × (ks ≡ CalledWord word ∷ []) × (length word ≤ name_limit) × (callee_of word ≡ Some (Texts Piece))
SpellsPart ks (Prompt value) = (ks ≡ Quoted value ∷ []) × (length value ≤ TEXT_LIMIT)
SpellsPart ks (Text level e) = Spells expressions ks e
SpellsPart ks (Place level v) = Spells variables ks v
SpellsPart ks (Control v) = Spells variables ks v

-- parts, one directly behind the other
abbrev pub SpellsParts : List Token → List Part → Type 0
SpellsParts ks [] = ks ≡ []
SpellsParts ks (p ∷ ps) = (front : List Token) × (rest : List Token) × (ks ≡ front ++ rest) × SpellsPart front p × SpellsParts rest ps

-- a postcondition, or none
abbrev pub SpellsCondition : List Token → Option Expr → Type 0
SpellsCondition ks None = ks ≡ []
SpellsCondition ks (Some e) = (rest : List Token) × (ks ≡ Signed Colon ∷ rest) × Spells expressions rest e

-- which commands may have one
abbrev pub IsConditional : Keyword → Option Expr → Type 0
IsConditional k None = Unit {0}
IsConditional k (Some e) = is_conditional k ≡ true

-- arguments, if there are any, with the blank before them
abbrev pub SpellsArguments : List Token → List Part → Type 0
SpellsArguments ks [] = ks ≡ []
SpellsArguments ks (p ∷ ps) = (rest : List Token) × (ks ≡ Blank ∷ rest) × SpellsParts rest (p ∷ ps)

-- the command that a word is, before these parts
abbrev pub meant : Verb → List Part → Keyword
meant v [] = bare_of v
meant v (p ∷ ps) = full_of v

-- the word leads to the command, where these are its parts
abbrev pub WordLeads : List ℕ → List Part → Keyword → Type 0
WordLeads word parts k = (v : Verb) × (verb_of word ≡ Some v) × (k ≡ meant v parts)

-- a command with its postcondition
abbrev pub SpellsStep : List Token → LineCommand → Type 0
SpellsStep ks s =
    (word : List ℕ) × (condition : List Token) × (arguments : List Token)
    × (ks ≡ Word word ∷ (condition ++ arguments)) × WordLeads word (command_parts s.command) (keyword_for s.command)
    × SpellsCondition condition s.condition × SpellsArguments arguments (command_parts s.command) × (is_formed s.command ≡ true) × IsConditional (keyword_for s.command) s.condition

-- how many blanks stand behind arguments before another command, at least
abbrev pub gap_of : List Part → ℕ
gap_of [] = 2
gap_of (p ∷ ps) = 1

-- how many blanks stand behind them before a comment, at least
abbrev pub comment_gap_of : List Part → ℕ
comment_gap_of [] = 1
comment_gap_of (p ∷ ps) = 0

-- ---- limits

-- the greatest number that f gives
abbrev pub greatest : {A : Type 0} → (A → ℕ) → List A → ℕ
greatest f [] = 0
greatest f (x ∷ xs) = max (f x) (greatest f xs)

abbrev pub part_nesting : Part → ℕ
part_nesting (Text level e) = expr_nesting e + level
part_nesting (Place level v) = variable_nesting v + level
part_nesting (Control v) = variable_nesting v
part_nesting p = 0

abbrev pub part_width : Part → ℕ
part_width (Text level e) = expr_width e
part_width (Place level v) = variable_width v
part_width (Control v) = variable_width v
part_width p = 0

abbrev pub condition_measure : (Expr → ℕ) → Option Expr → ℕ
condition_measure e None = 0
condition_measure e (Some x) = e x

-- how deep a command nests
abbrev pub step_nesting : LineCommand → ℕ
step_nesting s = max (condition_measure expr_nesting s.condition) (greatest part_nesting (command_parts s.command))

-- the length of its longest list of subscripts
abbrev pub step_width : LineCommand → ℕ
step_width s = max (condition_measure expr_width s.condition) (greatest part_width (command_parts s.command))
