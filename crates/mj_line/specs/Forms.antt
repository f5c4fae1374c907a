-- The arguments of commands as a table: the places in them, and what goes on at each.
use Rattle.std.specs.Prelude.{◌≡◌, ℕ, suc, nat_le, if◌then◌else◌, Bool, true, false, ◌&&◌, List, [], ◌∷◌, length, Option, Some, None}
use Rattle.mj_ast.specs.declared.sign.Sign.TheVariants.{Plus, Minus, Star, Hash, Equals, Comma, Colon, Exclamation, Question, Caret, Open, Close}
use Rattle.mj_ast.specs.declared.function.Function.TheVariants.{Piece}
use Rattle.mj_ast.specs.declared.function.Callee.{Callee}
use Rattle.mj_ast.specs.declared.function.Callee.TheVariants.{Texts}
use Rattle.mj_ast.specs.declared.keyword.Keyword.TheVariants as keyword
use Rattle.mj_ast.specs.declared.keyword.Verb.{Verb}
use Rattle.mj_ast.specs.declared.keyword.Verb.TheVariants.{Of, HaltOrHang}
use Rattle.mj_ast.specs.Tokens.{Token, Word, Called, Digits, Quoted, Signed}
use Rattle.mj_ast.specs.Expressions.{callee_of, name_limit}
use Rattle.mj_text.specs.declared.text.TheConstants.{TEXT_LIMIT}
use Rattle.mj_ast.specs.Commands.{Part, Put, Named, Label, SerialWord, PieceCall, Prompt, Text, Place, Control, is_local, is_serial_word}

-- ---- places

-- what entries are named for: to be called, with actuals, to be jumped to, or for a job to start at, with actuals
pub data Mode : Type 0 where
  Calls : Mode
  Jumps : Mode
  Starts : Mode

-- what arguments with formats are for: to be written, or to be read by
pub data Talk : Type 0 where
  Writes : Talk
  Reads : Talk

pub data Node : Type 0 where
  -- SET: a destination is wanted, inside a list in parentheses or not
  SetTarget : (listed : Bool) → Node
  -- `$PIECE` was read; its parenthesis; its variable
  PieceOpens : (listed : Bool) → Node
  PieceVariable : (listed : Bool) → Node
  PieceComma : (listed : Bool) → Node
  -- an expression is wanted there, behind which so many may stand; it was read
  PieceText : (listed : Bool) (more : ℕ) → Node
  PieceBehind : (listed : Bool) (more : ℕ) → Node
  -- a destination was read; the value is wanted; it was read
  SetBehind : (listed : Bool) → Node
  SetValue : Node
  SetEnd : Node
  -- WRITE and READ: an argument is wanted; it was read up to its end; format marks were read; the column behind a `?` is wanted
  OutputWanted : (talk : Talk) → Node
  OutputEnd : (talk : Talk) → Node
  MarksEnd : (talk : Talk) → Node
  ColumnWanted : (talk : Talk) → Node
  -- WRITE: the code behind a `*` is wanted
  CodeWanted : Node
  -- READ: the variable behind a `*` is wanted; a variable was read; its timeout is wanted
  IntoWanted : Node
  IntoEnd : Node
  IntoTimed : Node
  -- OPEN: a device is wanted; it was read; the first colon of its timeout was read; the timeout is wanted; it was read
  DeviceWanted : Node
  DeviceEnd : Node
  DeviceColon : Node
  DeviceTimed : Node
  DeviceWaited : Node
  -- KILL: an argument is wanted, the first or another; a name of a list; such a name was read; an argument was read
  KillWanted : (first : Bool) → Node
  NameWanted : Node
  NameBehind : Node
  KillEnd : Node
  -- MERGE: the first variable is wanted; it was read; the second; it was read
  MergeInto : Node
  MergeBehind : Node
  MergeFrom : Node
  MergeEnd : Node
  -- expressions: the first is wanted, which may be missing, or one that may not; it was read
  ValueWanted : (optional : Bool) → Node
  ValueEnd : Node
  -- QUIT: its value is wanted, which may be missing; it was read
  ResultWanted : Node
  ResultEnd : Node
  -- FOR: its local is wanted; it was read; the first expression of a range is wanted, and was read; its step; its end
  ForWanted : Node
  ForBehind : Node
  RangeWanted : Node
  RangeEnd : Node
  StepWanted : Node
  StepEnd : Node
  LimitWanted : Node
  LimitEnd : Node
  -- NEW: an argument is wanted, the first or another; a name of a list; such a name was read; an argument was read
  NewWanted : (first : Bool) → Node
  KeptWanted : Node
  KeptBehind : Node
  NewEnd : Node
  -- DO, GOTO and JOB, by what entries are named for: an entry is wanted, the first or another; its label was read; the name of its routine is wanted;
  -- the entry was read
  EntryWanted : (mode : Mode) (first : Bool) → Node
  LabelEnd : (mode : Mode) → Node
  RoutineWanted : (mode : Mode) → Node
  RoutineEnd : (mode : Mode) → Node
  -- DO and JOB: an actual may stand there; it was read; the actuals were read
  ActualWanted : (mode : Mode) → Node
  ActualEnd : (mode : Mode) → Node
  ActualsEnd : (mode : Mode) → Node
  -- JOB: the first colon of a timeout was read
  WaitColon : Node
  -- the condition of an argument, or its timeout, is wanted; it was read
  GuardWanted : (mode : Mode) → Node
  GuardEnd : (mode : Mode) → Node
  -- LOCK: an argument is wanted, the first or another; its sign was read; a variable of a list is wanted; it was read; the
  -- names were read; the timeout is wanted; it was read
  LockWanted : (first : Bool) → Node
  LockSigned : Node
  LockListed : Node
  LockBehind : Node
  LockNamed : Node
  LockTimed : Node
  LockEnd : Node
  -- TSTART: its argument is wanted; the `(` of a list was read; another name of it is wanted; a name of it was read; the locals were read; the
  -- word of SERIAL is wanted; it is wanted behind a `(`; it was read there; the argument was read
  RestartWanted : Node
  RestoredOpens : Node
  RestoredWanted : Node
  RestoredBehind : Node
  RestoredEnd : Node
  SerialWanted : Node
  SerialInside : Node
  SerialBehind : Node
  SerialEnd : Node

-- ---- what goes on

-- the part that a token alone is, if it can be one
abbrev pub piece_part : Option Callee → Option Part
piece_part (Some (Texts Piece)) = Some PieceCall
piece_part _ = None

abbrev pub part_of : Token → Option Part
part_of (Signed s) = Some (Put s)
part_of (Word w) = if nat_le (length w) name_limit then Some (Named w) else None
part_of (Called w) = if nat_le (length w) name_limit then piece_part (callee_of w) else None
part_of _ = None

-- what a word is at a place: a name, a label where one is wanted, or the word that makes a transaction SERIAL
pub data Sort : Type 0 where
  Names : Sort
  Labels : Sort
  Serials : Sort

-- where a label is wanted, a name or digits, or a text in quotes may stand alone, and where the word of SERIAL is
abbrev pub sort_of : Node → Sort
sort_of (EntryWanted mode first) = Labels
sort_of (OutputWanted Reads) = Labels
sort_of SerialWanted = Serials
sort_of SerialInside = Serials
sort_of n = Names

-- the part that a token alone is there
abbrev pub part_at : Sort → Token → Option Part
part_at Labels (Word w) = if nat_le (length w) name_limit then Some (Label w) else None
part_at Labels (Digits d) = if nat_le (length d) TEXT_LIMIT then Some (Label d) else None
part_at Labels (Quoted v) = if nat_le (length v) TEXT_LIMIT then Some (Prompt v) else None
part_at Serials (Word w) = if is_serial_word w then Some SerialWord else None
part_at sort t = part_of t

-- where actuals may stand
abbrev pub actuals_at : Mode → Option Node
actuals_at Calls = Some (ActualWanted Calls)
actuals_at Jumps = None
actuals_at Starts = Some (ActualWanted Starts)

-- the place behind a colon there
abbrev pub colon_at : Mode → Node
colon_at Calls = GuardWanted Calls
colon_at Jumps = GuardWanted Jumps
colon_at Starts = WaitColon

-- the place behind a `*` that an argument begins with
abbrev pub star_at : Talk → Node
star_at Writes = CodeWanted
star_at Reads = IntoWanted

-- a text in quotes alone is an argument of READ
abbrev pub prompt_at : Talk → Option Node
prompt_at Writes = None
prompt_at Reads = Some (OutputEnd Reads)

-- the place behind a part of one token, if it may stand here
abbrev pub takes : Node → Part → Option Node
takes (SetTarget listed) PieceCall = Some (PieceOpens listed)
takes (SetTarget false) (Put Open) = Some (SetTarget true)
takes (PieceOpens listed) (Put Open) = Some (PieceVariable listed)
takes (PieceComma listed) (Put Comma) = Some (PieceText listed 2)
takes (PieceBehind listed (suc more)) (Put Comma) = Some (PieceText listed more)
takes (PieceBehind listed more) (Put Close) = Some (SetBehind listed)
takes (SetBehind false) (Put Equals) = Some SetValue
takes (SetBehind true) (Put Comma) = Some (SetTarget true)
takes (SetBehind true) (Put Close) = Some (SetBehind false)
takes SetEnd (Put Comma) = Some (SetTarget false)
takes (OutputWanted talk) (Put Exclamation) = Some (MarksEnd talk)
takes (OutputWanted talk) (Put Hash) = Some (MarksEnd talk)
takes (OutputWanted talk) (Put Question) = Some (ColumnWanted talk)
takes (OutputWanted talk) (Put Star) = Some (star_at talk)
takes (OutputWanted talk) (Prompt v) = prompt_at talk
takes (OutputEnd talk) (Put Comma) = Some (OutputWanted talk)
takes (MarksEnd talk) (Put Exclamation) = Some (MarksEnd talk)
takes (MarksEnd talk) (Put Hash) = Some (MarksEnd talk)
takes (MarksEnd talk) (Put Question) = Some (ColumnWanted talk)
takes (MarksEnd talk) (Put Comma) = Some (OutputWanted talk)
takes IntoEnd (Put Colon) = Some IntoTimed
takes IntoEnd (Put Comma) = Some (OutputWanted Reads)
takes DeviceEnd (Put Colon) = Some DeviceColon
takes DeviceEnd (Put Comma) = Some DeviceWanted
takes DeviceColon (Put Colon) = Some DeviceTimed
takes DeviceWaited (Put Comma) = Some DeviceWanted
takes (KillWanted first) (Put Open) = Some NameWanted
takes NameWanted (Named w) = Some NameBehind
takes NameBehind (Put Comma) = Some NameWanted
takes NameBehind (Put Close) = Some KillEnd
takes KillEnd (Put Comma) = Some (KillWanted false)
takes MergeBehind (Put Equals) = Some MergeFrom
takes MergeEnd (Put Comma) = Some MergeInto
takes ValueEnd (Put Comma) = Some (ValueWanted false)
takes ForBehind (Put Equals) = Some RangeWanted
takes RangeEnd (Put Colon) = Some StepWanted
takes RangeEnd (Put Comma) = Some RangeWanted
takes StepEnd (Put Colon) = Some LimitWanted
takes StepEnd (Put Comma) = Some RangeWanted
takes LimitEnd (Put Comma) = Some RangeWanted
takes (NewWanted first) (Named w) = Some NewEnd
takes (NewWanted first) (Put Open) = Some KeptWanted
takes KeptWanted (Named w) = Some KeptBehind
takes KeptBehind (Put Comma) = Some KeptWanted
takes KeptBehind (Put Close) = Some NewEnd
takes NewEnd (Put Comma) = Some (NewWanted false)
takes (EntryWanted mode first) (Label l) = Some (LabelEnd mode)
takes (EntryWanted mode first) (Put Caret) = Some (RoutineWanted mode)
takes (LabelEnd mode) (Put Caret) = Some (RoutineWanted mode)
takes (LabelEnd mode) (Put Open) = actuals_at mode
takes (LabelEnd mode) (Put Colon) = Some (colon_at mode)
takes (LabelEnd mode) (Put Comma) = Some (EntryWanted mode false)
takes (RoutineWanted mode) (Named w) = Some (RoutineEnd mode)
takes (RoutineEnd mode) (Put Open) = actuals_at mode
takes (RoutineEnd mode) (Put Colon) = Some (colon_at mode)
takes (RoutineEnd mode) (Put Comma) = Some (EntryWanted mode false)
takes (ActualWanted mode) (Put Comma) = Some (ActualWanted mode)
takes (ActualWanted mode) (Put Close) = Some (ActualsEnd mode)
takes (ActualEnd mode) (Put Comma) = Some (ActualWanted mode)
takes (ActualEnd mode) (Put Close) = Some (ActualsEnd mode)
takes (ActualsEnd mode) (Put Colon) = Some (colon_at mode)
takes (ActualsEnd mode) (Put Comma) = Some (EntryWanted mode false)
takes WaitColon (Put Colon) = Some (GuardWanted Starts)
takes (GuardEnd mode) (Put Comma) = Some (EntryWanted mode false)
takes (LockWanted first) (Put Plus) = Some LockSigned
takes (LockWanted first) (Put Minus) = Some LockSigned
takes (LockWanted first) (Put Open) = Some LockListed
takes LockSigned (Put Open) = Some LockListed
takes LockBehind (Put Comma) = Some LockListed
takes LockBehind (Put Close) = Some LockNamed
takes LockNamed (Put Colon) = Some LockTimed
takes LockNamed (Put Comma) = Some (LockWanted false)
takes LockEnd (Put Comma) = Some (LockWanted false)
takes RestartWanted (Named w) = Some RestoredEnd
takes RestartWanted (Put Star) = Some RestoredEnd
takes RestartWanted (Put Open) = Some RestoredOpens
takes RestoredOpens (Named w) = Some RestoredBehind
takes RestoredOpens (Put Close) = Some RestoredEnd
takes RestoredWanted (Named w) = Some RestoredBehind
takes RestoredBehind (Put Comma) = Some RestoredWanted
takes RestoredBehind (Put Close) = Some RestoredEnd
takes RestoredEnd (Put Colon) = Some SerialWanted
takes SerialWanted SerialWord = Some SerialEnd
takes SerialWanted (Put Open) = Some SerialInside
takes SerialInside SerialWord = Some SerialBehind
takes SerialBehind (Put Close) = Some SerialEnd
takes _ _ = None

-- an expression or a variable, inside so many levels that the command opens, or a variable that is a local, and the place behind it
pub data Want : Type 0 where
  AnExpr : (level : ℕ) (next : Node) → Want
  AVar : (level : ℕ) (next : Node) → Want
  ALocal : (next : Node) → Want

abbrev pub next_of : Want → Node
next_of (AnExpr level next) = next
next_of (AVar level next) = next
next_of (ALocal next) = next

-- what may stand here
abbrev pub wants : Node → Option Want
wants (SetTarget listed) = Some (AVar 0 (SetBehind listed))
wants (PieceVariable listed) = Some (AVar 1 (PieceComma listed))
wants (PieceText listed more) = Some (AnExpr 1 (PieceBehind listed more))
wants SetValue = Some (AnExpr 0 SetEnd)
wants (OutputWanted Writes) = Some (AnExpr 0 (OutputEnd Writes))
wants (OutputWanted Reads) = Some (AVar 0 IntoEnd)
wants (ColumnWanted talk) = Some (AnExpr 0 (OutputEnd talk))
wants CodeWanted = Some (AnExpr 0 (OutputEnd Writes))
wants IntoWanted = Some (AVar 0 IntoEnd)
wants IntoTimed = Some (AnExpr 0 (OutputEnd Reads))
wants DeviceWanted = Some (AnExpr 0 DeviceEnd)
wants DeviceTimed = Some (AnExpr 0 DeviceWaited)
wants (KillWanted first) = Some (AVar 0 KillEnd)
wants MergeInto = Some (AVar 0 MergeBehind)
wants MergeFrom = Some (AVar 0 MergeEnd)
wants (ValueWanted optional) = Some (AnExpr 0 ValueEnd)
wants ResultWanted = Some (AnExpr 0 ResultEnd)
wants ForWanted = Some (ALocal ForBehind)
wants RangeWanted = Some (AnExpr 0 RangeEnd)
wants StepWanted = Some (AnExpr 0 StepEnd)
wants LimitWanted = Some (AnExpr 0 LimitEnd)
wants (ActualWanted mode) = Some (AnExpr 1 (ActualEnd mode))
wants (GuardWanted mode) = Some (AnExpr 0 (GuardEnd mode))
wants (LockWanted first) = Some (AVar 0 LockNamed)
wants LockSigned = Some (AVar 0 LockNamed)
wants LockListed = Some (AVar 0 LockBehind)
wants LockTimed = Some (AnExpr 0 LockEnd)
wants _ = None

-- there may be no entry at all
abbrev pub is_optional : Mode → Bool
is_optional Calls = true
is_optional Jumps = false
is_optional Starts = false

-- the arguments may end here
abbrev pub ends : Node → Bool
ends SetEnd = true
ends (OutputEnd talk) = true
ends (MarksEnd talk) = true
ends IntoEnd = true
ends DeviceEnd = true
ends DeviceWaited = true
ends (KillWanted first) = first
ends KillEnd = true
ends MergeEnd = true
ends (ValueWanted optional) = optional
ends ValueEnd = true
ends ResultWanted = true
ends ResultEnd = true
ends ForWanted = true
ends RangeEnd = true
ends StepEnd = true
ends LimitEnd = true
ends (NewWanted first) = first
ends NewEnd = true
ends (EntryWanted mode first) = is_optional mode && first
ends (LabelEnd mode) = true
ends (RoutineEnd mode) = true
ends (ActualsEnd mode) = true
ends (GuardEnd mode) = true
ends (LockWanted first) = first
ends LockNamed = true
ends LockEnd = true
ends RestartWanted = true
ends RestoredEnd = true
ends SerialEnd = true
ends _ = false

-- ---- commands

-- the first place in the arguments of what a word begins, if it may have some
abbrev pub first_node : Verb → Option Node
first_node (Of keyword.Set) = Some (SetTarget false)
first_node (Of keyword.Write) = Some (OutputWanted Writes)
first_node (Of keyword.Halt) = None
first_node (Of keyword.Hang) = Some (ValueWanted false)
first_node (Of keyword.Job) = Some (EntryWanted Starts true)
first_node (Of keyword.Lock) = Some (LockWanted true)
first_node (Of keyword.Kill) = Some (KillWanted true)
first_node (Of keyword.Merge) = Some MergeInto
first_node (Of keyword.If) = Some (ValueWanted true)
first_node (Of keyword.Else) = None
first_node (Of keyword.For) = Some ForWanted
first_node (Of keyword.Do) = Some (EntryWanted Calls true)
first_node (Of keyword.Goto) = Some (EntryWanted Jumps true)
first_node (Of keyword.Quit) = Some ResultWanted
first_node (Of keyword.New) = Some (NewWanted true)
first_node (Of keyword.Open) = Some DeviceWanted
first_node (Of keyword.Use) = Some (ValueWanted false)
first_node (Of keyword.Close) = Some (ValueWanted false)
first_node (Of keyword.Read) = Some (OutputWanted Reads)
first_node (Of keyword.TStart) = Some RestartWanted
first_node (Of keyword.TCommit) = None
first_node (Of keyword.TRestart) = None
first_node (Of keyword.TRollback) = None
first_node (Of keyword.Break) = None
first_node HaltOrHang = Some (ValueWanted true)

-- it may have none
abbrev pub may_be_bare : Verb → Bool
may_be_bare (Of keyword.Set) = false
may_be_bare (Of keyword.Write) = false
may_be_bare (Of keyword.Hang) = false
may_be_bare (Of keyword.Job) = false
may_be_bare (Of keyword.Merge) = false
may_be_bare (Of keyword.Goto) = false
may_be_bare (Of keyword.Open) = false
may_be_bare (Of keyword.Use) = false
may_be_bare (Of keyword.Close) = false
may_be_bare (Of keyword.Read) = false
may_be_bare _ = true

-- ---- lists of parts

-- the part leads from a place to the next
abbrev pub PartLeads : Node → Part → Node → Type 0
PartLeads n (Text level e) next = wants n ≡ Some (AnExpr level next)
PartLeads n (Place level v) next = wants n ≡ Some (AVar level next)
PartLeads n (Control v) next = (wants n ≡ Some (ALocal next)) × (is_local v ≡ true)
PartLeads n p next = takes n p ≡ Some next

-- the parts may stand from here on up to the end
abbrev pub PartsFit : Node → List Part → Type 0
PartsFit n [] = ends n ≡ true
PartsFit n (p ∷ ps) = (next : Node) × PartLeads n p next × PartsFit next ps

-- they are the arguments of what such a word begins
abbrev pub IsForm : Verb → List Part → Type 0
IsForm v [] = may_be_bare v ≡ true
IsForm v (p ∷ ps) = (n : Node) × (first_node v ≡ Some n) × PartsFit n (p ∷ ps)
