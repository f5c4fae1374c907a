-- What stands inside arguments.
use Rattle.std.specs.Prelude.{◌≡◌, ◌⊎◌, ℕ, zero, suc, ◌-◌, Bool, true, false, List, [], ◌∷◌, ◌++◌}
use Rattle.mj_ast.specs.declared.sign.Sign.{Sign}
use Rattle.mj_ast.specs.declared.sign.Sign.TheVariants.{Plus, Minus, Star, Hash, Exclamation, Open, Close}
use Rattle.mj_ast.specs.declared.routine.FormatMark.{FormatMark}
use Rattle.mj_ast.specs.declared.routine.FormatMark.TheVariants.{NewLine, NewPage}
use Rattle.mj_ast.specs.declared.routine.ReadMode.{ReadMode}
use Rattle.mj_ast.specs.declared.routine.ReadMode.TheVariants.{Line, Byte}
use Rattle.mj_ast.specs.Syntax.{Destination, Plain, Pieces}
use Rattle.mj_ast.specs.Tokens.{Token, Signed}
use Rattle.mj_ast.specs.declared.routine.LockMode.{LockMode}
use Rattle.mj_ast.specs.declared.routine.LockMode.TheVariants.{Whole, Plus as Added, Minus as Taken}
use Rattle.mj_ast.specs.Commands.{Part, Put, Place, more_parts, name_parts, with_commas}
use Rattle.mj_line.specs.Forms.{Mode, Jumps, Talk, Reads, Node, OutputWanted, MarksEnd, IntoWanted, PieceComma, PieceBehind, NameWanted, NameBehind, KillEnd, KeptWanted, KeptBehind, NewEnd, RestoredWanted, RestoredBehind, RestoredEnd, RoutineEnd, ActualEnd, ActualsEnd, LockWanted, LockSigned}
use Rattle.mj_cmd.specs.Heads.{HasNoOpen, HasNoPlus, HasNoMinus, HasNoMark, HasNoStar, HasOther, StartsQuestion}

-- what stands behind the word of `$PIECE`
abbrev pub opened_parts : Destination → List Part
opened_parts (Plain v) = []
opened_parts (Pieces v es) = Put Open ∷ Place 1 v ∷ (more_parts es ++ Put Close ∷ [])

-- the place behind so many of its expressions
abbrev pub piece_node : Bool → ℕ → Node
piece_node listed zero = PieceComma listed
piece_node listed (suc n) = PieceBehind listed (2 - n)

-- the lists of names in parentheses: of KILL, of NEW and of TSTART
pub data NameList : Type 0 where
  Sparing : NameList
  Keeping : NameList
  Restoring : NameList

-- their places
abbrev pub name_wanted : NameList → Node
name_wanted Sparing = NameWanted
name_wanted Keeping = KeptWanted
name_wanted Restoring = RestoredWanted

abbrev pub name_behind : NameList → Node
name_behind Sparing = NameBehind
name_behind Keeping = KeptBehind
name_behind Restoring = RestoredBehind

abbrev pub name_end : NameList → Node
name_end Sparing = KillEnd
name_end Keeping = NewEnd
name_end Restoring = RestoredEnd

-- where the condition of an argument, or its timeout, may stand: behind an entry, with no actuals there, or behind actuals
abbrev pub MayBeGuarded : Mode → Node → List Token → Type 0
MayBeGuarded mode n ks = ((n ≡ RoutineEnd mode) × ((mode ≡ Jumps) ⊎ HasNoOpen ks)) ⊎ (n ≡ ActualsEnd mode)

-- names with commas between them, and the `)` behind them
abbrev pub enclosed_names : List (List ℕ) → List Part
enclosed_names names = with_commas name_parts names ++ Put Close ∷ []

-- behind actuals, by the place behind the last
abbrev pub actuals_closed : Node → Node
actuals_closed (ActualEnd mode) = ActualsEnd mode
actuals_closed n = n

-- what an argument of LOCK does, as it is spelled, and the place behind that
abbrev pub mode_tokens : LockMode → List Token
mode_tokens Whole = []
mode_tokens Added = Signed Plus ∷ []
mode_tokens Taken = Signed Minus ∷ []

abbrev pub lock_node : LockMode → Bool → Node
lock_node Whole first = LockWanted first
lock_node mode first = LockSigned

-- there the names may stand: behind a sign, or where none is and the argument is one
abbrev pub MayBeNamed : LockMode → Bool → List Token → Type 0
MayBeNamed Whole first ks = HasNoPlus ks × HasNoMinus ks × ((first ≡ false) ⊎ HasOther ks)
MayBeNamed mode first ks = Unit {0}

-- what READ takes, as it is spelled
abbrev pub read_tokens : ReadMode → List Token
read_tokens Line = []
read_tokens Byte = Signed Star ∷ []

-- the place of the variable that READ reads into, and that it may stand there: behind a `*`, or where none is
abbrev pub read_node : ReadMode → Node
read_node Line = OutputWanted Reads
read_node Byte = IntoWanted

abbrev pub MayBeInto : ReadMode → List Token → Type 0
MayBeInto Line ks = HasNoStar ks
MayBeInto Byte ks = Unit {0}

-- the sign of a format mark
abbrev pub mark_sign : FormatMark → Sign
mark_sign NewLine = Exclamation
mark_sign NewPage = Hash

-- there the column of a format may stand: behind its marks, or where none stands before it
abbrev pub MayBeColumn : Talk → Node → List Token → Type 0
MayBeColumn talk n ks = ((n ≡ MarksEnd talk) × HasNoMark ks) ⊎ ((n ≡ OutputWanted talk) × StartsQuestion ks)

-- inside a list no other list begins
abbrev pub NotListed : Bool → List Token → Type 0
NotListed true ks = Unit {0}
NotListed false ks = HasNoOpen ks
