-- What stands in front of the tokens.
use Rattle.std.specs.Prelude.{ℕ, ◌≡◌, ◌⊎◌, ◌+◌, ◌<◌, ◌≤◌, Bool, true, false, List, [], ◌∷◌, length, Option, Some, None}
use Rattle.mj_text.specs.declared.text.TheConstants.{TEXT_LIMIT}
use Rattle.mj_ast.specs.Expressions.{name_limit}
use Rattle.mj_ast.specs.Commands.{PieceCall, is_serial_word}
use Rattle.mj_line.specs.Forms.{part_of}
use Rattle.mj_line.specs.Sentences.{Sentence}
use Rattle.mj_line.specs.Machine.{Spot, Begin, Labelled, FormalsEnd, empty_line, headed}
use Rattle.mj_ast.specs.declared.sign.Sign.TheVariants.{Plus, Minus, Star, Hash, Equals, Comma, Colon, Exclamation, Question, Caret, Open, Close, Dot}
use Rattle.mj_ast.specs.Tokens.{Token, Word, Called, Digits, Quoted, Signed, Blank, Comment}
use Rattle.mj_lex.specs.declared.token.Lexeme.{Lexeme}
use Rattle.mj_lex.specs.Seen.{tokens_seen}

-- no such token stands in front
abbrev pub HasNoComma : List Token → Type 0
HasNoComma (Signed Comma ∷ ks) = ⊥
HasNoComma ks = Unit {0}

abbrev pub HasNoEquals : List Token → Type 0
HasNoEquals (Signed Equals ∷ ks) = ⊥
HasNoEquals ks = Unit {0}

abbrev pub HasNoColon : List Token → Type 0
HasNoColon (Signed Colon ∷ ks) = ⊥
HasNoColon ks = Unit {0}

abbrev pub HasNoPlus : List Token → Type 0
HasNoPlus (Signed Plus ∷ ks) = ⊥
HasNoPlus ks = Unit {0}

abbrev pub HasNoMinus : List Token → Type 0
HasNoMinus (Signed Minus ∷ ks) = ⊥
HasNoMinus ks = Unit {0}

abbrev pub HasNoOpen : List Token → Type 0
HasNoOpen (Signed Open ∷ ks) = ⊥
HasNoOpen ks = Unit {0}

abbrev pub HasNoClose : List Token → Type 0
HasNoClose (Signed Close ∷ ks) = ⊥
HasNoClose ks = Unit {0}

-- `$PIECE` with a `(` behind it
abbrev pub HasNoPiece : List Token → Type 0
HasNoPiece (k ∷ ks) = part_of k ≡ Some PieceCall → ⊥
HasNoPiece [] = Unit {0}

abbrev pub HasNoCaret : List Token → Type 0
HasNoCaret (Signed Caret ∷ ks) = ⊥
HasNoCaret ks = Unit {0}

-- a name, or digits that are no longer than a text
abbrev pub HasNoLabel : List Token → Type 0
HasNoLabel (Word w ∷ ks) = length w ≤ name_limit → ⊥
HasNoLabel (Digits d ∷ ks) = length d ≤ TEXT_LIMIT → ⊥
HasNoLabel ks = Unit {0}

-- such a label stands in front of the rest
abbrev pub StartsLabel : List Token → List ℕ → List Token → Type 0
StartsLabel (Word w ∷ ks) l rest = (l ≡ w) × (ks ≡ rest) × (length w ≤ name_limit)
StartsLabel (Digits d ∷ ks) l rest = (l ≡ d) × (ks ≡ rest) × (length d ≤ TEXT_LIMIT)
StartsLabel ks l rest = ⊥

-- a word of a length that a name may have
abbrev pub HasNoName : List Token → Type 0
HasNoName (Word w ∷ ks) = length w ≤ name_limit → ⊥
HasNoName ks = Unit {0}

-- the word that makes a transaction SERIAL
abbrev pub HasNoSerial : List Token → Type 0
HasNoSerial (Word w ∷ ks) = is_serial_word w ≡ false
HasNoSerial ks = Unit {0}

abbrev pub HasNoMark : List Token → Type 0
HasNoMark (Signed Exclamation ∷ ks) = ⊥
HasNoMark (Signed Hash ∷ ks) = ⊥
HasNoMark ks = Unit {0}

abbrev pub HasNoQuestion : List Token → Type 0
HasNoQuestion (Signed Question ∷ ks) = ⊥
HasNoQuestion ks = Unit {0}

abbrev pub HasNoStar : List Token → Type 0
HasNoStar (Signed Star ∷ ks) = ⊥
HasNoStar ks = Unit {0}

-- what a format begins with stands in front
abbrev pub StartsLayout : List Token → Type 0
StartsLayout (Signed Exclamation ∷ ks) = Unit {0}
StartsLayout (Signed Hash ∷ ks) = Unit {0}
StartsLayout (Signed Question ∷ ks) = Unit {0}
StartsLayout ks = ⊥

-- a `?` stands in front
abbrev pub StartsQuestion : List Token → Type 0
StartsQuestion (Signed Question ∷ ks) = Unit {0}
StartsQuestion ks = ⊥

-- a text in quotes, of a length that a text may have
abbrev pub HasNoQuoted : List Token → Type 0
HasNoQuoted (Quoted v ∷ ks) = length v ≤ TEXT_LIMIT → ⊥
HasNoQuoted ks = Unit {0}

abbrev pub HasNoDot : List Token → Type 0
HasNoDot (Signed Dot ∷ ks) = ⊥
HasNoDot ks = Unit {0}

abbrev pub HasNoWord : List Token → Type 0
HasNoWord (Word w ∷ ks) = ⊥
HasNoWord ks = Unit {0}

abbrev pub HasNoBlank : List Token → Type 0
HasNoBlank (Blank ∷ ks) = ⊥
HasNoBlank ks = Unit {0}

-- a blank, a comment or the line's end: where a command may end
abbrev pub HasParted : List Token → Type 0
HasParted [] = Unit {0}
HasParted (Blank ∷ ks) = Unit {0}
HasParted (Comment text ∷ ks) = Unit {0}
HasParted ks = ⊥

-- another token
abbrev pub HasOther : List Token → Type 0
HasOther [] = ⊥
HasOther (Blank ∷ ks) = ⊥
HasOther (Comment text ∷ ks) = ⊥
HasOther ks = Unit {0}

-- an argument stands in front: it isn't the first, or something does
abbrev pub HasArgument : Bool → List Token → Type 0
HasArgument first ks = (first ≡ false) ⊎ HasOther ks

-- ---- what stands in front of the tokens, with the rest behind it

-- the token
abbrev pub StartsWith : Token → List Lexeme → List Lexeme → Type 0
StartsWith k ls rest = (tokens_seen ls ≡ k ∷ tokens_seen rest) × (length rest < length ls)

-- the token, and the rest has one token fewer
abbrev pub StepsOver : Token → List Lexeme → List Lexeme → Type 0
StepsOver k ls rest = (tokens_seen ls ≡ k ∷ tokens_seen rest) × (length ls ≡ length rest + 1)

-- a word of a length that a name may have
abbrev pub StartsWithName : List ℕ → List Lexeme → List Lexeme → Type 0
StartsWithName word ls rest = (tokens_seen ls ≡ Word word ∷ tokens_seen rest) × (length word ≤ name_limit) × (length rest < length ls)

-- a label of a length that it may have
abbrev pub StartsWithLabel : List ℕ → List Lexeme → List Lexeme → Type 0
StartsWithLabel label ls rest = StartsLabel (tokens_seen ls) label (tokens_seen rest) × (length label ≤ TEXT_LIMIT) × (length rest < length ls)

-- `$PIECE` with a `(` behind it
abbrev pub StartsWithPiece : List Lexeme → List Lexeme → Type 0
StartsWithPiece ls rest =
    (word : List ℕ) × (tokens_seen ls ≡ Called word ∷ tokens_seen rest) × (part_of (Called word) ≡ Some PieceCall) × (length rest < length ls)

-- a text in quotes, of a length that a text may have
abbrev pub StartsWithQuoted : List ℕ → List Lexeme → List Lexeme → Type 0
StartsWithQuoted value ls rest = (tokens_seen ls ≡ Quoted value ∷ tokens_seen rest) × (length value ≤ TEXT_LIMIT) × (length rest < length ls)

-- the word that makes a transaction SERIAL
abbrev pub StartsWithSerial : List Lexeme → List Lexeme → Type 0
StartsWithSerial ls rest =
    (word : List ℕ) × (tokens_seen ls ≡ Word word ∷ tokens_seen rest) × (is_serial_word word ≡ true) × (length rest < length ls)

-- digits in front are no longer than a text
abbrev pub IsLabelShort : List Token → Type 0
IsLabelShort (Digits d ∷ ks) = length d ≤ TEXT_LIMIT
IsLabelShort ks = Unit {0}

-- no label stands in front
abbrev pub IsUnlabelled : List Token → Type 0
IsUnlabelled (Word w ∷ ks) = ⊥
IsUnlabelled (Digits d ∷ ks) = ⊥
IsUnlabelled ks = Unit {0}

-- behind a label, or where nothing was read
abbrev pub label_spot : Option (List ℕ) → Spot
label_spot None = Begin
label_spot (Some label) = Labelled label

-- before these tokens nothing was read, and no label comes; or the label and the formals of such a line were
abbrev pub IsHead : List Token → Spot → Sentence → Type 0
IsHead ks p o = ((p ≡ Begin) × (o ≡ empty_line) × IsUnlabelled ks) ⊎ ((label : List ℕ) × (names : List (List ℕ)) × (p ≡ FormalsEnd label names) × (o ≡ headed label names))
