-- What a function that reads a part of a line returns.
use Rattle.std.specs.Prelude.{ℕ, ◌≡◌, ◌<◌, ◌≤◌, List, ◌∷◌, length, map, Bool, true, false, Result, Ok, Err, Option, Some, None, option_map}
use Rattle.mj_ast.specs.declared.sign.Sign.TheVariants.{Caret, Open, Comma, Colon, Close}
use Rattle.mj_ast.specs.declared.sign.Sign.{Sign}
use Rattle.mj_oper.specs.declared.op.Op.{Op}
use Rattle.mj_ast.specs.Expressions.{Symbol, Constant, Inherent, Name, Applied, Entry, Mark, symbol, name_limit, width_limit, least, most}
use Rattle.std.specs.Borrow.{Bor}
use Rattle.mj_text.specs.declared.text.TheConstants.{TEXT_LIMIT}
use Rattle.mj_lex.specs.declared.token.Lexeme.{Lexeme}
use Rattle.mj_lex.specs.Seen.{tokens_seen}
use Rattle.mj_expr.specs.Machine.{Owner, Subscripts, Arguments, Limits, State, Phrase, Outcome, Accept, StuckAt, DeepAt, TooLong, run, unary_of, binary_of}
use Rattle.mj_expr.specs.declared.stop.ParseError.{ParseError}
use Rattle.mj_expr.specs.declared.stop.ParseError.TheVariants.{Stuck, Deep, Long, Memory}
use Rattle.mj_expr.specs.declared.token.ListKind.{ListKind}
use Rattle.mj_expr.specs.declared.token.ListKind.TheVariants as kind
use Rattle.mj_expr.specs.declared.token.Head.{Head}
use Rattle.mj_expr.specs.declared.token.Head.TheVariants as head

abbrev pub symbols_seen : List Lexeme → List Symbol
symbols_seen ls = map symbol (tokens_seen ls)

-- so many levels, and lists of the length that is allowed
abbrev pub limits : ℕ → Limits
limits depth = record { depth = depth; width = width_limit }

abbrev pub Refuses : ParseError → Outcome → Type 0
Refuses Memory o = Unit {0}
Refuses (Stuck left) o = o ≡ StuckAt left
Refuses (Deep left) o = o ≡ DeepAt left
Refuses Long o = o ≡ TooLong

-- The symbols are read on from the state: up to the rest with the state that holds the tree, or up to the refusal.
abbrev pub ReadsSymbols : {X T : Type 0} → (X → T) → (X → List Lexeme) → Result X ParseError → ℕ → List Lexeme → State → (T → State) → Type 0
ReadsSymbols tree rest (Ok x) d ls s holding = run (limits d) (symbols_seen ls) s ≡ run (limits d) (symbols_seen (rest x)) (holding (tree x))
ReadsSymbols tree rest (Err e) d ls s holding = Refuses e (run (limits d) (symbols_seen ls) s)

-- what a whole run gives
abbrev pub MachineGives : {X : Type 0} → (X → Phrase) → (X → List Lexeme) → Result X ParseError → Outcome → Type 0
MachineGives phrase rest (Ok x) o = o ≡ Accept (phrase x) (symbols_seen (rest x))
MachineGives phrase rest (Err e) o = Refuses e o

-- what a run over these tokens gives from the state, where so many levels may be opened
abbrev pub RunGives : {X : Type 0} → (X → Phrase) → (X → List Lexeme) → Result X ParseError → ℕ → List Lexeme → State → Type 0
RunGives phrase rest r d ls s = MachineGives phrase rest r (run (limits d) (symbols_seen ls) s)

-- the kind of a list, by what it stands behind
abbrev pub kind_of : Owner → ListKind
kind_of (Subscripts scope word p) = kind.Subscripts
kind_of (Arguments f c) = kind.Arguments f

-- how many expressions a list of the kind has at least and at most, and whether one more is a list over its limit
abbrev pub least_in : ListKind → ℕ
least_in kind.Subscripts = 0
least_in (kind.Arguments f) = least f

abbrev pub most_in : ListKind → ℕ
most_in kind.Subscripts = width_limit
most_in (kind.Arguments f) = most f

abbrev pub limited_in : ListKind → Bool
limited_in kind.Subscripts = true
limited_in (kind.Arguments f) = false

-- no operand begins with it
abbrev pub BeginsNone : Symbol → Type 0
BeginsNone (Constant value) = ⊥
BeginsNone (Inherent value) = ⊥
BeginsNone (Name word) = ⊥
BeginsNone (Applied callee) = ⊥
BeginsNone (Entry label) = ⊥
BeginsNone (Mark Caret) = ⊥
BeginsNone (Mark Open) = ⊥
BeginsNone (Mark s) = unary_of s ≡ None
BeginsNone _ = Unit {0}

-- the label of an entry by reference, if there is one
abbrev pub label_seen : Option (Bor (List ℕ)) → Option (List ℕ)
label_seen label = option_map (λ l. l.now) label

-- it is no longer than a text
abbrev pub IsLabelSize : Option (List ℕ) → Type 0
IsLabelSize None = Unit {0}
IsLabelSize (Some l) = length l ≤ TEXT_LIMIT

-- what an operand begins with, by its symbol
abbrev pub IsHead : Head → Symbol → Type 0
IsHead (head.Constant text) k = k ≡ Constant text
IsHead (head.Special v) k = k ≡ Inherent v
IsHead (head.Name word) k = (k ≡ Name word.now) × (length word.now ≤ 31)
IsHead (head.Callee callee) k = k ≡ Applied callee
IsHead (head.Entry label) k = (k ≡ Entry (label_seen label)) × IsLabelSize (label_seen label)
IsHead head.Caret k = k ≡ Mark Caret
IsHead head.Open k = k ≡ Mark Open
IsHead (head.Unary s op) k = (k ≡ Mark s) × (unary_of s ≡ Some op)
IsHead head.Nothing k = BeginsNone k

-- the sign of this binary operator stands in front
pub record StartsBinary (op : Op) (ks rest : List Symbol) : Type 0 where
  pub sign : Sign
  pub starts : ks ≡ Mark sign ∷ rest
  pub means : binary_of sign ≡ Some op

-- the symbol stands in front of the tokens, and the rest behind it
abbrev pub StartsWith : Symbol → List Lexeme → List Lexeme → Type 0
StartsWith k ls rest = (symbols_seen ls ≡ k ∷ symbols_seen rest) × (length rest < length ls)

-- a binary operator stands there
abbrev pub StartsWithBinary : Op → List Lexeme → List Lexeme → Type 0
StartsWithBinary op ls rest = StartsBinary op (symbols_seen ls) (symbols_seen rest) × (length rest < length ls)

-- a name that is no longer than a name may be stands there
abbrev pub StartsWithName : List ℕ → List Lexeme → List Lexeme → Type 0
StartsWithName word ls rest = (symbols_seen ls ≡ Name word ∷ symbols_seen rest) × (length rest < length ls) × (length word ≤ name_limit)

-- no binary operator stands in front
abbrev pub HasNoBinary : List Symbol → Type 0
HasNoBinary (Mark s ∷ ks) = binary_of s ≡ None
HasNoBinary _ = Unit {0}

-- no such sign stands in front
abbrev pub HasNoOpen : List Symbol → Type 0
HasNoOpen (Mark Open ∷ ks) = ⊥
HasNoOpen _ = Unit {0}

abbrev pub HasNoComma : List Symbol → Type 0
HasNoComma (Mark Comma ∷ ks) = ⊥
HasNoComma _ = Unit {0}

abbrev pub HasNoColon : List Symbol → Type 0
HasNoColon (Mark Colon ∷ ks) = ⊥
HasNoColon _ = Unit {0}

abbrev pub HasNoCaret : List Symbol → Type 0
HasNoCaret (Mark Caret ∷ ks) = ⊥
HasNoCaret _ = Unit {0}

abbrev pub HasNoClose : List Symbol → Type 0
HasNoClose (Mark Close ∷ ks) = ⊥
HasNoClose _ = Unit {0}

abbrev pub HasNoName : List Symbol → Type 0
HasNoName (Name word ∷ ks) = ⊥
HasNoName _ = Unit {0}
