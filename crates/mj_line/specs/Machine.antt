-- Reads the tokens of a line from the left, one at a time: what was read, and what may come next.
use Rattle.std.specs.Prelude.{ℕ, ◌≡◌, ◌-◌, ◌==◌, nat_le, Bool, true, false, if◌then◌else◌, List, [], ◌∷◌, ◌++◌, length, Option, Some, None, suc, bytes_eq}
use Rattle.mj_ast.specs.declared.sign.Sign.TheVariants.{Caret, Colon, Comma, Open, Close, Dot}
use Rattle.std.specs.List.{list_any}
use Rattle.mj_ast.specs.declared.keyword.Keyword.{Keyword}
use Rattle.mj_ast.specs.declared.keyword.Verb.{Verb}
use Rattle.mj_ast.specs.Syntax.{Expr}
use Rattle.mj_ast.specs.Tokens.{Token, Word, Called, Special, Invoked, Digits, Signed, Blank, Comment}
use Rattle.mj_ast.specs.Expressions.{Symbol, Mark, symbol, name_limit}
use Rattle.mj_ast.specs.Commands.{Part, Text, Place, Control, verb_of, bare_of, meant, is_conditional}
use Rattle.mj_expr.specs.Machine as phrase
use Rattle.mj_line.specs.Forms.{Node, Want, AnExpr, AVar, ALocal, next_of, part_at, sort_of, takes, wants, ends, first_node, may_be_bare}
use Rattle.mj_line.specs.Sentences.{Clause, Sentence}

-- ---- spots between phrases

-- What was read of a line, and how many blanks have to stand before another command, and before a comment.
pub record Rest : Type 0 where
  pub line : Sentence
  pub gap : ℕ
  pub comment : ℕ

pub data Spot : Type 0 where
  -- nothing was read
  Begin : Spot
  -- a label was read
  Labelled : (label : List ℕ) → Spot
  -- and a `(`, behind which a name or `)` may stand
  FormalsOpened : (label : List ℕ) → Spot
  -- and these names, and a comma, behind which another name is wanted; no comma yet; a `)`
  FormalWanted : (label : List ℕ) (names : List (List ℕ)) → Spot
  FormalBehind : (label : List ℕ) (names : List (List ℕ)) → Spot
  FormalsEnd : (label : List ℕ) (names : List (List ℕ)) → Spot
  -- a label with its formals, or nothing; then a blank, and dots and blanks
  Indented : (l : Sentence) → Spot
  -- a command was read and what ends it, and blanks
  Behind : (r : Rest) → Spot
  -- a comment was read
  Over : (l : Sentence) → Spot
  -- the word of a command was read
  Worded : (l : Sentence) (verb : Verb) → Spot
  -- and the colon of a postcondition
  Asked : (l : Sentence) (verb : Verb) → Spot
  -- its postcondition was read too, if it has one
  Bare : (l : Sentence) (condition : Option Expr) (verb : Verb) → Spot
  -- and a blank, and parts of arguments up to a place in them
  Args : (l : Sentence) (condition : Option Expr) (verb : Verb) (done : List Part) (n : Node) → Spot

-- what a phrase is read for: a postcondition, or an argument
pub data Goal : Type 0 where
  Condition : (l : Sentence) (verb : Verb) → Goal
  Argument : (l : Sentence) (condition : Option Expr) (verb : Verb) (done : List Part) (w : Want) → Goal

pub data State : Type 0 where
  At : (p : Spot) → State
  -- inside a phrase
  In : (g : Goal) (s : phrase.State) → State

-- no line was read
abbrev pub empty_line : Sentence
empty_line = record { label = None; formals = []; level = 1; clauses = [] }

-- a line of a label alone
abbrev pub labelled : List ℕ → Sentence
labelled label = record { label = Some label; formals = []; level = 1; clauses = [] }

-- with formals
abbrev pub headed : List ℕ → List (List ℕ) → Sentence
headed label names = record { label = Some label; formals = names; level = 1; clauses = [] }

-- with another dot
abbrev pub dotted : Sentence → Sentence
dotted l = record { label = l.label; formals = l.formals; level = suc l.level; clauses = l.clauses }

abbrev pub clause : Option Expr → Keyword → List Part → Clause
clause condition keyword parts = record { condition = condition; keyword = keyword; parts = parts }

-- with another command
abbrev pub with_clause : Sentence → Clause → Sentence
with_clause l c = record { label = l.label; formals = l.formals; level = l.level; clauses = l.clauses ++ c ∷ [] }

-- behind a command without arguments
abbrev pub bare_rest : Sentence → Option Expr → Verb → Rest
bare_rest l condition verb = record { line = with_clause l (clause condition (bare_of verb) []); gap = 2; comment = 1 }

-- behind its arguments, or behind one blank where there are none
abbrev pub args_rest : Sentence → Option Expr → Verb → List Part → Rest
args_rest l condition verb done = record { line = with_clause l (clause condition (meant verb done) done); gap = 1; comment = 0 }

-- where an expression is wanted, and where a variable is
abbrev pub expression_wanted : phrase.State
expression_wanted = phrase.Wanted (phrase.Front phrase.Alone)

abbrev pub variable_wanted : phrase.State
variable_wanted = phrase.Sought phrase.AsTarget

abbrev pub wanted : Want → phrase.State
wanted (AnExpr level next) = expression_wanted
wanted (AVar level next) = variable_wanted
wanted (ALocal next) = variable_wanted

-- the beginning of a phrase that is read for this
abbrev pub start : Goal → phrase.State
start (Condition l verb) = expression_wanted
start (Argument l condition verb done w) = wanted w

-- no phrase begins directly behind this one
abbrev pub IsClosed : Goal → Type 0
IsClosed (Condition l verb) = Unit {0}
IsClosed (Argument l condition verb done w) = wants (next_of w) ≡ None

-- how many levels are open around it
abbrev pub level_of : Want → ℕ
level_of (AnExpr level next) = level
level_of (AVar level next) = level
level_of (ALocal next) = 0

abbrev pub level : Goal → ℕ
level (Condition l verb) = 0
level (Argument l condition verb done w) = level_of w

-- the limits inside them
abbrev pub inside : phrase.Limits → ℕ → phrase.Limits
inside m n = record { depth = m.depth - n; width = m.width }

-- the spot behind a phrase that was read for this; a phrase of another kind is none
abbrev pub behind_want : Sentence → Option Expr → Verb → List Part → Want → phrase.Phrase → Spot
behind_want l condition verb done (AnExpr level next) (phrase.Whole e) = Args l condition verb (done ++ Text level e ∷ []) next
behind_want l condition verb done (AVar level next) (phrase.Target v) = Args l condition verb (done ++ Place level v ∷ []) next
behind_want l condition verb done (ALocal next) (phrase.Target v) = Args l condition verb (done ++ Control v ∷ []) next
behind_want l condition verb done w p = Begin

abbrev pub behind_phrase : Goal → phrase.Phrase → Spot
behind_phrase (Condition l verb) (phrase.Whole e) = Bare l (Some e) verb
behind_phrase (Condition l verb) p = Begin
behind_phrase (Argument l condition verb done w) p = behind_want l condition verb done w p

abbrev pub bare_rested : Bool → Rest → Option Rest
bare_rested b r = if b then Some r else None

-- what the spot is where a command may end there, or none was begun
abbrev pub rested : Spot → Option Rest
rested Begin = Some (record { line = empty_line; gap = 1; comment = 0 })
rested (Labelled label) = Some (record { line = labelled label; gap = 1; comment = 1 })
rested (FormalsOpened label) = None
rested (FormalWanted label names) = None
rested (FormalBehind label names) = None
rested (FormalsEnd label names) = Some (record { line = headed label names; gap = 1; comment = 1 })
rested (Indented l) = Some (record { line = l; gap = 0; comment = 0 })
rested (Behind r) = Some r
rested (Over l) = None
rested (Worded l verb) = bare_rested (may_be_bare verb) (bare_rest l None verb)
rested (Asked l verb) = None
rested (Bare l condition verb) = bare_rested (may_be_bare verb) (bare_rest l condition verb)
rested (Args l condition verb done n) = bare_rested (ends n) (args_rest l condition verb done)

-- what a phrase may be read for there
abbrev pub argument : Sentence → Option Expr → Verb → List Part → Option Want → Option Goal
argument l condition verb done (Some w) = Some (Argument l condition verb done w)
argument l condition verb done None = None

abbrev pub entry : Spot → Option Goal
entry (Asked l verb) = Some (Condition l verb)
entry (Args l condition verb done n) = argument l condition verb done (wants n)
entry p = None

-- ---- steps

pub data Next : Type 0 where
  Go : (s : State) → Next
  Stuck : Next
  Deep : Next
  Long : Next

-- the arguments of a command, if it may have some
abbrev pub opened : Sentence → Option Expr → Verb → Option Node → Next
opened l condition verb (Some n) = Go (At (Args l condition verb [] n))
opened l condition verb None = Stuck

abbrev pub arguments : Sentence → Option Expr → Verb → Next
arguments l condition verb = opened l condition verb (first_node verb)

-- behind a part of one token
abbrev pub moved : Sentence → Option Expr → Verb → List Part → Option Node → Next
moved l condition verb done (Some n) = Go (At (Args l condition verb done n))
moved l condition verb done None = Stuck

abbrev pub taken : Sentence → Option Expr → Verb → List Part → Node → Option Part → Next
taken l condition verb done n (Some p) = moved l condition verb (done ++ p ∷ []) (takes n p)
taken l condition verb done n None = Stuck

-- a name of a length that a name may have, which is none of these
abbrev pub is_new : List (List ℕ) → List ℕ → Bool
is_new names w = if list_any (bytes_eq w) names then false else nat_le (length w) name_limit

-- another formal
abbrev pub formal : List ℕ → List (List ℕ) → List ℕ → Next
formal label names w = if is_new names w then Go (At (FormalBehind label (names ++ w ∷ []))) else Stuck

-- the tokens that only this spot goes on with
abbrev pub own : Spot → Token → Next
own Begin (Word w) = if nat_le (length w) name_limit then Go (At (Labelled w)) else Stuck
own Begin (Digits d) = Go (At (Labelled d))
own Begin Blank = Go (At (Indented empty_line))
own (Labelled label) (Signed Open) = Go (At (FormalsOpened label))
own (Labelled label) Blank = Go (At (Indented (labelled label)))
own (FormalsOpened label) (Word w) = formal label [] w
own (FormalsOpened label) (Signed Close) = Go (At (FormalsEnd label []))
own (FormalWanted label names) (Word w) = formal label names w
own (FormalBehind label names) (Signed Comma) = Go (At (FormalWanted label names))
own (FormalBehind label names) (Signed Close) = Go (At (FormalsEnd label names))
own (FormalsEnd label names) Blank = Go (At (Indented (headed label names)))
own (Indented l) Blank = Go (At (Indented l))
own (Indented l) (Signed Dot) = Go (At (Indented (dotted l)))
own (Worded l verb) (Signed Colon) = if is_conditional (bare_of verb) then Go (At (Asked l verb)) else Stuck
own (Worded l verb) Blank = arguments l None verb
own (Bare l condition verb) Blank = arguments l condition verb
own (Args l condition verb done n) t = taken l condition verb done n (part_at (sort_of n) t)
own p k = Stuck

-- a command begins
abbrev pub begins : Sentence → Option Verb → Next
begins l (Some verb) = Go (At (Worded l verb))
begins l None = Stuck

-- behind a command
abbrev pub on : Rest → Token → Next
on r Blank = Go (At (Behind (record { line = r.line; gap = r.gap - 1; comment = r.comment - 1 })))
on r (Comment text) = if r.comment == 0 then Go (At (Over r.line)) else Stuck
on r (Word w) = if r.gap == 0 then begins r.line (verb_of w) else Stuck
on r k = Stuck

abbrev pub on_rested : Option Rest → Token → Next
on_rested (Some r) k = on r k
on_rested None k = Stuck

-- the first that goes on
abbrev pub first : Next → Next → Next
first Stuck n = n
first n m = n

-- between phrases
abbrev pub spot_step : Spot → Token → Next
spot_step p k = first (own p k) (on_rested (rested p) k)

-- behind a phrase that is whole
abbrev pub behind_step : Goal → phrase.Outcome → Token → Next
behind_step g (phrase.Accept p rest) k = spot_step (behind_phrase g p) k
behind_step g o k = Stuck

-- inside a phrase, as the phrase steps
abbrev pub phrase_step : Goal → phrase.State → Token → phrase.Next → Next
phrase_step g s k (phrase.Go t) = Go (In g t)
phrase_step g s k phrase.Stuck = behind_step g (phrase.finish s []) k
phrase_step g s k phrase.Deep = Deep
phrase_step g s k phrase.Long = Long

abbrev pub in_step : phrase.Limits → Goal → phrase.State → Token → Next
in_step m g s k = phrase_step g s k (phrase.step (inside m (level g)) s (symbol k))

-- a local begins without a `^`
abbrev pub may_want : Want → Symbol → Bool
may_want (ALocal next) (Mark Caret) = false
may_want w x = true

-- what a phrase that is read for this may begin with
abbrev pub may_begin : Goal → Symbol → Bool
may_begin (Condition l verb) x = true
may_begin (Argument l condition verb done w) x = may_want w x

-- a phrase begins, if one may
abbrev pub entering : phrase.Limits → Option Goal → Token → Next
entering m (Some g) k = if may_begin g (symbol k) then in_step m g (start g) k else Stuck
entering m None k = Stuck

abbrev pub step : phrase.Limits → State → Token → Next
step m (At p) k = first (spot_step p k) (entering m (entry p) k)
step m (In g s) k = in_step m g s k

-- ---- runs

pub data Outcome : Type 0 where
  Accept : (l : Sentence) → Outcome
  -- how many tokens are left where none goes on
  StuckAt : (left : ℕ) → Outcome
  -- how many are left where a level too many opens
  DeepAt : (left : ℕ) → Outcome
  -- a word or a list is too long
  TooLong : Outcome

-- no line goes on here
abbrev pub refused : List Token → Outcome
refused [] = StuckAt 0
refused (Word w ∷ ks) = if nat_le (length w) name_limit then StuckAt (length (Word w ∷ ks)) else TooLong
refused (Called w ∷ ks) = if nat_le (length w) name_limit then StuckAt (length (Called w ∷ ks)) else TooLong
refused (Special w ∷ ks) = if nat_le (length w) name_limit then StuckAt (length (Special w ∷ ks)) else TooLong
refused (Invoked w ∷ ks) = if nat_le (length w) name_limit then StuckAt (length (Invoked w ∷ ks)) else TooLong
refused (k ∷ ks) = StuckAt (length (k ∷ ks))

-- where the tokens end
abbrev pub ended_at : Option Rest → Outcome
ended_at (Some r) = Accept r.line
ended_at None = StuckAt 0

abbrev pub ended_spot : Spot → Outcome
ended_spot (Over l) = Accept l
ended_spot p = ended_at (rested p)

abbrev pub ended_behind : Goal → phrase.Outcome → Outcome
ended_behind g (phrase.Accept p rest) = ended_spot (behind_phrase g p)
ended_behind g o = StuckAt 0

abbrev pub ended : State → Outcome
ended (At p) = ended_spot p
ended (In g s) = ended_behind g (phrase.finish s [])

abbrev pub goes : (State → Outcome) → Outcome → ℕ → Next → Outcome
goes run out left (Go s) = run s
goes run out left Stuck = out
goes run out left Deep = DeepAt left
goes run out left Long = TooLong

abbrev pub run : phrase.Limits → List Token → State → Outcome
run m [] s = ended s
run m (k ∷ ks) s = goes (run m ks) (refused (k ∷ ks)) (length (k ∷ ks)) (step m s k)

-- one step, and on
abbrev pub turn : phrase.Limits → List Token → Token → Next → Outcome
turn m ks k x = goes (run m ks) (refused (k ∷ ks)) (length (k ∷ ks)) x
