-- Reads symbols from the left, one at a time: what is open, and what may come next.
use Rattle.std.specs.Prelude.{ℕ, ◌+◌, List, [], ◌∷◌, length, nat_lt, nat_le, Bool, true, false, not, ◌&&◌, if◌then◌else◌, Option, Some, None}
use Rattle.mj_ast.specs.declared.sign.Sign.{Sign}
use Rattle.mj_ast.specs.declared.sign.Sign.TheVariants.{Plus, Minus, Star, Backslash, Hash, Slash, Underscore, Equals, Less, Greater, OpenBracket, CloseBracket, CloseBrackets, Ampersand, Exclamation, Apostrophe, Negated, Caret, Open, Close, Comma, Colon}
use Rattle.mj_ast.specs.declared.expr.Scope.{Scope}
use Rattle.mj_ast.specs.declared.expr.Scope.TheVariants.{Local, Global}
use Rattle.mj_oper.specs.declared.op.UnaryOp.{UnaryOp}
use Rattle.mj_oper.specs.declared.op.UnaryOp.TheVariants as unary
use Rattle.mj_oper.specs.declared.op.Op.{Op}
use Rattle.mj_oper.specs.declared.op.Op.TheVariants as binary
use Rattle.mj_oper.specs.declared.op.TruthOp.TheVariants as truth
use Rattle.mj_ast.specs.declared.function.Function.{Function}
use Rattle.mj_ast.specs.declared.function.NameFunction.{NameFunction}
use Rattle.mj_ast.specs.declared.function.Callee.{Callee}
use Rattle.mj_ast.specs.declared.function.Callee.TheVariants as callee
use Rattle.mj_ast.specs.Syntax.{Expr, Chain, Tails, Done, Then, Operand, Literal, Intrinsic, Value, Unary, Group, Call, About, Select, Extrinsic, Variable, Var, Exprs, No, More, Choices, Last, Before, Target as Entry, Actuals, NoActual, Given, Omitted}
use Rattle.mj_ast.specs.Expressions.{Symbol, Constant, Inherent, Name, Applied, Entry as EntrySymbol, Overlong, Mark, count, subscript_count, least, most, least_subscripts, most_others, levels}

-- the unary operator of a sign
abbrev pub unary_of : Sign → Option UnaryOp
unary_of Plus = Some unary.Plus
unary_of Minus = Some unary.Minus
unary_of Apostrophe = Some unary.Not
unary_of _ = None

-- the binary operator of a sign
abbrev pub binary_of : Sign → Option Op
binary_of Plus = Some binary.Add
binary_of Minus = Some binary.Subtract
binary_of Star = Some binary.Multiply
binary_of Backslash = Some binary.Quotient
binary_of Hash = Some binary.Remainder
binary_of Slash = Some binary.Divide
binary_of Underscore = Some binary.Join
binary_of Equals = Some (binary.Is truth.Equal)
binary_of Less = Some (binary.Is truth.Less)
binary_of Greater = Some (binary.Is truth.Greater)
binary_of OpenBracket = Some (binary.Is truth.Contains)
binary_of CloseBracket = Some (binary.Is truth.Follows)
binary_of CloseBrackets = Some (binary.Is truth.SortsAfter)
binary_of Ampersand = Some (binary.Is truth.And)
binary_of Exclamation = Some (binary.Is truth.Or)
binary_of (Negated op) = Some (binary.IsNot op)
binary_of _ = None

-- with another operator and its operand behind
abbrev pub and_then : Tails → Op → Operand → Tails
and_then Done op x = Then op x Done
and_then (Then o y rest) op x = Then o y (and_then rest op x)

-- with another expression behind
abbrev pub and_more : Exprs → Expr → Exprs
and_more No e = More e No
and_more (More f rest) e = More f (and_more rest e)

-- conditions with their values, in order, where more may follow
pub data Pairs : Type 0 where
  NoPairs : Pairs
  Pair : (condition value : Expr) (rest : Pairs) → Pairs

-- with another condition and its value behind
abbrev pub and_pair : Pairs → Expr → Expr → Pairs
and_pair NoPairs c e = Pair c e NoPairs
and_pair (Pair a b rest) c e = Pair a b (and_pair rest c e)

-- choices with others before them
abbrev pub before_choices : Pairs → Choices → Choices
before_choices NoPairs choices = choices
before_choices (Pair a b rest) choices = Before a b (before_choices rest choices)

-- with another actual behind
abbrev pub and_given : Actuals → Expr → Actuals
and_given NoActual e = Given e NoActual
and_given (Given f rest) e = Given f (and_given rest e)
and_given (Omitted rest) e = Omitted (and_given rest e)

-- with another one that is left out
abbrev pub and_omitted : Actuals → Actuals
and_omitted NoActual = Omitted NoActual
and_omitted (Given f rest) = Given f (and_omitted rest)
and_omitted (Omitted rest) = Omitted (and_omitted rest)

-- where a function begins
abbrev pub entry_at : Option (List ℕ) → Option (List ℕ) → Entry
entry_at label routine = record { label = label; routine = routine }

-- ---- what is open

mutual
  -- where an expression stands: alone, in parentheses, in a list behind those before it, behind the variable of a function, as
  -- a condition of `$SELECT` behind other choices, as the value of a condition, or as an actual behind those before it
  pub data Outer : Type 0 where
    Alone : Outer
    InGroup : (c : Within) → Outer
    InList : (w : Owner) (before : Exprs) → Outer
    InOther : (f : NameFunction) (v : Variable) (c : Within) → Outer
    InCondition : (before : Pairs) (c : Within) → Outer
    InChoice : (before : Pairs) (condition : Expr) (c : Within) → Outer
    InActuals : (t : Entry) (before : Actuals) (c : Within) → Outer

  -- what a list stands behind: the name of a variable, whose subscripts it has, or a function, whose arguments
  pub data Owner : Type 0 where
    Subscripts : (scope : Scope) (word : List ℕ) (p : Place) → Owner
    Arguments : (f : Function) (c : Within) → Owner

  -- where an operand stands: at the front of an expression, behind a binary operator, behind a unary one
  pub data Within : Type 0 where
    Front : (o : Outer) → Within
    Right : (first : Operand) (rest : Tails) (op : Op) (o : Outer) → Within
    Under : (op : UnaryOp) (c : Within) → Within

  -- where a variable stands: as an operand, as what a function is about, or alone
  pub data Place : Type 0 where
    AsOperand : (c : Within) → Place
    AsNamed : (f : NameFunction) (c : Within) → Place
    AsTarget : Place

-- how many levels are open there
abbrev mutual
  pub outer_depth : Outer → ℕ
  outer_depth Alone = 0
  outer_depth (InGroup c) = depth_of c + 1
  outer_depth (InList w before) = owner_depth w + 1
  outer_depth (InOther f v c) = depth_of c + 1
  outer_depth (InCondition before c) = depth_of c + 1
  outer_depth (InChoice before condition c) = depth_of c + 1
  outer_depth (InActuals t before c) = depth_of c + 1

  pub owner_depth : Owner → ℕ
  owner_depth (Subscripts scope word p) = place_depth p
  owner_depth (Arguments f c) = depth_of c

  pub depth_of : Within → ℕ
  depth_of (Front o) = outer_depth o
  depth_of (Right first rest op o) = outer_depth o
  depth_of (Under op c) = depth_of c + 1

  pub place_depth : Place → ℕ
  place_depth (AsOperand c) = depth_of c
  place_depth (AsNamed f c) = depth_of c + 1
  place_depth AsTarget = 0

-- the innermost expression that it stands in
abbrev pub outer_of : Within → Outer
outer_of (Front o) = o
outer_of (Right first rest op o) = o
outer_of (Under op c) = outer_of c

-- ---- states

pub data State : Type 0 where
  -- an operand is wanted
  Wanted : (c : Within) → State
  -- a variable is wanted
  Sought : (p : Place) → State
  -- a name is wanted, behind a `^`
  Marked : (p : Place) → State
  -- a name was read
  Named : (scope : Scope) (word : List ℕ) (p : Place) → State
  -- `$$` was read and the label of an entry, if one stands there, and its routine, if one stands there
  Entering : (label routine : Option (List ℕ)) (c : Within) → State
  -- the name of the routine is wanted, behind a `^`
  Routed : (label : Option (List ℕ)) (c : Within) → State
  -- a function was read, behind which a `(` is wanted
  Calling : (callee : Callee) (c : Within) → State
  -- the variable of a function was read
  Behind : (f : NameFunction) (v : Variable) (c : Within) → State
  -- an expression was read, which may go on
  Held : (first : Operand) (rest : Tails) (o : Outer) → State
  -- a variable was read, and that is all
  Got : (v : Variable) → State

-- an operand was read
abbrev pub filled : Operand → Within → State
filled x (Front o) = Held x Done o
filled x (Right first rest op o) = Held first (and_then rest op x) o
filled x (Under op c) = filled (Unary op x) c

-- a variable was read
abbrev pub placed : Variable → Place → State
placed v (AsOperand c) = filled (Value v) c
placed v (AsNamed f c) = Behind f v c
placed v AsTarget = Got v

-- a list was read
abbrev pub closed : Owner → Exprs → State
closed (Subscripts scope word p) es = placed (Var scope word es) p
closed (Arguments f c) es = filled (Call f es) c

-- an expression was read
abbrev pub held : Expr → Outer → State
held (Chain first rest) o = Held first rest o

-- ---- steps

-- how many levels may be open at once, and how many subscripts a list may have
pub record Limits : Type 0 where
  pub depth : ℕ
  pub width : ℕ

pub data Next : Type 0 where
  Go : (s : State) → Next
  Stuck : Next
  Deep : Next
  Long : Next

-- another level
abbrev pub opens : Limits → ℕ → State → Next
opens m depth s = if nat_lt depth m.depth then Go s else Deep

-- the levels of a function
abbrev pub opens_call : Limits → Callee → Within → Next
opens_call m callee c = if nat_le (depth_of c + levels callee) m.depth then Go (Calling callee c) else Deep

-- how many expressions a list has at least and at most
abbrev pub least_of : Owner → ℕ
least_of (Subscripts scope word p) = 0
least_of (Arguments f c) = least f

abbrev pub most_of : Limits → Owner → ℕ
most_of m (Subscripts scope word p) = m.width
most_of m (Arguments f c) = most f

-- whether one more than that is a list over its limit, and no mistake of grammar
abbrev pub is_limited : Owner → Bool
is_limited (Subscripts scope word p) = true
is_limited (Arguments f c) = false

-- the comma behind an expression
abbrev pub comma : Limits → Expr → Outer → Next
comma m e (InList w before) =
    if nat_lt (count before + 1) (most_of m w) then Go (Wanted (Front (InList w (and_more before e))))
    else if is_limited w then Long
    else Stuck
comma m e (InChoice before condition c) = Go (Wanted (Front (InCondition (and_pair before condition e) c)))
comma m e (InActuals t before c) = Go (Wanted (Front (InActuals t (and_given before e) c)))
comma m e _ = Stuck

-- the colon behind an expression
abbrev pub colon : Expr → Outer → Next
colon e (InCondition before c) = Go (Wanted (Front (InChoice before e c)))
colon e _ = Stuck

-- the list that it stands in is at its limit
abbrev pub is_full : Limits → Outer → Bool
is_full m (InList w before) = is_limited w && not (nat_lt (count before + 1) (most_of m w))
is_full m _ = false

-- a comma that stands where an operand is wanted
abbrev pub stray_comma : Limits → Outer → Next
stray_comma m o = if is_full m o then Long else Stuck

abbrev pub close : Expr → Outer → Next
close e Alone = Stuck
close e (InGroup c) = Go (filled (Group e) c)
close e (InList w before) = if nat_le (least_of w) (count before + 1) then Go (closed w (and_more before e)) else Stuck
close e (InOther f v c) = Go (filled (About f v (More e No)) c)
close e (InCondition before c) = Stuck
close e (InChoice before condition c) = Go (filled (Select (before_choices before (Last condition e))) c)
close e (InActuals t before c) = Go (filled (Extrinsic t (and_given before e)) c)

-- a comma or a `)` where an operand is wanted: an actual may be left out
abbrev pub comma_at : Limits → Within → Next
comma_at m (Front (InActuals t before c)) = Go (Wanted (Front (InActuals t (and_omitted before) c)))
comma_at m c = stray_comma m (outer_of c)

abbrev pub close_at : Within → Next
close_at (Front (InActuals t before c)) = Go (filled (Extrinsic t (and_omitted before)) c)
close_at c = Stuck

-- where an operand is wanted
abbrev pub want_other : Limits → Within → Sign → Next
want_other m c Caret = Go (Marked (AsOperand c))
want_other m c Open = opens m (depth_of c) (Wanted (Front (InGroup c)))
want_other m c Comma = comma_at m c
want_other m c Close = close_at c
want_other m c _ = Stuck

abbrev pub want_sign : Limits → Within → Sign → Option UnaryOp → Next
want_sign m c s (Some op) = opens m (depth_of c) (Wanted (Under op c))
want_sign m c s None = want_other m c s

abbrev pub want : Limits → Within → Symbol → Next
want m c (Constant value) = Go (filled (Literal value) c)
want m c (Inherent value) = Go (filled (Intrinsic value) c)
want m c (Name word) = Go (Named Local word (AsOperand c))
want m c (Applied callee) = opens_call m callee c
want m c (EntrySymbol label) = Go (Entering label None c)
want m c (Mark s) = want_sign m c s (unary_of s)
want m c _ = Stuck

-- where a variable is wanted
abbrev pub seek : Place → Symbol → Next
seek p (Name word) = Go (Named Local word p)
seek p (Mark Caret) = Go (Marked p)
seek p _ = Stuck

-- behind a `^`
abbrev pub is_full_in : Limits → Place → Bool
is_full_in m (AsOperand c) = is_full m (outer_of c)
is_full_in m (AsNamed f c) = false
is_full_in m AsTarget = false

abbrev pub after_caret : Limits → Place → Symbol → Next
after_caret m p (Name word) = Go (Named Global word p)
after_caret m p (Mark Comma) = if is_full_in m p then Long else Stuck
after_caret m p _ = Stuck

-- behind an expression
abbrev pub hold_other : Limits → Expr → Outer → Sign → Next
hold_other m e o Close = close e o
hold_other m e o Comma = comma m e o
hold_other m e o Colon = colon e o
hold_other m e o _ = Stuck

abbrev pub hold_sign : Limits → Operand → Tails → Outer → Sign → Option Op → Next
hold_sign m x r o s (Some op) = Go (Wanted (Right x r op o))
hold_sign m x r o s None = hold_other m (Chain x r) o s

abbrev pub hold : Limits → Operand → Tails → Outer → Symbol → Next
hold m x r o (Mark s) = hold_sign m x r o s (binary_of s)
hold m x r o _ = Stuck

-- the variable has subscripts enough
abbrev pub suffices : NameFunction → Variable → Bool
suffices f v = nat_le (least_subscripts f) (subscript_count v)

-- behind the variable of a function
abbrev pub after_variable : NameFunction → Variable → Within → Symbol → Next
after_variable f v c (Mark Close) = if suffices f v then Go (filled (About f v No) c) else Stuck
after_variable f v c (Mark Comma) = if suffices f v then (if nat_lt 0 (most_others f) then Go (Wanted (Front (InOther f v c))) else Stuck) else Stuck
after_variable f v c _ = Stuck

-- at a state behind an expression or a variable
abbrev pub on : Limits → State → Symbol → Next
on m (Held x r o) k = hold m x r o k
on m (Behind f v c) k = after_variable f v c k
on m _ k = Stuck

abbrev pub after_name : Limits → Scope → List ℕ → Place → Symbol → Next
after_name m scope word p (Mark Open) = opens m (place_depth p) (Wanted (Front (InList (Subscripts scope word p) No)))
after_name m scope word p k = on m (placed (Var scope word No) p) k

-- behind an entry: its actuals, or what stands behind a function without them
abbrev pub after_entry : Limits → Entry → Within → Symbol → Next
after_entry m t c (Mark Open) = opens m (depth_of c) (Wanted (Front (InActuals t NoActual c)))
after_entry m t c k = on m (filled (Extrinsic t NoActual) c) k

-- behind `$$` alone: a routine is wanted
abbrev pub after_dollars : Limits → Within → Symbol → Next
after_dollars m c (Mark Caret) = Go (Routed None c)
after_dollars m c (Mark Comma) = stray_comma m (outer_of c)
after_dollars m c k = Stuck

-- behind a label: a routine too
abbrev pub after_label : Limits → List ℕ → Within → Symbol → Next
after_label m l c (Mark Caret) = Go (Routed (Some l) c)
after_label m l c k = after_entry m (entry_at (Some l) None) c k

abbrev pub enter : Limits → Option (List ℕ) → Option (List ℕ) → Within → Symbol → Next
enter m None None c k = after_dollars m c k
enter m (Some l) None c k = after_label m l c k
enter m label (Some r) c k = after_entry m (entry_at label (Some r)) c k

-- where the name of a routine is wanted
abbrev pub after_routed : Limits → Option (List ℕ) → Within → Symbol → Next
after_routed m label c (Name word) = Go (Entering label (Some word) c)
after_routed m label c (Mark Comma) = stray_comma m (outer_of c)
after_routed m label c k = Stuck

-- behind a function
abbrev pub inside : Callee → Within → State
inside (callee.Texts f) c = Wanted (Front (InList (Arguments f c) No))
inside (callee.Names f) c = Sought (AsNamed f c)
inside callee.Select c = Wanted (Front (InCondition NoPairs c))

abbrev pub after_function : Limits → Callee → Within → Symbol → Next
after_function m callee c (Mark Open) = Go (inside callee c)
after_function m callee c _ = Stuck

abbrev pub step : Limits → State → Symbol → Next
step m (Wanted c) k = want m c k
step m (Sought p) k = seek p k
step m (Marked p) k = after_caret m p k
step m (Named scope word p) k = after_name m scope word p k
step m (Entering label routine c) k = enter m label routine c k
step m (Routed label c) k = after_routed m label c k
step m (Calling callee c) k = after_function m callee c k
step m (Behind f v c) k = after_variable f v c k
step m (Held x r o) k = hold m x r o k
step m (Got v) k = Stuck

-- ---- runs

pub data Phrase : Type 0 where
  Whole : (e : Expr) → Phrase
  Target : (v : Variable) → Phrase

pub data Outcome : Type 0 where
  -- the phrase, and what is left
  Accept : (phrase : Phrase) (rest : List Symbol) → Outcome
  -- how many symbols are left where none goes on
  StuckAt : (left : ℕ) → Outcome
  -- how many are left where a level too many opens
  DeepAt : (left : ℕ) → Outcome
  -- a word or a list is too long
  TooLong : Outcome

-- no phrase goes on here
abbrev pub refused : List Symbol → Outcome
refused [] = StuckAt 0
refused (Overlong ∷ ks) = TooLong
refused (k ∷ ks) = StuckAt (length (k ∷ ks))

-- no phrase goes on here, where an operand is wanted: in a list that is full, or in none
abbrev pub refused_in : Bool → List Symbol → Outcome
refused_in full (Mark Comma ∷ ks) = if full then TooLong else StuckAt (length (Mark Comma ∷ ks))
refused_in full ks = refused ks

abbrev pub ends : State → List Symbol → Outcome
ends (Held x r Alone) ks = Accept (Whole (Chain x r)) ks
ends (Got v) ks = Accept (Target v) ks
ends _ ks = refused ks

-- where no step goes on
abbrev pub finish : State → List Symbol → Outcome
finish (Named scope word p) ks = ends (placed (Var scope word No) p) ks
finish (Entering (Some l) routine c) ks = ends (filled (Extrinsic (entry_at (Some l) routine) NoActual) c) ks
finish (Entering None (Some r) c) ks = ends (filled (Extrinsic (entry_at None (Some r)) NoActual) c) ks
finish s ks = ends s ks

abbrev pub goes : (State → Outcome) → Outcome → ℕ → Next → Outcome
goes run out left (Go s) = run s
goes run out left Stuck = out
goes run out left Deep = DeepAt left
goes run out left Long = TooLong

abbrev pub run : Limits → List Symbol → State → Outcome
run m [] s = finish s []
run m (k ∷ ks) s = goes (run m ks) (finish s (k ∷ ks)) (length (k ∷ ks)) (step m s k)

-- one step, and on
abbrev pub turn : Limits → List Symbol → State → Symbol → Next → Outcome
turn m ks s k x = goes (run m ks) (finish s (k ∷ ks)) (length (k ∷ ks)) x
