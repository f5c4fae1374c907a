-- What is open around a place, and what may come there, without trees: enough to say where a phrase ends that nests however deep.
use Rattle.std.specs.Prelude.{ℕ, ◌≡◌, ◌+◌, ◌<◌, nat_lt, nat_le, Bool, true, false, not, ◌&&◌, if◌then◌else◌, List, [], ◌∷◌, ◌++◌, Option, Some, None, Result, Ok, Err, reverse, length}
use Rattle.mj_ast.specs.declared.sign.Sign.{Sign}
use Rattle.mj_ast.specs.declared.sign.Sign.TheVariants.{Caret, Open, Close, Comma, Colon}
use Rattle.mj_oper.specs.declared.op.UnaryOp.{UnaryOp}
use Rattle.mj_oper.specs.declared.op.Op.{Op}
use Rattle.mj_ast.specs.declared.function.Callee.{Callee}
use Rattle.mj_ast.specs.declared.function.Callee.TheVariants as callee
use Rattle.mj_ast.specs.Tokens.{Token}
use Rattle.mj_ast.specs.Expressions.{Symbol, Constant, Inherent, Name, Applied, Entry, Overlong, Mark, Other, count, width_limit, least_subscripts, most_others}
use Rattle.mj_lex.specs.declared.token.Lexeme.{Lexeme}
use Rattle.mj_expr.specs.Machine as machine
use Rattle.mj_expr.specs.Machine.{unary_of, binary_of, Limits, State, run, Phrase, Outcome, Accept, StuckAt, TooLong, refused}
use Rattle.mj_expr.specs.Reads.{kind_of, least_in, most_in, limited_in, symbols_seen}
use Rattle.mj_expr.specs.declared.stop.ParseError.{ParseError}
use Rattle.mj_expr.specs.declared.stop.ParseError.TheVariants.{Stuck, Deep, Long, Memory}
use Rattle.mj_expr.specs.declared.token.ListKind.TheVariants as kind
use Rattle.mj_expr.specs.declared.beyond.Around.{Around}
use Rattle.mj_expr.specs.declared.beyond.Around.TheVariants as around
use Rattle.mj_expr.specs.declared.beyond.Stage.{Stage}
use Rattle.mj_expr.specs.declared.beyond.Stage.TheVariants as stage
use Rattle.mj_expr.specs.declared.beyond.Sort.{Sort}
use Rattle.mj_expr.specs.declared.beyond.Sort.TheVariants as sort
use Rattle.mj_expr.specs.declared.beyond.Turn.{Turn}
use Rattle.mj_expr.specs.declared.beyond.Turn.TheVariants as turn

-- ---- shapes of states

-- the innermost of what is open, and what is open around it, from the inside; the last is what the phrase is in the end
pub record Shape : Type 0 where
  pub around : Around
  pub others : List Around

abbrev pub opened_in : Around → Shape → Shape
opened_in a s = record { around = a; others = s.around ∷ s.others }

abbrev pub bare_shape : Around → Shape
bare_shape a = record { around = a; others = [] }

abbrev mutual
  pub outer_shape : machine.Outer → Shape
  outer_shape machine.Alone = bare_shape around.Alone
  outer_shape (machine.InGroup c) = opened_in around.Group (shape_of c)
  outer_shape (machine.InList w before) = opened_in (around.List (kind_of w) (count before + 1)) (owner_shape w)
  outer_shape (machine.InOther f v c) = opened_in around.Group (shape_of c)
  outer_shape (machine.InCondition before c) = opened_in around.Condition (shape_of c)
  outer_shape (machine.InChoice before condition c) = opened_in around.Choice (shape_of c)
  outer_shape (machine.InActuals t before c) = opened_in around.Actuals (shape_of c)

  pub owner_shape : machine.Owner → Shape
  owner_shape (machine.Subscripts scope word p) = place_shape p
  owner_shape (machine.Arguments f c) = shape_of c

  pub shape_of : machine.Within → Shape
  shape_of (machine.Front o) = outer_shape o
  shape_of (machine.Right first rest op o) = outer_shape o
  shape_of (machine.Under op c) = shape_of c

  pub place_shape : machine.Place → Shape
  place_shape (machine.AsOperand c) = shape_of c
  place_shape (machine.AsNamed f c) = opened_in (around.About f) (shape_of c)
  place_shape machine.AsTarget = bare_shape around.Target

abbrev pub state_shape : machine.State → Shape
state_shape (machine.Wanted c) = shape_of c
state_shape (machine.Sought p) = place_shape p
state_shape (machine.Marked p) = place_shape p
state_shape (machine.Named scope word p) = place_shape p
state_shape (machine.Entering label routine c) = shape_of c
state_shape (machine.Routed label c) = shape_of c
state_shape (machine.Calling f c) = shape_of c
state_shape (machine.Behind f v c) = opened_in (around.About f) (shape_of c)
state_shape (machine.Held x r o) = outer_shape o
state_shape (machine.Got v) = bare_shape around.Target

-- what may come where an operand is wanted: an actual may be left out
abbrev pub wanted_stage : machine.Within → Stage
wanted_stage (machine.Front (machine.InActuals t before c)) = stage.Actual
wanted_stage c = stage.Operand

-- what may come behind `$$`, a label and a routine, as far as these stand there
abbrev pub entry_stage : Option (List ℕ) → Option (List ℕ) → Stage
entry_stage None None = stage.Entry
entry_stage (Some l) None = stage.Label
entry_stage label (Some r) = stage.Actuals

-- what may come at a state
abbrev pub stage_of : machine.State → Stage
stage_of (machine.Wanted c) = wanted_stage c
stage_of (machine.Entering label routine c) = entry_stage label routine
stage_of (machine.Routed label c) = stage.Routine
stage_of (machine.Sought p) = stage.Variable
stage_of (machine.Marked p) = stage.Name
stage_of (machine.Named scope word p) = stage.Subscripts
stage_of (machine.Calling f c) = stage.Arguments f
stage_of (machine.Behind f v c) = stage.Behind
stage_of (machine.Held x r o) = stage.Behind
stage_of (machine.Got v) = stage.Behind

-- ---- steps of shapes

-- what a symbol is, without what it stands for
abbrev pub sort_of : Symbol → Sort
sort_of (Constant value) = sort.Constant
sort_of (Inherent value) = sort.Constant
sort_of (Name word) = sort.Name
sort_of (Applied f) = sort.Callee f
sort_of (Entry None) = sort.Entry false
sort_of (Entry (Some l)) = sort.Entry true
sort_of (Mark s) = sort.Sign s
sort_of Overlong = sort.Other
sort_of Other = sort.Other

-- a comma where an operand is wanted: it can't stand there, and may be one too many
abbrev pub stray_turn : Around → Turn
stray_turn (around.List k n) = if limited_in k && not (nat_lt n (most_in k)) then turn.Long else turn.Stuck
stray_turn a = turn.Stuck

-- behind an expression in what is open, or behind the variable of a function
abbrev pub comma_turn : Around → Turn
comma_turn (around.List k n) =
    if nat_lt n (most_in k) then turn.Goes stage.Operand (around.List k (n + 1))
    else if limited_in k then turn.Long
    else turn.Stuck
comma_turn (around.About f) = if nat_lt 0 (most_others f) then turn.Goes stage.Operand around.Group else turn.Stuck
comma_turn around.Choice = turn.Goes stage.Operand around.Condition
comma_turn around.Actuals = turn.Goes stage.Actual around.Actuals
comma_turn a = turn.Stuck

abbrev pub close_turn : Around → Turn
close_turn around.Group = turn.Closes
close_turn (around.List k n) = if nat_le (least_in k) n then turn.Closes else turn.Stuck
close_turn around.Choice = turn.Closes
close_turn around.Actuals = turn.Closes
close_turn (around.About f) = turn.Closes
close_turn a = turn.Stuck

abbrev pub colon_turn : Around → Turn
colon_turn around.Condition = turn.Goes stage.Operand around.Choice
colon_turn a = turn.Stuck

abbrev pub other_turn : Around → Sign → Turn
other_turn a Close = close_turn a
other_turn a Comma = comma_turn a
other_turn a Colon = colon_turn a
other_turn a s = turn.Stuck

-- a binary operator goes on, but not behind a variable that is wanted alone, or by a function
abbrev pub joined_turn : Around → Turn
joined_turn around.Target = turn.Stuck
joined_turn (around.About f) = turn.Stuck
joined_turn a = turn.Goes stage.Operand a

abbrev pub behind_sign : Around → Sign → Option Op → Turn
behind_sign a s (Some op) = joined_turn a
behind_sign a s None = other_turn a s

abbrev pub behind_turn : Around → Sort → Turn
behind_turn a (sort.Sign s) = behind_sign a s (binary_of s)
behind_turn a k = turn.Stuck

-- where an operand is wanted
abbrev pub operand_other : Around → Sign → Turn
operand_other a Caret = turn.Goes stage.Name a
operand_other a Open = turn.Opens stage.Operand around.Group
operand_other a Comma = stray_turn a
operand_other a s = turn.Stuck

abbrev pub operand_sign : Around → Sign → Option UnaryOp → Turn
operand_sign a s (Some op) = turn.Goes stage.Operand a
operand_sign a s None = operand_other a s

abbrev pub operand_turn : Around → Sort → Turn
operand_turn a sort.Constant = turn.Goes stage.Behind a
operand_turn a sort.Name = turn.Goes stage.Subscripts a
operand_turn a (sort.Callee f) = turn.Goes (stage.Arguments f) a
operand_turn a (sort.Entry true) = turn.Goes stage.Label a
operand_turn a (sort.Entry false) = turn.Goes stage.Entry a
operand_turn a (sort.Sign s) = operand_sign a s (unary_of s)
operand_turn a sort.Other = turn.Stuck

-- where an actual may stand
abbrev pub actual_turn : Around → Sort → Turn
actual_turn a (sort.Sign Comma) = turn.Goes stage.Actual a
actual_turn a (sort.Sign Close) = turn.Closes
actual_turn a k = operand_turn a k

-- behind an entry
abbrev pub actuals_turn : Around → Sort → Turn
actuals_turn a (sort.Sign Open) = turn.Opens stage.Actual around.Actuals
actuals_turn a k = behind_turn a k

-- behind `$$` alone
abbrev pub entry_turn : Around → Sort → Turn
entry_turn a (sort.Sign Caret) = turn.Goes stage.Routine a
entry_turn a (sort.Sign Comma) = stray_turn a
entry_turn a k = turn.Stuck

-- behind `$$` and a label
abbrev pub label_turn : Around → Sort → Turn
label_turn a (sort.Sign Caret) = turn.Goes stage.Routine a
label_turn a k = actuals_turn a k

-- where the name of a routine is wanted
abbrev pub routine_turn : Around → Sort → Turn
routine_turn a sort.Name = turn.Goes stage.Actuals a
routine_turn a (sort.Sign Comma) = stray_turn a
routine_turn a k = turn.Stuck

-- where a variable is wanted
abbrev pub variable_turn : Around → Sort → Turn
variable_turn a sort.Name = turn.Goes stage.Subscripts a
variable_turn a (sort.Sign Caret) = turn.Goes stage.Name a
variable_turn a k = turn.Stuck

-- behind a `^`
abbrev pub name_turn : Around → Sort → Turn
name_turn a sort.Name = turn.Goes stage.Subscripts a
name_turn a (sort.Sign Comma) = stray_turn a
name_turn a k = turn.Stuck

-- behind a function
abbrev pub inside : Callee → Turn
inside (callee.Texts f) = turn.Opens stage.Operand (around.List (kind.Arguments f) 1)
inside (callee.Names f) = turn.Opens stage.Variable (around.About f)
inside callee.Select = turn.Opens stage.Operand around.Condition

abbrev pub arguments_turn : Callee → Sort → Turn
arguments_turn f (sort.Sign Open) = inside f
arguments_turn f k = turn.Stuck

-- a variable without subscripts goes on there
abbrev pub bare_goes : Around → Bool
bare_goes (around.About f) = nat_le (least_subscripts f) 0
bare_goes a = true

abbrev pub bare_turn : Around → Sort → Turn
bare_turn a k = if bare_goes a then behind_turn a k else turn.Stuck

-- behind a name
abbrev pub subscripts_turn : Around → Sort → Turn
subscripts_turn a (sort.Sign Open) = turn.Opens stage.Operand (around.List kind.Subscripts 1)
subscripts_turn a k = bare_turn a k

abbrev pub turn_at : Stage → Around → Sort → Turn
turn_at stage.Variable a k = variable_turn a k
turn_at stage.Operand a k = operand_turn a k
turn_at stage.Name a k = name_turn a k
turn_at (stage.Arguments f) a k = arguments_turn f k
turn_at stage.Subscripts a k = subscripts_turn a k
turn_at stage.Behind a k = behind_turn a k
turn_at stage.Actual a k = actual_turn a k
turn_at stage.Actuals a k = actuals_turn a k
turn_at stage.Entry a k = entry_turn a k
turn_at stage.Label a k = label_turn a k
turn_at stage.Routine a k = routine_turn a k

-- ---- runs of shapes

pub data Passed : Type 0 where
  -- a phrase ends before the rest
  Passes : (rest : List Symbol) → Passed
  -- none does
  Halts : (o : Outcome) → Passed

-- a phrase may end there
abbrev pub may_end : Stage → Bool
may_end stage.Subscripts = true
may_end stage.Behind = true
may_end stage.Label = true
may_end stage.Actuals = true
may_end s = false

abbrev pub is_last : Around → Bool
is_last around.Alone = true
is_last around.Target = true
is_last a = false

-- where no turn goes on
abbrev pub ended : Stage → Around → List Symbol → Passed
ended s a ks = if may_end s && is_last a then Passes ks else Halts (refused ks)

-- where a turn leads
pub data Led : Type 0 where
  To : (s : Stage) (a : Around) (others : List Around) → Led
  Nowhere : Led
  Beyond : Led

abbrev pub closed : List Around → Led
closed [] = Nowhere
closed (outer ∷ others) = To stage.Behind outer others

-- what is open is innermost `a`, and then the others
abbrev pub led : Around → List Around → Turn → Led
led a others (turn.Goes s inner) = To s inner others
led a others (turn.Opens s inner) = To s inner (a ∷ others)
led a others turn.Closes = closed others
led a others turn.Stuck = Nowhere
led a others turn.Long = Beyond

abbrev pub on_from : (Stage → Around → List Around → Passed) → Passed → Led → Passed
on_from go end (To s a others) = go s a others
on_from go end Nowhere = end
on_from go end Beyond = Halts TooLong

abbrev pub pass : List Symbol → Stage → Around → List Around → Passed
pass [] s a others = ended s a []
pass (k ∷ ks) s a others = on_from (pass ks) (ended s a (k ∷ ks)) (led a others (turn_at s a (sort_of k)))

-- ---- what a call returns

-- where the turn leads; the list that the program keeps has the innermost last
abbrev pub IsLed : Result (Option (Stage × Around)) ParseError → List Around → Led → Type 0
IsLed (Ok (Some to)) others l = l ≡ To to.0 to.1 (reverse others)
IsLed (Ok None) others l = l ≡ Nowhere
IsLed (Err Memory) others l = Unit {0}
IsLed (Err (Stuck left)) others l = ⊥
IsLed (Err (Deep left)) others l = ⊥
IsLed (Err Long) others l = l ≡ Beyond

-- one place on, or where no phrase goes on
abbrev pub IsAdvanced : {X : Type 0} → (X → List Lexeme) → Result (Option (Stage × Around × X)) ParseError → List Symbol → List Around → Passed → Stage → Around → Type 0
IsAdvanced rest (Ok (Some to)) ks others p s a = p ≡ pass (symbols_seen (rest to.2)) to.0 to.1 (reverse others)
IsAdvanced rest (Ok None) ks others p s a = p ≡ ended s a ks
IsAdvanced rest (Err Memory) ks others p s a = Unit {0}
IsAdvanced rest (Err (Stuck left)) ks others p s a = ⊥
IsAdvanced rest (Err (Deep left)) ks others p s a = ⊥
IsAdvanced rest (Err Long) ks others p s a = p ≡ Halts TooLong

-- one place on from here, by a token in front, or where no phrase goes on
abbrev pub AdvancesFrom : {X : Type 0} → (X → List Lexeme) → Result (Option (Stage × Around × X)) ParseError → List Symbol → List Around → List Around → Stage → Around → Type 0
AdvancesFrom rest r ks old new s a = IsAdvanced rest r ks new (pass ks s a (reverse old)) s a

-- as shapes go
abbrev pub PassesAs : {X : Type 0} → (X → List Lexeme) → Result X ParseError → Passed → Type 0
PassesAs rest (Ok x) p = p ≡ Passes (symbols_seen (rest x))
PassesAs rest (Err Memory) p = Unit {0}
PassesAs rest (Err (Stuck left)) p = p ≡ Halts (StuckAt left)
PassesAs rest (Err (Deep left)) p = ⊥
PassesAs rest (Err Long) p = p ≡ Halts TooLong

-- the rest is the end of the tokens
abbrev pub IsEndOf : List Token → List Token → Type 0
IsEndOf ks rest = (front : List Token) × (ks ≡ front ++ rest)

-- as the machine goes, where no level is too deep
abbrev pub MachineEnds : {X T : Type 0} → (T → Phrase) → (X → List Lexeme) → Result X ParseError → Outcome → Type 0
MachineEnds {T = T} phrase rest (Ok x) o = (t : T) × (o ≡ Accept (phrase t) (symbols_seen (rest x)))
MachineEnds phrase rest (Err Memory) o = Unit {0}
MachineEnds phrase rest (Err (Stuck left)) o = o ≡ StuckAt left
MachineEnds phrase rest (Err (Deep left)) o = ⊥
MachineEnds phrase rest (Err Long) o = o ≡ TooLong

-- as the machine goes from the state, under every limit on levels that these tokens can't reach
abbrev pub EndsFrom : {X T : Type 0} → (T → Phrase) → (X → List Lexeme) → Result X ParseError → List Lexeme → State → Type 0
EndsFrom phrase rest r ls s = (m : Limits) → m.width ≡ width_limit → length ls < m.depth → MachineEnds phrase rest r (run m (symbols_seen ls) s)
