-- Worked rows of the machine.
use Rattle.std.proofs.Common.{◌≡◌, ℕ, [], ◌∷◌, refl, map}
use Rattle.mj_ast.specs.declared.sign.Sign.TheVariants.{Plus, Minus, Star, Equals, CloseBrackets, Apostrophe, Negated, Caret, Open, Close, Comma, Colon}
use Rattle.mj_ast.specs.declared.expr.Scope.TheVariants.{Local, Global}
use Rattle.mj_oper.specs.declared.op.UnaryOp.TheVariants as unary
use Rattle.mj_oper.specs.declared.op.Op.TheVariants as binary
use Rattle.mj_oper.specs.declared.op.TruthOp.TheVariants as truth
use Rattle.mj_ast.specs.Syntax.{Chain, Done, Then, Literal, Intrinsic, Value, Unary, Group, Call, About, Var, No, More}
use Rattle.mj_ast.specs.declared.function.Function.TheVariants.{Length}
use Rattle.mj_ast.specs.declared.function.NameFunction.TheVariants as names
use Rattle.mj_ast.specs.declared.function.Special.TheVariants.{Io, Job, Test, TLevel, TRestart, X, Y}
use Rattle.mj_ast.specs.Tokens.{Token, Word, Called, Special, Quoted, Signed, Blank, Unclosed}
use Rattle.mj_ast.specs.Expressions.{symbol, expr_symbols, expr_nesting}
use Rattle.mj_expr.specs.declared.beyond.Around.TheVariants as around
use Rattle.mj_expr.specs.declared.beyond.Stage.TheVariants as stage
use Rattle.mj_expr.specs.Shapes.{Passes, Halts, pass}
use Rattle.mj_expr.specs.Machine.{Wanted, Sought, Front, Alone, AsTarget, Limits, Whole, Target, Accept, StuckAt, DeepAt, TooLong, run}

abbrev levels : ℕ → Limits
levels n = record { depth = n; width = 2 }

abbrev a : Token
a = Word (65 ∷ [])

-- `A+-"x"` is whole before a blank
whole_row : run (levels 1) (map symbol (a ∷ Signed Plus ∷ Signed Minus ∷ Quoted (120 ∷ []) ∷ Blank ∷ [])) (Wanted (Front Alone))
    ≡ Accept (Whole (Chain (Value (Var Local (65 ∷ []) No)) (Then binary.Add (Unary unary.Minus (Literal (120 ∷ []))) Done))) (map symbol (Blank ∷ []))
whole_row = refl

-- `A+A*A` is read from left to right, and `'A]]A'=A` too
left_row : run (levels 1) (map symbol (a ∷ Signed Plus ∷ a ∷ Signed Star ∷ a ∷ [])) (Wanted (Front Alone))
    ≡ Accept (Whole (Chain (Value (Var Local (65 ∷ []) No)) (Then binary.Add (Value (Var Local (65 ∷ []) No)) (Then binary.Multiply (Value (Var Local (65 ∷ []) No)) Done)))) []
left_row = refl

truth_row : run (levels 1) (map symbol (Signed Apostrophe ∷ a ∷ Signed CloseBrackets ∷ a ∷ Signed (Negated truth.Equal) ∷ a ∷ [])) (Wanted (Front Alone))
    ≡ Accept (Whole (Chain (Unary unary.Not (Value (Var Local (65 ∷ []) No)))
    (Then (binary.Is truth.SortsAfter) (Value (Var Local (65 ∷ []) No)) (Then (binary.IsNot truth.Equal) (Value (Var Local (65 ∷ []) No)) Done)))) []
truth_row = refl

-- `'=` and `'` behind an operand are stuck there
negated_row : run (levels 1) (map symbol (Signed (Negated truth.Equal) ∷ a ∷ [])) (Wanted (Front Alone)) ≡ StuckAt 2
negated_row = refl

apostrophe_row : run (levels 1) (map symbol (Signed Open ∷ a ∷ Signed Apostrophe ∷ a ∷ [])) (Wanted (Front Alone)) ≡ StuckAt 2
apostrophe_row = refl

-- `A+-"x"` opens a level too many at the `-` where none may be opened
deep_row : run (levels 0) (map symbol (a ∷ Signed Plus ∷ Signed Minus ∷ Quoted (120 ∷ []) ∷ [])) (Wanted (Front Alone)) ≡ DeepAt 2
deep_row = refl

-- `(A` is stuck at the end
open_row : run (levels 1) (map symbol (Signed Open ∷ a ∷ [])) (Wanted (Front Alone)) ≡ StuckAt 0
open_row = refl

-- `A(` and an unclosed quote are stuck at the quote
quote_row : run (levels 1) (map symbol (a ∷ Signed Open ∷ Unclosed (120 ∷ []) ∷ [])) (Wanted (Front Alone)) ≡ StuckAt 1
quote_row = refl

-- `^A=` is a variable before the `=`, and goes on as an expression
target_row : run (levels 1) (map symbol (Signed Caret ∷ a ∷ Signed Equals ∷ [])) (Sought AsTarget) ≡ Accept (Target (Var Global (65 ∷ []) No)) (map symbol (Signed Equals ∷ []))
target_row = refl

equals_row : run (levels 1) (map symbol (Signed Caret ∷ a ∷ Signed Equals ∷ [])) (Wanted (Front Alone)) ≡ StuckAt 0
equals_row = refl

-- `A(A,A` may have no third subscript, where lists have two
long_row : run (levels 1) (map symbol (a ∷ Signed Open ∷ a ∷ Signed Comma ∷ a ∷ Signed Comma ∷ [])) (Wanted (Front Alone)) ≡ TooLong
long_row = refl

-- nor where an operand is missing before the comma
missing_row : run (levels 1) (map symbol (a ∷ Signed Open ∷ a ∷ Signed Comma ∷ Signed Comma ∷ [])) (Wanted (Front Alone)) ≡ TooLong
missing_row = refl

-- `$L(A,A)` is a call, and no third argument may follow; `$F(A)` has too few
call_row : run (levels 1) (map symbol (Called (76 ∷ []) ∷ Signed Open ∷ a ∷ Signed Comma ∷ a ∷ Signed Close ∷ [])) (Wanted (Front Alone))
    ≡ Accept (Whole (Chain (Call Length (More (Chain (Value (Var Local (65 ∷ []) No)) Done) (More (Chain (Value (Var Local (65 ∷ []) No)) Done) No))) Done)) []
call_row = refl

many_row : run (levels 1) (map symbol (Called (76 ∷ []) ∷ Signed Open ∷ a ∷ Signed Comma ∷ a ∷ Signed Comma ∷ [])) (Wanted (Front Alone)) ≡ StuckAt 1
many_row = refl

few_row : run (levels 1) (map symbol (Called (70 ∷ []) ∷ Signed Open ∷ a ∷ Signed Close ∷ [])) (Wanted (Front Alone)) ≡ StuckAt 1
few_row = refl

-- `$S(A:A,` goes on with a condition; a function is deep where no level may be opened
select_row : run (levels 1) (map symbol (Called (115 ∷ []) ∷ Signed Open ∷ a ∷ Signed Colon ∷ a ∷ Signed Comma ∷ a ∷ Signed Close ∷ [])) (Wanted (Front Alone)) ≡ StuckAt 1
select_row = refl

deep_call_row : run (levels 0) (map symbol (Called (76 ∷ []) ∷ Signed Open ∷ a ∷ Signed Close ∷ [])) (Wanted (Front Alone)) ≡ DeepAt 4
deep_call_row = refl

-- `$G(^A,"x")` and `$D(A)` are read, with one level; the comma of `$D(A,` and what stands for a variable in `$D("x"` are stuck
get_row : run (levels 1) (map symbol (Called (71 ∷ []) ∷ Signed Open ∷ Signed Caret ∷ a ∷ Signed Comma ∷ Quoted (120 ∷ []) ∷ Signed Close ∷ [])) (Wanted (Front Alone))
    ≡ Accept (Whole (Chain (About names.Get (Var Global (65 ∷ []) No) (More (Chain (Literal (120 ∷ [])) Done) No)) Done)) []
get_row = refl

data_row : run (levels 1) (map symbol (Called (68 ∷ []) ∷ Signed Open ∷ a ∷ Signed Close ∷ Signed Plus ∷ a ∷ [])) (Wanted (Front Alone))
    ≡ Accept (Whole (Chain (About names.Data (Var Local (65 ∷ []) No) No) (Then binary.Add (Value (Var Local (65 ∷ []) No)) Done))) []
data_row = refl

data_comma_row : run (levels 1) (map symbol (Called (68 ∷ []) ∷ Signed Open ∷ a ∷ Signed Comma ∷ a ∷ Signed Close ∷ [])) (Wanted (Front Alone)) ≡ StuckAt 3
data_comma_row = refl

data_text_row : run (levels 1) (map symbol (Called (68 ∷ []) ∷ Signed Open ∷ Quoted (120 ∷ []) ∷ Signed Close ∷ [])) (Wanted (Front Alone)) ≡ StuckAt 2
data_text_row = refl

-- `$O(A(A),A)` takes two levels; without subscripts it is stuck behind its variable, and with one level it is deep at its word
order_row : run (levels 2) (map symbol (Called (79 ∷ []) ∷ Signed Open ∷ a ∷ Signed Open ∷ a ∷ Signed Close ∷ Signed Comma ∷ a ∷ Signed Close ∷ [])) (Wanted (Front Alone))
    ≡ Accept (Whole (Chain (About names.Order (Var Local (65 ∷ []) (More (Chain (Value (Var Local (65 ∷ []) No)) Done) No)) (More (Chain (Value (Var Local (65 ∷ []) No)) Done) No)) Done)) []
order_row = refl

bare_order_row : run (levels 2) (map symbol (Called (79 ∷ []) ∷ Signed Open ∷ Signed Caret ∷ a ∷ Signed Close ∷ [])) (Wanted (Front Alone)) ≡ StuckAt 1
bare_order_row = refl

bare_comma_row : run (levels 2) (map symbol (Called (79 ∷ []) ∷ Signed Open ∷ a ∷ Signed Comma ∷ a ∷ Signed Close ∷ [])) (Wanted (Front Alone)) ≡ StuckAt 3
bare_comma_row = refl

deep_order_row : run (levels 1) (map symbol (Called (79 ∷ []) ∷ Signed Open ∷ a ∷ [])) (Wanted (Front Alone)) ≡ DeepAt 3
deep_order_row = refl

-- the subscripts of a function's variable open a level too, and the 31st comma of a list counts there too
deep_query_row : run (levels 1) (map symbol (Called (81 ∷ []) ∷ Signed Open ∷ a ∷ Signed Open ∷ a ∷ [])) (Wanted (Front Alone)) ≡ DeepAt 2
deep_query_row = refl

long_query_row : run (levels 2) (map symbol (Called (81 ∷ []) ∷ Signed Open ∷ a ∷ Signed Open ∷ a ∷ Signed Comma ∷ a ∷ Signed Comma ∷ [])) (Wanted (Front Alone)) ≡ TooLong
long_query_row = refl

-- `A((B),"x")` as symbols, and how deep it nests
spelling_row : expr_symbols (Chain (Value (Var Local (65 ∷ []) (More (Chain (Group (Chain (Value (Var Local (66 ∷ []) No)) Done)) Done) (More (Chain (Literal (120 ∷ [])) Done) No)))) Done)
    ≡ map symbol (a ∷ Signed Open ∷ Signed Open ∷ Word (66 ∷ []) ∷ Signed Close ∷ Signed Comma ∷ Quoted (120 ∷ []) ∷ Signed Close ∷ [])
spelling_row = refl

nesting_row : expr_nesting (Chain (Value (Var Local (65 ∷ []) (More (Chain (Group (Chain (Value (Var Local (66 ∷ []) No)) Done)) Done) No))) Done) ≡ 2
nesting_row = refl

-- `-A+-B` nests one level deep
unary_row : expr_nesting (Chain (Unary unary.Minus (Value (Var Local (65 ∷ []) No))) (Then binary.Add (Unary unary.Minus (Value (Var Local (66 ∷ []) No))) Done)) ≡ 1
unary_row = refl

-- ---- without trees

-- `A+A ` goes up to the blank, and `^A=` as a variable up to the `=`
passed_row : pass (map symbol (a ∷ Signed Plus ∷ a ∷ Blank ∷ [])) stage.Operand around.Alone [] ≡ Passes (map symbol (Blank ∷ []))
passed_row = refl

passed_target_row : pass (map symbol (Signed Caret ∷ a ∷ Signed Equals ∷ [])) stage.Variable around.Target [] ≡ Passes (map symbol (Signed Equals ∷ []))
passed_target_row = refl

-- `$S(A:A)` is whole, `(A` is stuck at its end, and `A(A:` at the colon
passed_select_row : pass (map symbol (Called (115 ∷ []) ∷ Signed Open ∷ a ∷ Signed Colon ∷ a ∷ Signed Close ∷ [])) stage.Operand around.Alone [] ≡ Passes []
passed_select_row = refl

halted_row : pass (map symbol (Signed Open ∷ a ∷ [])) stage.Operand around.Alone [] ≡ Halts (StuckAt 0)
halted_row = refl

halted_colon_row : pass (map symbol (a ∷ Signed Open ∷ a ∷ Signed Colon ∷ [])) stage.Operand around.Alone [] ≡ Halts (StuckAt 1)
halted_colon_row = refl

-- `$t'=$TEST`: in any case, and without a `(`
special_row : run (levels 1) (map symbol (Special (116 ∷ []) ∷ Signed (Negated truth.Equal) ∷ Special (84 ∷ 69 ∷ 83 ∷ 84 ∷ []) ∷ Blank ∷ [])) (Wanted (Front Alone))
    ≡ Accept (Whole (Chain (Intrinsic Test) (Then (binary.IsNot truth.Equal) (Intrinsic Test) Done))) (map symbol (Blank ∷ []))
special_row = refl

-- `$j` and `$JOB`
job_row : run (levels 1) (map symbol (Special (106 ∷ []) ∷ Signed Plus ∷ Special (74 ∷ 79 ∷ 66 ∷ []) ∷ [])) (Wanted (Front Alone)) ≡
    Accept (Whole (Chain (Intrinsic Job) (Then binary.Add (Intrinsic Job) Done))) []
job_row = refl

-- `$io`, `$x` and `$Y`
device_row : run (levels 1) (map symbol (Special (105 ∷ 111 ∷ []) ∷ Signed Plus ∷ Special (120 ∷ []) ∷ Signed Plus ∷ Special (89 ∷ []) ∷ [])) (Wanted (Front Alone))
    ≡ Accept (Whole (Chain (Intrinsic Io) (Then binary.Add (Intrinsic X) (Then binary.Add (Intrinsic Y) Done)))) []
device_row = refl

-- `$TL` and `$trestart`
transaction_row : run (levels 1) (map symbol (Special (84 ∷ 76 ∷ []) ∷ Signed Plus ∷ Special (116 ∷ 114 ∷ 101 ∷ 115 ∷ 116 ∷ 97 ∷ 114 ∷ 116 ∷ []) ∷ [])) (Wanted (Front Alone))
    ≡ Accept (Whole (Chain (Intrinsic TLevel) (Then binary.Add (Intrinsic TRestart) Done))) []
transaction_row = refl

-- `$L` alone is no operand
no_special_row : run (levels 1) (map symbol (Special (76 ∷ []) ∷ [])) (Wanted (Front Alone)) ≡ StuckAt 1
no_special_row = refl
