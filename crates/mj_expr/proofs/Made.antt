-- The trees that the program makes, without where they lie in memory.
use Rattle.std.proofs.Common.{◌≡◌, ℕ, List, [], ◌∷◌, ◌++◌, length, refl, sym, ap, ◌∙◌, Vec, Box, Global, Option, Some, None, arith}
use mathlib.Core.Former.{Count}
use Rattle.mj_ast.specs.declared.expr.Scope.{Scope}
use Rattle.mj_ast.specs.declared.expr.Expr as expr
use Rattle.mj_ast.specs.declared.expr.Tail.{Tail}
use Rattle.mj_ast.specs.declared.expr.Operand as operand
use Rattle.mj_ast.specs.declared.expr.Actual as actual
use Rattle.mj_ast.specs.declared.routine.Target as target
use Rattle.mj_ast.specs.declared.expr.Variable as variable
use Rattle.mj_ast.specs.declared.expr.Variable.{out-Variable}
use Rattle.mj_ast.specs.declared.expr.Choice as choice
use Rattle.mj_ast.specs.declared.function.Function.{Function}
use Rattle.mj_ast.specs.Syntax.{Expr, Chain, Tails, Then, Call, Extrinsic, Var, Exprs, More, Before, Actuals, Given, Omitted}
use Rattle.mj_ast.specs.Trees.{operand_of, expr_of, variable_of, choice_of, target_of, option_of, actual_before, tail_row, expr_row, actual_row, tails_of, exprs_of, actuals_of}
use Rattle.mj_ast.specs.Expressions.{count, subscript_count}
use Rattle.mj_expr.specs.Machine.{and_then, and_more}
use Rattle.mj_expr.specs.Readers.{and_actual}

abbrev tails_in : expr.Expr → (n : Count) × expr.Row_of-Tail n
tails_in (expr.Expr' first shape row) = (_, row)

abbrev list_in : variable.Variable → (n : Count) × variable.Row_of-Expr n
list_in (variable.Variable' scope word shape row) = (_, row)

tail_row_items : (n : _) (row : expr.Row_of-Tail n) → tail_row row ≡ tails_of (expr.items-the_row-Tail n row)
tail_row_items n expr.end_of-Tail = refl
tail_row_items n (expr.more_of-Tail op x rest) = ap (λ (ts : Tails). Then op (operand_of x) ts) (tail_row_items _ rest)

expr_row_items : (n : _) (row : variable.Row_of-Expr n) → expr_row row ≡ exprs_of (variable.items-the_row-Expr n row)
expr_row_items n variable.end_of-Expr = refl
expr_row_items n (variable.more_of-Expr e rest) = ap (λ (es : Exprs). More (expr_of e) es) (expr_row_items _ rest)

-- an expression of an operand and a list of others
pub expr_made : (first : operand.Operand) (rest : Vec Tail Global) → expr_of (expr.roll-Expr (record { first = first; rest = rest })) ≡ Chain (operand_of first) (tails_of rest.items)
unfolding expr.roll-Expr denote.Hole.Carrier.roll
expr_made first rest =
    let row = tails_in (expr.roll-Expr (record { first = first; rest = rest })) in
    ap (λ (ts : Tails). Chain (operand_of first) ts) (tail_row_items row.0 row.1 ∙ ap tails_of (expr.items_hidden-the_row-Tail-2 rest))

-- a variable of its parts
pub variable_made : (scope : Scope) (word : List ℕ) (es : Vec expr.Expr Global) →
    variable_of (variable.roll-Variable (record { scope = scope; word = word; subscripts = es })) ≡ Var scope word (exprs_of es.items)
unfolding variable.roll-Variable denote.Hole.Carrier.roll
variable_made scope word es =
    let row = list_in (variable.roll-Variable (record { scope = scope; word = word; subscripts = es })) in
    ap (λ (xs : Exprs). Var scope word xs) (expr_row_items row.0 row.1 ∙ ap exprs_of (variable.items_hidden-the_row-Expr-0 es))

-- a call of its parts
pub call_made : (f : Function) (es : Vec expr.Expr Global) → Call f (expr_row (actual.TheBlock.hidden-the_row-Expr-0 es)) ≡ Call f (exprs_of es.items)
call_made f es = ap (Call f) (expr_row_items _ (actual.TheBlock.hidden-the_row-Expr-0 es) ∙ ap exprs_of (variable.items_hidden-the_row-Expr-0 es))

actual_row_items : (n : _) (row : operand.Row_of-Actual n) → actual_row row ≡ actuals_of (operand.items-the_row-Actual n row)
actual_row_items n operand.end_of-Actual = refl
actual_row_items n (operand.more_of-Actual a rest) = ap (actual_before a) (actual_row_items _ rest)

-- a function that is written in M, of its parts
pub extrinsic_made : (t : target.Target) (es : Vec actual.Actual Global) → operand_of (operand.Extrinsic t es) ≡ Extrinsic (target_of t) (actuals_of es.items)
extrinsic_made t es = ap (Extrinsic (target_of t)) (actual_row_items _ (actual.TheBlock.hidden-the_row-Actual-1 es) ∙ ap actuals_of (operand.items_hidden-the_row-Actual-1 es))

-- what stands behind the variable of a function
pub others_made : (es : Vec expr.Expr Global) → expr_row (actual.TheBlock.hidden-the_row-Expr-0 es) ≡ exprs_of es.items
others_made es = expr_row_items _ (actual.TheBlock.hidden-the_row-Expr-0 es) ∙ ap exprs_of (variable.items_hidden-the_row-Expr-0 es)

-- a choice before others
pub choice_made : (a e : expr.Expr) (others : Box choice.Choice Global) →
    choice_of (choice.roll-Choice (record { condition = a; value = e; others = Some others })) ≡ Before (expr_of a) (expr_of e) (choice_of others.value)
unfolding choice.roll-Choice denote.Hole.Carrier.roll
choice_made a e others = refl

-- another at the end
pub tails_push : (ts : List Tail) (t : Tail) → tails_of (ts ++ t ∷ []) ≡ and_then (tails_of ts) t.op (operand_of t.operand)
tails_push [] t = refl
tails_push (u ∷ ts) t = ap (λ (r : Tails). Then u.op (operand_of u.operand) r) (tails_push ts t)

pub exprs_push : (es : List expr.Expr) (e : expr.Expr) → exprs_of (es ++ e ∷ []) ≡ and_more (exprs_of es) (expr_of e)
exprs_push [] e = refl
exprs_push (f ∷ es) e = ap (λ (r : Exprs). More (expr_of f) r) (exprs_push es e)

given_first : (e : Expr) (es : Actuals) (o : Option Expr) → Given e (and_actual es o) ≡ and_actual (Given e es) o
given_first e es None = refl
given_first e es (Some f) = refl

omitted_first : (es : Actuals) (o : Option Expr) → Omitted (and_actual es o) ≡ and_actual (Omitted es) o
omitted_first es None = refl
omitted_first es (Some f) = refl

pub actuals_push : (es : List actual.Actual) (a : actual.Actual) → actuals_of (es ++ a ∷ []) ≡ and_actual (actuals_of es) (option_of a)
actuals_push [] (actual.Given e) = refl
actuals_push [] actual.Omitted = refl
actuals_push (actual.Given f ∷ es) a = ap (Given (expr_of f)) (actuals_push es a) ∙ given_first (expr_of f) (actuals_of es) (option_of a)
actuals_push (actual.Omitted ∷ es) a = ap Omitted (actuals_push es a) ∙ omitted_first (actuals_of es) (option_of a)

pub count_exprs : (es : List expr.Expr) → count (exprs_of es) ≡ length es
count_exprs [] = refl
count_exprs (e ∷ es) = let h = count_exprs es in omega arith

-- the subscripts of a variable
variable_is : (v : variable.Variable) → variable_of v ≡ Var (out-Variable v).scope (out-Variable v).word (exprs_of (out-Variable v).subscripts.items)
unfolding out-Variable denote.Hole.Carrier.out
variable_is (variable.Variable' scope word shape row) = ap (λ (es : Exprs). Var scope word es) (expr_row_items _ row ∙ ap exprs_of (sym (variable.items_shown-the_row-Expr-0 shape row)))

pub variable_count : (v : variable.Variable) → subscript_count (variable_of v) ≡ length (out-Variable v).subscripts.items
variable_count v = ap subscript_count (variable_is v) ∙ count_exprs (out-Variable v).subscripts.items
