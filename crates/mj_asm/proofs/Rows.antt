-- Trees that lie in vectors, by the vectors' items.
use Rattle.std.proofs.Common.{◌≡◌, ℕ, ◌+◌, Option, Some, None, Box, Vec, Global, List, [], ◌∷◌, length, map, refl, sym, ap, ◌∙◌, arith}
use Rattle.mj_ast.specs.declared.expr.Expr as expr
use Rattle.mj_ast.specs.declared.expr.Expr.{out-Expr}
use Rattle.mj_ast.specs.declared.expr.Variable as variable
use Rattle.mj_ast.specs.declared.expr.Variable.{out-Variable}
use Rattle.mj_ast.specs.declared.expr.Choice as choice
use Rattle.mj_ast.specs.declared.expr.Choice.{out-Choice}
use Rattle.mj_ast.specs.declared.expr.Operand as operand
use Rattle.mj_ast.specs.declared.expr.Actual as actual
use Rattle.mj_ast.specs.declared.routine.Target as target
use Rattle.mj_ast.specs.declared.function.Function.{Function}
use Rattle.mj_ast.specs.declared.function.NameFunction.{NameFunction}
use Rattle.mj_ast.specs.Syntax.{Expr, Chain, Then, Call, About, Extrinsic, Var, More, as_actuals}
use Rattle.mj_ast.specs.Trees.{operand_of, expr_of, variable_of, choice_of, target_of, option_of, tail_row, expr_row, actual_row, actual_before, tails_of, exprs_of}
use Rattle.mj_pcode.specs.declared.instr.Instr.TheVariants.{SelectFails}
use Rattle.mj_asm.specs.Code.{count, reference, expr_code, choices_code, others_code}
use Rattle.mj_asm.proofs.Emitted.{choice_code}

tails_row : {m : _} (row : expr.Row_of-Tail m) → tail_row row ≡ tails_of (expr.items-the_row-Tail m row)
tails_row expr.end_of-Tail = refl
tails_row (expr.more_of-Tail op x rest) = ap (λ ts. Then op (operand_of x) ts) (tails_row rest)

pub expr_is : (e : expr.Expr) → expr_of e ≡ Chain (operand_of (out-Expr e).first) (tails_of (out-Expr e).rest.items)
unfolding out-Expr denote.Hole.Carrier.out
expr_is (expr.Expr' first shape row) = ap (Chain (operand_of first)) (tails_row row ∙ ap tails_of (sym (expr.items_shown-the_row-Tail-2 shape row)))

exprs_row : {m : _} (row : variable.Row_of-Expr m) → expr_row row ≡ exprs_of (variable.items-the_row-Expr m row)
exprs_row variable.end_of-Expr = refl
exprs_row (variable.more_of-Expr e rest) = ap (More (expr_of e)) (exprs_row rest)

-- a call
pub call_is : (f : Function) (v : Vec expr.Expr Global) → operand_of (operand.Call f v) ≡ Call f (exprs_of v.items)
call_is f v = ap (Call f) (exprs_row (actual.TheBlock.hidden-the_row-Expr-0 v) ∙ ap exprs_of (variable.items_hidden-the_row-Expr-0 v))

-- a function of a variable
pub about_is : (f : NameFunction) (x : variable.Variable) (v : Vec expr.Expr Global) → operand_of (operand.About f x v) ≡ About f (variable_of x) (exprs_of v.items)
about_is f x v = ap (About f (variable_of x)) (exprs_row (actual.TheBlock.hidden-the_row-Expr-0 v) ∙ ap exprs_of (variable.items_hidden-the_row-Expr-0 v))

before_is : (a : actual.Actual) (es : List (Option Expr)) → actual_before a (as_actuals es) ≡ as_actuals (option_of a ∷ es)
before_is (actual.Given e) es = refl
before_is actual.Omitted es = refl

actuals_row : {m : _} (row : operand.Row_of-Actual m) → actual_row row ≡ as_actuals (map option_of (operand.items-the_row-Actual m row))
actuals_row operand.end_of-Actual = refl
actuals_row (operand.more_of-Actual a rest) = ap (actual_before a) (actuals_row rest) ∙ before_is a _

-- a function that is written in M
pub extrinsic_is : (t : target.Target) (v : Vec actual.Actual Global) → operand_of (operand.Extrinsic t v) ≡ Extrinsic (target_of t) (as_actuals (map option_of v.items))
extrinsic_is t v =
    ap (Extrinsic (target_of t)) (actuals_row (actual.TheBlock.hidden-the_row-Actual-1 v) ∙ ap (λ l. as_actuals (map option_of l)) (operand.items_hidden-the_row-Actual-1 v))

-- a variable
pub variable_is : (v : variable.Variable) → variable_of v ≡ Var (out-Variable v).scope (out-Variable v).word (exprs_of (out-Variable v).subscripts.items)
unfolding out-Variable denote.Hole.Carrier.out
variable_is (variable.Variable' scope word shape row) = ap (Var scope word) (exprs_row row ∙ ap exprs_of (sym (variable.items_shown-the_row-Expr-0 shape row)))

-- how many
pub count_is : (es : List expr.Expr) → count (exprs_of es) ≡ length es
count_is [] = refl
count_is (e ∷ es) = omega (arith, count_is es)

-- a choice: its condition, its value, and those behind it
pub choice_is : (pc : ℕ) (x : choice.Choice) → choices_code pc (choice_of x) ≡ choice_code (pc + length (expr_code pc (expr_of (out-Choice x).condition)) + 1)
    (expr_code pc (expr_of (out-Choice x).condition)) (λ k. expr_code k (expr_of (out-Choice x).value)) (λ k. others_code k (choice_of x))
unfolding out-Choice denote.Hole.Carrier.out
choice_is pc (choice.Choice' c e choice.None') = refl
choice_is pc (choice.Choice' c e (choice.Some' p o)) = refl

pub others_none : (pc : ℕ) (x : choice.Choice) → (out-Choice x).others ≡ None → others_code pc (choice_of x) ≡ SelectFails ∷ []
unfolding out-Choice denote.Hole.Carrier.out
others_none pc (choice.Choice' c e choice.None') h = refl
others_none pc (choice.Choice' c e (choice.Some' p o)) h = absurd (some_none _ h)
  where
    some_none : {A : Type 0} (a : A) → Some a ≡ None → ⊥
    some_none a g = cc

pub others_some : (pc : ℕ) (x : choice.Choice) (b : Box choice.Choice Global) → (out-Choice x).others ≡ Some b → others_code pc (choice_of x) ≡ choices_code pc (choice_of b.value)
unfolding out-Choice denote.Hole.Carrier.out
others_some pc (choice.Choice' c e choice.None') b h = absurd (none_some _ h)
  where
    none_some : {A : Type 0} (a : A) → None ≡ Some a → ⊥
    none_some a g = cc
others_some pc (choice.Choice' c e (choice.Some' p o)) b h =
    ap (λ (q : Option (Box choice.Choice Global)). elim q [ None ↦ choices_code pc (choice_of o) | Some z ↦ choices_code pc (choice_of z.value) ]) h

-- how many subscripts
pub reference_count : (v : variable.Variable) → (reference (variable_of v)).count ≡ length (out-Variable v).subscripts.items
reference_count v = ap (λ x. (reference x).count) (variable_is v) ∙ count_is (out-Variable v).subscripts.items
