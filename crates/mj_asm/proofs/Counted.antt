-- There is an instruction for each operand at least, so that operands can be counted where instructions can.
use Rattle.std.proofs.Common.{ℕ, ◌+◌, ◌≤◌, List, [], ◌∷◌, ◌++◌, length, arith, length-append}
use Rattle.mj_ast.specs.Syntax.{Expr, Chain, Operand, Literal, Value, Intrinsic, Unary, Group, Call, About, Select, Extrinsic, Variable, Var, Exprs, No, More, Last, Before, Destination, Plain, Pieces}
use Rattle.mj_pcode.specs.declared.instr.Instr.{Instr}
use Rattle.mj_pcode.specs.declared.instr.Instr.TheVariants as instr
use Rattle.mj_asm.specs.Code.{count, reference, expr_code, tails_code, operand_code, subscripts_code, exprs_code, actuals_code, shape_of, plain_shape, kept_target, size, sizes, destination_code, destinations_code}

-- a list with something in the middle isn't empty
middle : (a : List Instr) (i : Instr) (b : List Instr) → 1 ≤ length (a ++ i ∷ b)
middle a i b = omega (arith, length-append a (i ∷ b))

mutual
  pub expr_some : (pc : ℕ) (e : Expr) → 1 ≤ length (expr_code pc e)
  expr_some pc (Chain x ts) =
      let cx = operand_code pc x in
      omega (arith, operand_some pc x, length-append cx (tails_code (pc + length cx) ts))

  operand_some : (pc : ℕ) (x : Operand) → 1 ≤ length (operand_code pc x)
  operand_some pc (Literal t) = omega arith
  operand_some pc (Value v) = middle (subscripts_code pc v) (instr.Load (reference v)) []
  operand_some pc (Intrinsic v) = omega arith
  operand_some pc (Unary op x) = middle (operand_code pc x) (instr.Unary op) []
  operand_some pc (Group e) = expr_some pc e
  operand_some pc (Call f es) = middle (exprs_code pc es) (instr.CallFunction f (count es)) []
  operand_some pc (About f v es) = middle (subscripts_code pc v) _ _
  operand_some pc (Extrinsic t es) = middle (actuals_code pc es) (instr.Invoke (kept_target t) (plain_shape (shape_of es))) []
  operand_some pc (Select (Last c e)) = middle (expr_code pc c) _ _
  operand_some pc (Select (Before c e rest)) = middle (expr_code pc c) _ _

count_below : (pc : ℕ) (es : Exprs) → count es ≤ length (exprs_code pc es)
count_below pc No = omega arith
count_below pc (More e es) =
    let ce = expr_code pc e in
    omega (arith, expr_some pc e, count_below (pc + length ce) es, length-append ce (exprs_code (pc + length ce) es))

subscripts_below : (pc : ℕ) (v : Variable) → (reference v).count ≤ length (subscripts_code pc v)
subscripts_below pc (Var scope word es) = count_below pc es

pub size_below : (pc : ℕ) (d : Destination) → size d + 1 ≤ length (destination_code pc d)
size_below pc (Plain v) =
    let cs = subscripts_code pc v in
    omega (arith, subscripts_below pc v, length-append cs (instr.CheckName (reference v) ∷ []))
size_below pc (Pieces v es) =
    let cs = subscripts_code pc v in
    let ce = exprs_code (pc + length cs + 1) es in
    omega (arith, subscripts_below pc v, count_below (pc + length cs + 1) es, length-append cs (instr.CheckName (reference v) ∷ ce))

pub sizes_below : (pc : ℕ) (list : List Destination) → sizes list ≤ length (destinations_code pc list)
sizes_below pc [] = omega arith
sizes_below pc (d ∷ list) =
    let cd = destination_code pc d in
    omega (arith, size_below pc d, sizes_below (pc + length cd) list, length-append cd (destinations_code (pc + length cd) list))
