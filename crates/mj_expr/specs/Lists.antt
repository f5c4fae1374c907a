-- Where a list stands behind one of its expressions, and choices behind one.
use Rattle.std.specs.Prelude.{Option, Some, None, Box}
use Rattle.std.specs.Global.{Global}
use Rattle.mj_ast.specs.declared.expr.Choice.{Choice}
use Rattle.mj_ast.specs.Syntax.{Expr, Exprs, No, More, Choices, Last, Before}
use Rattle.mj_ast.specs.Trees.{choice_of}
use Rattle.mj_expr.specs.Machine.{State, Owner, InList, held, closed, and_more}

-- behind the last of `e` and those that follow it, with those before it in front
abbrev pub behind_from : Owner → Exprs → Expr → Exprs → State
behind_from w before e No = held e (InList w before)
behind_from w before e (More f rest) = behind_from w (and_more before e) f rest

-- behind the last of these, of which there is one at least
abbrev pub behind_list : Owner → Exprs → State
behind_list w No = closed w No
behind_list w (More e rest) = behind_from w No e rest

-- a condition and its value, with the choices behind them, if there are any
abbrev pub choices_of : Expr → Expr → Option (Box Choice Global) → Choices
choices_of a v None = Last a v
choices_of a v (Some others) = Before a v (choice_of others.value)
