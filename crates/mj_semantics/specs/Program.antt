-- What jobs run.
use Rattle.std.specs.Prelude.{List}
use Rattle.mj_ask.specs.declared.bounds.Bounds.{Bounds}
use Rattle.mj_ast.specs.Syntax.{Routine}

-- routines that are loaded together, and what jobs that run them are bound to
pub record Program : Type 0 where
  pub routines : List Routine
  pub bounds : Bounds
